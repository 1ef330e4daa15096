-- A call that met no fault happened as if it had left nothing half written.
use Rattle.std.proofs.Common.{◌≡◌, ◌≢◌, ℕ, refl}
use Rattle.call_fs.specs.declared.calls.CallData.{CallData}
use Rattle.call_fs.specs.declared.calls.CallData.TheVariants as call
use Rattle.call_fs.specs.declared.calls.Answer.{Answer}
use Rattle.call_fs.specs.declared.calls.Answer.TheVariants.{Refused}
use Rattle.call_fs.specs.declared.calls.FsError.TheVariants.{Fault}
use Rattle.call_fs.specs.Disk.{Disk}
use Rattle.call_fs.specs.Apply.{effect, Fits}

pub wrote_nothing : (d : Disk) (c : CallData) (answer : Answer) (w : ℕ) → answer ≢ Refused Fault
    → (Fits d c answer w → Fits d c answer 0) × ((now : ℕ) → effect d now c answer w ≡ effect d now c answer 0)
wrote_nothing d (call.CreateExcl name) (Refused Fault) w other = absurd (other refl)
wrote_nothing d (call.Open name how) (Refused Fault) w other = absurd (other refl)
wrote_nothing d (call.ReadAt fd at len) (Refused Fault) w other = absurd (other refl)
wrote_nothing d (call.WriteAt fd at bytes) (Refused Fault) w other = absurd (other refl)
wrote_nothing d (call.Append fd bytes) (Refused Fault) w other = absurd (other refl)
wrote_nothing d (call.Truncate fd len) (Refused Fault) w other = absurd (other refl)
wrote_nothing d (call.Sync fd) (Refused Fault) w other = absurd (other refl)
wrote_nothing d (call.Close fd) (Refused Fault) w other = absurd (other refl)
wrote_nothing d (call.Link old new) (Refused Fault) w other = absurd (other refl)
wrote_nothing d (call.Unlink name) (Refused Fault) w other = absurd (other refl)
wrote_nothing d (call.Stat name) (Refused Fault) w other = absurd (other refl)
wrote_nothing d (call.NextName dir last) (Refused Fault) w other = absurd (other refl)
wrote_nothing d c answer w other = ((λ fits. fits), (λ now. refl))
