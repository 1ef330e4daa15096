-- What a disk answers whose machine can be stopped is what its plan says.
use Rattle.std.proofs.Common.{◌≡◌, ◌≢◌, ℕ, Option, Some, subst, arith}
use Rattle.call_fs.specs.declared.calls.FsError.TheVariants.{Fault, Memory}
use Rattle.call_fs.specs.declared.calls.CallData.{CallData}
use Rattle.call_fs.specs.declared.calls.CallData.TheVariants as call
use Rattle.call_fs.specs.declared.calls.Answer.{Answer}
use Rattle.call_fs.specs.declared.calls.Answer.TheVariants as told
use Rattle.call_fs.specs.declared.calls.Told.{Told}
use Rattle.call_fs.specs.Disk.{Disk}
use Rattle.call_fs.specs.Apply.{Fits}
use Rattle.call_fs.specs.Plan.{Plan, CallKeepsPlan}
use Rattle.crash_fs.specs.Answers.{Answers, plan_left_by}
use Rattle.crash_fs.specs.Crash.{Crash, crash_disk, crash_plan, CrashWent}
use Rattle.crash_fs.proofs.CountedCalls.{done_by}

-- what may be answered of a write that had written something may be answered of one that had written nothing
pub fits_unwritten : (d : Disk) (c : CallData) (answer : Answer) (w : ℕ) → Fits d c answer w → Fits d c answer 0
fits_unwritten d (call.CreateExcl name) (told.Refused Fault) w fits = fits
fits_unwritten d (call.Open name how) (told.Refused Fault) w fits = fits
fits_unwritten d (call.ReadAt fd place len) (told.Refused Fault) w fits = fits
fits_unwritten d (call.WriteAt fd place bytes) (told.Refused Fault) w fits = (fits.0, omega arith)
fits_unwritten d (call.Append fd bytes) (told.Refused Fault) w fits = (fits.0, omega arith)
fits_unwritten d (call.Truncate fd len) (told.Refused Fault) w fits = fits
fits_unwritten d (call.Sync fd) (told.Refused Fault) w fits = fits
fits_unwritten d (call.Close fd) (told.Refused Fault) w fits = fits
fits_unwritten d (call.Link old new) (told.Refused Fault) w fits = fits
fits_unwritten d (call.Unlink name) (told.Refused Fault) w fits = fits
fits_unwritten d (call.Stat name) (told.Refused Fault) w fits = fits
fits_unwritten d (call.NextName dir last) (told.Refused Fault) w fits = fits
fits_unwritten d c answer w fits = fits

pub by_plan : (old new : Crash) (now : ℕ) (c : CallData) (got : Told) (plan : Plan) → CrashWent old new now c got → crash_plan old ≡ Some plan
    → got.answer ≢ told.Refused Memory → Answers plan (crash_disk old) c got × (crash_plan new ≡ Some (plan_left_by c plan got.answer))
by_plan old new now c got plan went is memory =
    let d = crash_disk old in
    let e = crash_disk new in
    let may = went.told in
    let kept = subst (λ (o : Option Plan). CallKeepsPlan c o (crash_plan new) (Some d) (Some e) got.answer) is went.plan in
    let by = done_by c d plan (crash_plan new) d e got.answer may.0 may.1 kept in (
      record { fits = fits_unwritten d c got.answer may.0 may.1; bytes = went.read; fails = by.fails; takes = by.takes; no_memory = memory },
      by.planned,
    )
