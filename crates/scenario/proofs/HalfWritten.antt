-- A write that failed and changed nothing happened as if it had written nothing.
use Rattle.std.proofs.Common.{◌≡◌, ◌≢◌, ℕ, List, Option, Some, None, refl, sym, ap, ◌∙◌, ⊎_elim}
use Rattle.std.proofs.Math.Path.{fun_ext}
use Rattle.call_fs.specs.declared.calls.CallData.{CallData}
use Rattle.call_fs.specs.declared.calls.CallData.TheVariants as call
use Rattle.call_fs.specs.declared.calls.Answer.{Answer}
use Rattle.call_fs.specs.declared.calls.Answer.TheVariants.{Created, Opened, Count, Done, Stat, Name, NoName, Refused}
use Rattle.call_fs.specs.declared.calls.FsError.TheVariants.{NotThere, Exists, Fault, Memory}
use Rattle.call_fs.specs.declared.calls.Told.{Told}
use Rattle.call_fs.specs.declared.program.Ready.{Ready}
use Rattle.call_fs.specs.Disk.{Disk, File, Open}
use Rattle.call_fs.specs.Apply.{effect, changed, Fits}
use Rattle.call_fs.proofs.Maps.{put_cases}
use Rattle.mail_world.specs.History.{Actor, State, Allowed, call_act, called, happens}
use Rattle.mail_world.proofs.Unwritten.{wrote_nothing}
use Rattle.crash_fs.proofs.PlannedAnswers.{fits_unwritten}

unchanged : (d : Disk) (o : Option Open) → changed d o (λ f. f) ≡ d
unchanged d None = refl
unchanged d (Some o) =
    ap (λ (files : ℕ → File). let x : Disk = record { dirs = d.dirs; names = d.names; files = files; opens = d.opens } in x)
    (fun_ext (λ n. ⊎_elim (λ h. h.1 ∙ ap d.files (sym h.0)) (λ h. h.1) (put_cases d.files o.number (d.files o.number) n)))

fault_nothing : (d : Disk) (now : ℕ) (c : CallData) → effect d now c (Refused Fault) 0 ≡ d
fault_nothing d now (call.CreateExcl name) = refl
fault_nothing d now (call.Open name how) = refl
fault_nothing d now (call.ReadAt fd at len) = refl
fault_nothing d now (call.WriteAt fd at bytes) = unchanged d (d.opens fd.0)
fault_nothing d now (call.Append fd bytes) = unchanged d (d.opens fd.0)
fault_nothing d now (call.Truncate fd len) = refl
fault_nothing d now (call.Sync fd) = refl
fault_nothing d now (call.Close fd) = refl
fault_nothing d now (call.Link old new) = refl
fault_nothing d now (call.Unlink name) = refl
fault_nothing d now (call.Stat name) = refl
fault_nothing d now (call.NextName dir last) = refl

-- what a call did that left nothing half written
abbrev IsNothing : Disk → ℕ → CallData → Answer → ℕ → Type 0
IsNothing d now c answer w = (Fits d c answer w → Fits d c answer 0) × (effect d now c answer w ≡ effect d now c answer 0)

no_fault : (d : Disk) (now : ℕ) (c : CallData) (answer : Answer) (w : ℕ) → answer ≢ Refused Fault → IsNothing d now c answer w
no_fault d now c answer w other = let same = wrote_nothing d c answer w other in (same.0, same.1 now)

none_written : (d : Disk) (now : ℕ) (c : CallData) (answer : Answer) (w : ℕ) → (answer ≡ Refused Fault → effect d now c answer w ≡ d) → IsNothing d now c answer w
none_written d now c (Refused Fault) w nothing = (fits_unwritten d c (Refused Fault) w, nothing refl ∙ sym (fault_nothing d now c))
none_written d now c (Refused NotThere) w nothing = no_fault d now c (Refused NotThere) w (λ e. absurd (cc))
none_written d now c (Refused Exists) w nothing = no_fault d now c (Refused Exists) w (λ e. absurd (cc))
none_written d now c (Refused Memory) w nothing = no_fault d now c (Refused Memory) w (λ e. absurd (cc))
none_written d now c (Created fd n) w nothing = no_fault d now c (Created fd n) w (λ e. absurd (cc))
none_written d now c (Opened fd) w nothing = no_fault d now c (Opened fd) w (λ e. absurd (cc))
none_written d now c (Count n) w nothing = no_fault d now c (Count n) w (λ e. absurd (cc))
none_written d now c Done w nothing = no_fault d now c Done w (λ e. absurd (cc))
none_written d now c (Stat stat) w nothing = no_fault d now c (Stat stat) w (λ e. absurd (cc))
none_written d now c (Name name) w nothing = no_fault d now c (Name name) w (λ e. absurd (cc))
none_written d now c NoName w nothing = no_fault d now c NoName w (λ e. absurd (cc))

called_same : (s : State) (a : List ℕ) (read : ℕ) (ready : Ready) (c : CallData) (got : Told) (w v : ℕ) (o : Option Actor) → effect s.disk read c got.answer w ≡ effect s.disk read c got.answer v
    → called s a read ready c got w o ≡ called s a read ready c got v o
called_same s a read ready c got w v None same = refl
called_same s a read ready c got w v (Some x) same =
    let t = called s a read ready c got w (Some x) in
    ap (λ (d : Disk). let x : State = record { disk = d; holder = t.holder; now = t.now; actors = t.actors; books = t.books; pipework = t.pipework } in x) same

pub call_wrote_none : (s : State) (a : List ℕ) (read : ℕ) (ready : Ready) (c : CallData) (got : Told) (w : ℕ) → (got.answer ≡ Refused Fault → effect s.disk read c got.answer w ≡ s.disk)
    → Allowed s (call_act a read ready c got w) → Allowed s (call_act a read ready c got 0) × (happens s (call_act a read ready c got w) ≡ happens s (call_act a read ready c got 0))
call_wrote_none s a read ready c got w nothing allowed =
    let same = none_written s.disk read c got.answer w nothing in (
      record { actor = allowed.actor; reads = allowed.reads; finds = allowed.finds; due = allowed.due; came = (same.0 allowed.came.0, allowed.came.1) },
      called_same s a read ready c got w 0 (s.actors a) same.1,
    )
