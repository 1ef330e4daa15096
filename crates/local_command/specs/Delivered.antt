-- What the command `local` did, and why it ended so (qmail-local(8)).
use Rattle.std.specs.Prelude.{◌≡◌, ◌⊎◌, ℕ, List}
use Rattle.call_fs.specs.declared.past.ChildData.{ChildData}
use Rattle.call_fs.specs.declared.past.GotData.TheVariants as got
use Rattle.call_fs.specs.declared.past.NeedData.{NeedData}
use Rattle.call_fs.specs.declared.past.NeedData.TheVariants.{Take, Give, Start, Command}
use Rattle.call_fs.specs.declared.past.Own.{Own}
use Rattle.call_fs.specs.declared.program.Port.TheVariants as port
use Rattle.local_parts.specs.declared.arguments.LocalArgs.{LocalArgs}
use Rattle.local_deliver.specs.Causes.{IsCausedBy}
use Rattle.mail_bytes.specs.Told.{Rose}
use Rattle.program_runner.specs.Outside.{Outside}
use Rattle.program_runner.specs.Runs.{HasEvent}
use Rattle.queue_limits.specs.declared.statuses.TheConstants.{DONE, MEMORY}
use Rattle.local_command.specs.Done.{Children, events_of}
use Rattle.local_command.specs.Running.{HasEnded, HasGoneOn, HasStopped}
use Rattle.local_command.specs.Unhindered.{IsUnhindered}

-- a need that children serve
abbrev pub IsOfChild : NeedData → Type 0
IsOfChild (Start child) = Unit {0}
IsOfChild (Command text) = Unit {0}
IsOfChild (Give (port.Program slot) bytes) = Unit {0}
IsOfChild (Take (port.Status slot)) = Unit {0}
IsOfChild other = ⊥

-- a child couldn't be started or fed, or its status couldn't be had
pub record FailsOverChild (event : Own) : Type 0 where
  pub due : IsOfChild event.due
  pub came : event.came ≡ got.Failed

-- no count of failures rose: the disk's, the input's, the output's, the spawner's
pub record IsCalm (old new : Outside) (children now : Children) : Type 0 where
  pub disk : ¬ (Rose old.disk_faults new.disk_faults)
  pub input : ¬ (Rose old.input_faults new.input_faults)
  pub output : ¬ (Rose old.output_faults new.output_faults)
  pub spawner : ¬ (Rose children.spawner.faults now.spawner.faults)

-- It was run to its end: at the last moment that was read it had ended with this status, which has its cause in what it did. Each
-- failure of a child was counted by the spawner, and those of the disk, the input and the output by these (`Did`). If nothing
-- hinders it and no count rose, it ended with 0 or 51.
pub record HasDelivered (words : ChildData → List (List ℕ)) (args : LocalArgs) (old new : Outside) (children now : Children) (status : ℕ) : Type 0 where
  pub ended : HasEnded words args old.last status old new children now
  pub why : IsCausedBy args (events_of ended.deeds) status
  pub counted : HasEvent (events_of ended.deeds) FailsOverChild → Rose children.spawner.faults now.spawner.faults
  pub complete : IsUnhindered args (events_of ended.deeds) → IsCalm old new children now → (status ≡ DONE) ⊎ (status ≡ MEMORY)

-- What the command did with these arguments. 51 may also tell that there was no memory for what came of an event, which was done
-- all the same, or that no more events may come.
abbrev pub WasDelivered : (ChildData → List (List ℕ)) → LocalArgs → Outside → Outside → Children → Children → ℕ → Type 0
WasDelivered words args old new children now status =
    HasDelivered words args old new children now status
    ⊎ ((status ≡ MEMORY) × (HasStopped words args old.last old new children now ⊎ HasGoneOn words args old.last old new children now))
