-- A delivery that is run, so far.
use Rattle.std.specs.Prelude.{◌≡◌, ℕ, List, length, Option, Some, None, Result, Ok, Err}
use Rattle.std.specs.declared.alloc.AllocError.{AllocError}
use Rattle.call_fs.specs.declared.past.ChildData.{ChildData}
use Rattle.call_fs.specs.declared.past.NeedData.TheVariants.{Ended}
use Rattle.call_fs.specs.declared.past.Own.{Own}
use Rattle.call_fs.specs.declared.program.TheConstants.{INPUT_READY}
use Rattle.local_parts.specs.declared.arguments.LocalArgs.{LocalArgs}
use Rattle.local_deliver.specs.Table.{Next}
use Rattle.program_runner.specs.Outside.{Looks, Outside}
use Rattle.program_runner.specs.Runs.{most_turns}
use Rattle.queue_limits.specs.declared.statuses.TheConstants.{MEMORY}
use Rattle.local_command.specs.Done.{Children, Deed, HasDone, events_of, injector_of}

-- it goes on after so many events
pub record IsUnderway (words : ChildData → List (List ℕ)) (args : LocalArgs) (stands : LocalArgs → List Own → Type 0) (chan : Option ℕ) (start count : ℕ) (old now : Outside) (children later : Children) : Type 0 where
  pub deeds : List Deed
  pub long : length deeds ≡ count
  pub is : stands args (events_of deeds)
  pub done : HasDone words args deeds start old now children later
  pub channel : chan ≡ injector_of deeds

-- it has ended with this status
pub record HasEnded (words : ChildData → List (List ℕ)) (args : LocalArgs) (start status : ℕ) (old new : Outside) (children now : Children) : Type 0 where
  pub deeds : List Deed
  pub read : ℕ
  pub mid : Outside
  pub done : HasDone words args deeds start old mid children now
  pub looks : Looks read mid new
  pub ends : Next args (events_of deeds) read INPUT_READY ≡ Ended status

-- it was cut short
pub record HasStopped (words : ChildData → List (List ℕ)) (args : LocalArgs) (start : ℕ) (old new : Outside) (children now : Children) : Type 0 where
  pub deeds : List Deed
  pub done : HasDone words args deeds start old new children now

-- it still runs
pub record HasGoneOn (words : ChildData → List (List ℕ)) (args : LocalArgs) (start : ℕ) (old new : Outside) (children now : Children) : Type 0 where
  pub deeds : List Deed
  pub long : length deeds ≡ most_turns
  pub done : HasDone words args deeds start old new children now

abbrev pub RanTo : Result (Option ℕ) AllocError → (ChildData → List (List ℕ)) → LocalArgs → ℕ → Outside → Outside → Children → Children → Type 0
RanTo (Ok (Some status)) words args start old new children now = HasEnded words args start status old new children now
RanTo (Ok None) words args start old new children now = HasGoneOn words args start old new children now
RanTo (Err why) words args start old new children now = HasStopped words args start old new children now

-- The exit status after a run: out of memory if it was cut short, or still runs.
abbrev pub status_of : Result (Option ℕ) AllocError → ℕ
status_of (Ok (Some status)) = status
status_of (Ok None) = MEMORY
status_of (Err why) = MEMORY
