-- Why a spawner has ended, by its past alone; what happens in its start counts for nothing here.
use Rattle.std.specs.Prelude.{◌≡◌, ◌⊎◌, ℕ, List, [], ◌∷◌, replicate, set, Bool, true, false}
use Rattle.call_fs.specs.declared.past.ChildData.{ChildData}
use Rattle.call_fs.specs.declared.past.ChildData.TheVariants as child
use Rattle.call_fs.specs.declared.past.GotData.{GotData}
use Rattle.call_fs.specs.declared.past.GotData.TheVariants as came
use Rattle.call_fs.specs.declared.past.NeedData.{NeedData}
use Rattle.call_fs.specs.declared.past.NeedData.TheVariants as needs
use Rattle.call_fs.specs.declared.past.Own.{Own}
use Rattle.call_fs.specs.declared.program.Port.TheVariants as port
use Rattle.queue_limits.specs.declared.statuses.TheConstants.{DONE, INPUT, MALFORMED, OUTPUT}
use Rattle.spawn_protocol.specs.Request.{IsTooLong}
use Rattle.spawn_protocol.specs.declared.request.Request.{Request}
use Rattle.spawner_parts.specs.declared.place.TheConstants.{SLOTS}
use Rattle.spawner_parts.specs.Table.{none_runs}
use Rattle.call_fs.specs.Past.{taken}

abbrev pub end_by : Bool → NeedData → GotData → Bool
end_by old (needs.Take port.Input) came.End = true
end_by old due got = old

-- their end has come
abbrev pub has_end : List Own → Bool
has_end [] = false
has_end (event ∷ before) = end_by (has_end before) event.due event.came

-- the slot in which a program runs; an only child runs in slot 0
abbrev pub slot_of : ChildData → ℕ
slot_of (child.Remote slot domain sender recipient) = slot
slot_of (child.Local slot words uid) = slot
slot_of other = 0

abbrev pub programs_by : List Bool → NeedData → GotData → List Bool
programs_by old (needs.Start program) (came.Started pid) = set old (slot_of program) true
programs_by old (needs.Take (port.Status slot)) got = set old slot false
programs_by old due got = old

-- in which slots a program runs: one that was started, and whose status wasn't taken since
abbrev pub programs : List Own → List Bool
programs [] = replicate SLOTS false
programs (event ∷ before) = programs_by (programs before) event.due event.came

-- With which status a failed give or taking ends it: 53, a give to its output failed; 54, its requests couldn't be taken, or
-- what a program printed.
pub data EndsWith : ℕ → NeedData → GotData → Type 0 where
  GiveFailed : (bytes : List ℕ) → EndsWith OUTPUT (needs.Give port.Output bytes) came.Failed
  RequestsFailed : EndsWith INPUT (needs.Take port.Input) came.Failed
  ProgramFailed : (slot : ℕ) → EndsWith INPUT (needs.Take (port.Program slot)) came.Failed

-- its last event was such a failure
abbrev pub IsFailed : List Own → ℕ → Type 0
IsFailed [] status = ⊥
IsFailed (event ∷ before) status = EndsWith status event.due event.came

-- No program runs, and its requests have ended, or a field of them has a 4097th byte.
pub data IsOver (past : List Own) : ℕ → Type 0 where
  RequestsEnded : has_end past ≡ true → none_runs (programs past) ≡ true → IsOver past DONE
  FieldTooLong : (requests : List Request) → IsTooLong (taken past) requests → none_runs (programs past) ≡ true → IsOver past MALFORMED

abbrev pub IsEnded : List Own → ℕ → Type 0
IsEnded past status = IsFailed past status ⊎ IsOver past status
