-- How many requests a spawner was given for a slot, and what became of them, by its past alone.
use Rattle.std.specs.Prelude.{◌≡◌, ℕ, ◌+◌, List, [], ◌∷◌, ◌++◌, Bool, false, cond, ◌==◌}
use Rattle.call_fs.specs.declared.past.ChildData.{ChildData}
use Rattle.call_fs.specs.declared.past.GotData.{GotData}
use Rattle.call_fs.specs.declared.past.GotData.TheVariants as came
use Rattle.call_fs.specs.declared.past.NeedData.{NeedData}
use Rattle.call_fs.specs.declared.past.NeedData.TheVariants as needs
use Rattle.call_fs.specs.declared.past.Own.{Own}
use Rattle.call_fs.specs.declared.program.Port.TheVariants as port
use Rattle.spawn_protocol.specs.Request.{HasRead, Reader}
use Rattle.spawn_protocol.specs.declared.request.Request.{Request}
use Rattle.spawner_parts.specs.Asked.{is_bad, runs_in}
use Rattle.spawner_parts.specs.Causes.{IsFailed, programs, slot_of}
use Rattle.call_fs.specs.Past.{taken}

-- a report begins with its slot; the one byte that is given first is none
abbrev pub with_report : List ℕ → List ℕ → List ℕ
with_report [] old = old
with_report (byte ∷ []) old = old
with_report (slot ∷ (letter ∷ text)) old = slot ∷ old

abbrev pub reported_by : List ℕ → NeedData → GotData → List ℕ
reported_by old (needs.Give port.Output bytes) came.Gave = with_report bytes old
reported_by old due got = old

-- the slots of the reports that were given
abbrev pub reported : List Own → List ℕ
reported [] = []
reported (event ∷ before) = reported_by (reported before) event.due event.came

-- one if it is this slot
abbrev pub one : ℕ → ℕ → ℕ
one slot other = cond (other == slot) 1 0

-- how many of the requests are for a slot
abbrev pub asked : ℕ → List Request → ℕ
asked slot [] = 0
asked slot (r ∷ more) = one slot r.slot + asked slot more

-- how often a slot stands among these
abbrev pub times : ℕ → List ℕ → ℕ
times slot [] = 0
times slot (other ∷ more) = one slot other + times slot more

-- how many programs run in a slot: one or none
abbrev pub runs : ℕ → List Bool → ℕ
runs slot running = cond (runs_in running slot) 1 0

-- how many requests for a slot have their report, or a program
abbrev pub dealt_with : ℕ → List Own → ℕ
dealt_with slot past = times slot (reported past) + runs slot (programs past)

-- it waits, takes requests, or has ended without a failure
abbrev pub IsAtRest : List Own → NeedData → Type 0
IsAtRest past needs.Wait = Unit {0}
IsAtRest past (needs.Take port.Input) = Unit {0}
IsAtRest past (needs.Ended status) = ¬ (IsFailed past status)
IsAtRest past due = ⊥

-- A program is to be started for this request, which isn't bad, and runs in its slot. Each request before it has its report,
-- or a program.
pub record IsStart (past : List Own) (requests : List Request) (request : Request) (program : ChildData) : Type 0 where
  pub before : List Request
  pub after : List Request
  pub split : requests ≡ before ++ request ∷ after
  pub runs : slot_of program ≡ request.slot
  pub good : is_bad (programs past) request ≡ false
  pub others : (slot : ℕ) → asked slot before ≡ dealt_with slot past

-- Each request has its report, and nothing failed.
pub record IsSettled (past : List Own) : Type 0 where
  pub requests : List Request
  pub reader : Reader
  pub read : HasRead (taken past) requests reader
  pub each : (slot : ℕ) → asked slot requests ≡ times slot (reported past)
  pub well : (status : ℕ) → ¬ (IsFailed past status)
