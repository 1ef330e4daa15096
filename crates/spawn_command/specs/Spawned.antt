-- What a spawner that was run over posts and a spawner of processes did, and why it ended so.
use Rattle.std.specs.Prelude.{◌≡◌, ◌⊎◌, ◌↔◌, ℕ, List, [], ◌∷◌, Option, Some, None, Result, Ok, Err, true, false, length, replicate}
use Rattle.std.specs.declared.alloc.AllocError.{AllocError}
use Rattle.call_fs.specs.declared.past.ChildData.{ChildData}
use Rattle.call_fs.specs.declared.past.Own.{Own}
use Rattle.call_fs.specs.Past.{Table, taken}
use Rattle.mail_bytes.specs.Told.{Rose}
use Rattle.program_runner.specs.Lines.{LineState}
use Rattle.program_runner.specs.Outside.{FailsToGive, Outside}
use Rattle.program_runner.specs.Runs.{HasEvent, most_turns}
use Rattle.program_runner.specs.Members.{AreNoEnds, Beside, HasEndedSo, IsRunOf, Step, WasCut, events_of}
use Rattle.queue_limits.specs.declared.statuses.TheConstants.{DONE, INPUT, MALFORMED, MEMORY, OUTPUT}
use Rattle.spawn_protocol.specs.Request.{IsTooLong}
use Rattle.spawn_protocol.specs.declared.request.Request.{Request}
use Rattle.spawner_parts.specs.Causes.{has_end, programs}
use Rattle.spawner_parts.specs.Counts.{IsSettled}
use Rattle.spawner_parts.specs.Table.{none_runs}

-- Its input is channel 0; nothing came of it yet, and no program runs.
abbrev pub begun_lines : LineState
begun_lines = record { links = Some 0 ∷ None ∷ None ∷ None ∷ []; programs = replicate 256 None; over = replicate 256 false; kept = [] }

-- a field of these requests has a 4097th byte
abbrev pub HasLongField : List ℕ → Type 0
HasLongField bytes = (requests : List Request) × IsTooLong bytes requests

-- no program is left, and no give to its output failed
pub record HasNoneLeft (past : List Own) : Type 0 where
  pub none : none_runs (programs past) ≡ true
  pub gave : ¬ (HasEvent past FailsToGive)

-- It ran to its end: by its table, over what was handed in, and with this cause. It ended with 0 exactly if its requests had
-- ended and nothing was left to do, with 91 exactly if one of their fields was too long and nothing was left to do; each request
-- that it took whole has its report then. It ended with 53 only
-- if the output's count rose, with 54 only if the posts' count did. If neither rose, and no field was too long, with 0 or 51.
pub record HasRunOver (next : Unit {0} → Table) (words : ChildData → List (List ℕ)) (cause : List Own → ℕ → Type 0) (status : ℕ) (old new : Outside) (beside now : Beside) : Type 0 where
  pub ended : HasEndedSo next words (Unit {0}) (λ _. Unit {0}) old.last status old new beside now
  pub why : cause (events_of ended.before) status
  pub done : (status ≡ DONE) ↔ ((has_end (events_of ended.before) ≡ true) × HasNoneLeft (events_of ended.before))
  pub malformed : (status ≡ MALFORMED) ↔ (HasLongField (taken (events_of ended.before)) × HasNoneLeft (events_of ended.before))
  pub reported : ((status ≡ DONE) ⊎ (status ≡ MALFORMED)) → IsSettled (events_of ended.before)
  pub output : status ≡ OUTPUT → Rose old.output_faults new.output_faults
  pub input : status ≡ INPUT → Rose beside.posts.faults now.posts.faults
  pub complete : ¬ (Rose old.output_faults new.output_faults) → ¬ (Rose beside.posts.faults now.posts.faults) → ¬ (HasLongField (taken (events_of ended.before)))
      → (status ≡ DONE) ⊎ (status ≡ MEMORY)

-- it was cut short, out of memory: what it did until then is a run
abbrev pub WasCutShort : (Unit {0} → Table) → (ChildData → List (List ℕ)) → Outside → Outside → Beside → Beside → Type 0
WasCutShort next words old new beside now = WasCut next words (Unit {0}) (λ _. Unit {0}) old.last old new beside now

-- it still runs, after as many turns as a run may take
pub record StillRuns (next : Unit {0} → Table) (words : ChildData → List (List ℕ)) (old new : Outside) (beside now : Beside) : Type 0 where
  pub turns : List Step
  pub long : length turns ≡ most_turns
  pub on : AreNoEnds turns
  pub ran : IsRunOf next words (Unit {0}) (λ _. Unit {0}) turns old.last old new beside now

-- What a spawner did by this table, whose programs are started by these words; and why it ended with this status. With 51 it may
-- have been cut short.
abbrev pub WasSpawned : (Unit {0} → Table) → (ChildData → List (List ℕ)) → (cause : List Own → ℕ → Type 0) → ℕ → Outside → Outside → Beside → Beside → Type 0
WasSpawned next words cause status old new beside now =
    HasRunOver next words cause status old new beside now
    ⊎ ((status ≡ MEMORY) × (WasCutShort next words old new beside now ⊎ StillRuns next words old new beside now))

-- The exit status after a run: out of memory if it was cut short, or still runs.
abbrev pub status_of : Result (Option ℕ) AllocError → ℕ
status_of (Ok (Some status)) = status
status_of (Ok None) = MEMORY
status_of (Err why) = MEMORY
