-- Which status a spawner never ends with.
use Rattle.std.proofs.Common.{◌≢◌, ℕ, List, [], ◌∷◌, inl, inr, arith}
use Rattle.call_fs.specs.declared.past.ChildData.{ChildData}
use Rattle.call_fs.specs.declared.past.GotData.{GotData}
use Rattle.call_fs.specs.declared.past.NeedData.{NeedData}
use Rattle.call_fs.specs.declared.past.Own.{Own}
use Rattle.call_fs.specs.Past.{Table}
use Rattle.local_spawn.specs.Causes.{HasEnded}
use Rattle.local_spawn.specs.Causes.HasEnded.{AsAny, InItsStart}
use Rattle.program_runner.specs.Members.{Beside}
use Rattle.program_runner.specs.Outside.{Outside}
use Rattle.spawn_command.specs.Spawned.{WasSpawned}
use Rattle.spawner_parts.specs.Causes.{EndsWith, IsEnded, IsFailed, IsOver}
use Rattle.spawner_parts.specs.Causes.EndsWith.{GiveFailed, RequestsFailed, ProgramFailed}
use Rattle.spawner_parts.specs.Causes.IsOver.{RequestsEnded, FieldTooLong}

no_failure : (status : ℕ) (due : NeedData) (came : GotData) → EndsWith status due came → status ≢ 100
no_failure _ _ _ (GiveFailed bytes) e = absurd (omega arith)
no_failure _ _ _ RequestsFailed e = absurd (omega arith)
no_failure _ _ _ (ProgramFailed slot) e = absurd (omega arith)

not_failed : (past : List Own) (status : ℕ) → IsFailed past status → status ≢ 100
not_failed [] status failed e = failed
not_failed (event ∷ before) status failed e = no_failure status event.due event.came failed e

not_over : (past : List Own) (status : ℕ) → IsOver past status → status ≢ 100
not_over past _ (RequestsEnded end none) e = absurd (omega arith)
not_over past _ (FieldTooLong requests long none) e = absurd (omega arith)

-- why any spawner ends
pub ended_otherwise : (past : List Own) (status : ℕ) → IsEnded past status → status ≢ 100
ended_otherwise past status (inl failed) e = not_failed past status failed e
ended_otherwise past status (inr over) e = not_over past status over e

-- why the local one does
pub locally_otherwise : (past : List Own) (status : ℕ) → HasEnded past status → status ≢ 100
locally_otherwise past status (AsAny ended) e = ended_otherwise past status ended e
locally_otherwise past status (InItsStart starved is) e = absurd (omega arith)

pub spawned_otherwise : (next : Unit {0} → Table) (words : ChildData → List (List ℕ)) (cause : List Own → ℕ → Type 0) (status : ℕ) (old new : Outside) (beside now : Beside)
    → ((past : List Own) (s : ℕ) → cause past s → s ≢ 100) → WasSpawned next words cause status old new beside now → status ≢ 100
spawned_otherwise next words cause status old new beside now causes (inl ran) e = causes _ _ ran.why e
spawned_otherwise next words cause status old new beside now causes (inr cut) e = let memory = cut.0 in absurd (omega arith)
