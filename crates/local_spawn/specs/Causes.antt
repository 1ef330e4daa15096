-- Why a local spawner has ended, by its past alone: why any spawner does (spawner_parts `specs/Causes.antt`), or out of memory in
-- its start.
use Rattle.std.specs.Prelude.{◌≡◌, ℕ, List, [], ◌∷◌}
use Rattle.call_fs.specs.declared.calls.Answer.TheVariants as answer
use Rattle.call_fs.specs.declared.calls.CallData.TheVariants as call
use Rattle.call_fs.specs.declared.calls.FsError.TheVariants as why
use Rattle.call_fs.specs.declared.calls.How.TheVariants as how
use Rattle.call_fs.specs.declared.past.GotData.{GotData}
use Rattle.call_fs.specs.declared.past.GotData.TheVariants as came
use Rattle.call_fs.specs.declared.past.NeedData.{NeedData}
use Rattle.call_fs.specs.declared.past.NeedData.TheVariants as needs
use Rattle.call_fs.specs.declared.past.Own.{Own}
use Rattle.queue_limits.specs.declared.statuses.TheConstants.{MEMORY}
use Rattle.spawner_parts.specs.Causes.{IsEnded, IsFailed}
use Rattle.local_spawn.specs.Table.{users_name}

-- users/assign couldn't be opened for memory
pub data Starves : NeedData → GotData → Type 0 where
  OpenRefused : (bytes : List ℕ) → Starves (needs.File (call.Open users_name how.Read)) (came.Answered (record { answer = answer.Refused why.Memory; bytes = bytes }))

-- that is all that it did
abbrev pub IsStarved : List Own → Type 0
IsStarved (event ∷ []) = Starves event.due event.came
IsStarved other = ⊥

pub data HasEnded (past : List Own) (status : ℕ) : Type 0 where
  AsAny : IsEnded past status → HasEnded past status
  InItsStart : IsStarved past → status ≡ MEMORY → HasEnded past status

pub data HasFailed (past : List Own) (status : ℕ) : Type 0 where
  AsAny : IsFailed past status → HasFailed past status
  InItsStart : IsStarved past → status ≡ MEMORY → HasFailed past status
