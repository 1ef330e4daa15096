-- What a command over the real things does.
use Rattle.std.specs.Prelude.{◌⊎◌, ℕ, List, [], ◌∷◌, Contains, String}
use Rattle.std.specs.declared.alloc.Global.{Global}
use Rattle.local_parts.specs.declared.endings.TheConstants.{TEMPORARY}
use Rattle.queue_limits.specs.declared.statuses.TheConstants.{IN_PID, INPUT, NO_START, USAGE}
use Rattle.top_call.specs.Lent.{Deed, IsStatusOf}

-- a status of a command that is refused before the call: for its environment, for whose the queue is, or for its lock
abbrev pub IsRefusal : ℕ → Type 0
IsRefusal status = Contains (IN_PID ∷ INPUT ∷ NO_START ∷ USAGE ∷ TEMPORARY ∷ []) status

-- The call was made with these words, or with none if the queue's directory has no name, and this is its status; or no call was made,
-- and this is the status of a refusal.
abbrev pub WasRun : Deed → List (String Global) → ℕ → Type 0
WasRun does words status = IsStatusOf does words status ⊎ (IsStatusOf does [] status ⊎ IsRefusal status)
