-- Channels on which nothing is in flight.
use Rattle.std.proofs.Common.{◌≡◌, ◌<◌, List, inl, inr, Option, Some, None, subst}
use Rattle.std.specs.Prelude.{All, IsSome, length}
use Rattle.retry_schedule.specs.Due.{IsInOrder}
use Rattle.send_core.specs.Desk.{due_on}
use Rattle.send_jobs.specs.declared.attempts.Attempt.{Attempt}
use Rattle.send_jobs.specs.Lanes.{next}
use Rattle.send_jobs.specs.Sending.{lane}
use Rattle.send_jobs.specs.Slots.{IsLeastFree, attempt_in, lowest}
use Rattle.send_jobs.proofs.SlotLemmas.{lowest_is_least}
use Rattle.settle_law.specs.inside.Rests.{FreeChannelsRest}
use Rattle.settle_law.specs.Rests.{PassRests}
use Rattle.settle_law.proofs.IdleTurns.{is_none}

some_none : (slot : Option Attempt) → IsSome slot → slot ≡ None → ⊥
some_none None h e = cc
some_none (Some a) h e = cc

all_taken : (slots : List (Option Attempt)) → 0 < length slots → attempt_in slots 0 ≡ None → IsLeastFree slots None → ⊥
all_taken slots some free taken = some_none (attempt_in slots 0) (taken 0 None some) free

has_free : (slots : List (Option Attempt)) → 0 < length slots → attempt_in slots 0 ≡ None → lowest slots ≡ None → ⊥
has_free slots some free e = all_taken slots some free (subst (IsLeastFree slots) e (lowest_is_least slots))

pub rests_free : FreeChannelsRest
rests_free d now ready c rest some free = by_rest (rest.passes c)
  where
    by_rest : PassRests now (lane c d.slots) (due_on c d.book.messages) → (next (lane c d.slots) ≡ None) × (IsInOrder (due_on c d.book.messages) → All (λ e. now < e.0) (due_on c d.book.messages))
    by_rest (inl waits) = absurd (has_free (lane c d.slots).slots some (free 0) waits.1)
    by_rest (inr none) = (is_none (next (lane c d.slots)) none.0, none.1)
