-- The slot in which an actor runs.
use Rattle.std.proofs.Common.{◌≡◌, ℕ, ◌<◌, length, Option, Some, None, refl, subst}
use Rattle.std.specs.Option.{IsSome}
use Rattle.std.specs.List.{slice_get}
use Rattle.std.proofs.lemmas.Option.{slice_get_within}
use Rattle.world_pipes.specs.declared.mouths.Mouths.{Mouths}
use Rattle.world_pipes.specs.declared.mouths.Slot.{Slot}
use Rattle.world_pipes.specs.Mouths.{runs_in, tenant_of, actor_of}

has_slot : (o : Option Slot) → IsSome (actor_of (runs_in o)) → (slot : Slot) × (o ≡ Some slot)
has_slot None some = absurd (cc)
has_slot (Some slot) some = (slot, refl)

pub slot_there : (m : Mouths) (d : ℕ) → IsSome (actor_of (tenant_of m d)) → d < length m.slots.items
slot_there m d some = let slot = has_slot (slice_get m.slots.items d) some in slice_get_within m.slots.items d slot.0 slot.1

pub actor_there : (m : Mouths) (d : ℕ) (slot : Slot) → slice_get m.slots.items d ≡ Some slot → IsSome (actor_of (tenant_of m d)) → IsSome (actor_of (runs_in (Some slot)))
actor_there m d slot is some = subst (λ (o : Option Slot). IsSome (actor_of (runs_in o))) is some
