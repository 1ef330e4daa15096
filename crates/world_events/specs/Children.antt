-- The children that actors start: their names and programs, and how many were started.
use Rattle.std.specs.Prelude.{ℕ, ◌+◌, List, Bool, true, false, Option, Some, None, count_by}
use Rattle.actor_names.specs.ChildNames.{bounce_name, delivery_name, forward_of}
use Rattle.call_fs.specs.declared.past.ChildData.{ChildData}
use Rattle.call_fs.specs.declared.past.ChildData.TheVariants as child
use Rattle.local_parts.specs.Arguments.{local_args}
use Rattle.received_line.specs.declared.line.Invoked.{Invoked}
use Rattle.received_line.specs.declared.line.Invoked.TheVariants as invoking
use Rattle.world_events.specs.Inputs.{bounce, forward}
use Rattle.world_events.specs.declared.event.Event.{Event as Kept}
use Rattle.world_events.specs.declared.event.Event.TheVariants as kept
use Rattle.world_events.specs.declared.event.Program.{Program}
use Rattle.world_events.specs.declared.event.Program.TheVariants.{Injector, Delivery}

-- how many injectors of bounces, and how many local deliveries, were started
pub record Counts : Type 0 where
  pub bounces : ℕ
  pub deliveries : ℕ

abbrev pub counted : ℕ → ℕ → Counts
counted bounces deliveries = record { bounces = bounces; deliveries = deliveries }

abbrev pub is_for_bounce : Invoked → Bool
is_for_bounce invoking.Bounce = true
is_for_bounce (invoking.Uid uid) = false

abbrev pub is_bounce : Program → Bool
is_bounce (Injector args) = is_for_bounce args.invoked
is_bounce other = false

abbrev pub is_delivery : Program → Bool
is_delivery (Delivery start args) = true
is_delivery other = false

abbrev pub is_bounce_start : Kept → Bool
is_bounce_start (kept.Child a own c program) = is_bounce program
is_bounce_start event = false

abbrev pub is_delivery_start : Kept → Bool
is_delivery_start (kept.Child a own c program) = is_delivery program
is_delivery_start event = false

abbrev pub counts_in : List Kept → Counts
counts_in events = counted (count_by is_bounce_start events) (count_by is_delivery_start events)

-- The child that an actor starts, if so many were started before: its name, and its program, with this process number, and with this
-- moment as its start. The next bounce and the next delivery have the next number, and a forward has the number of its delivery. A remote
-- program is no actor.
abbrev pub child_of : Counts → List ℕ → ChildData → ℕ → ℕ → Option (List ℕ × Program)
child_of before a (child.Bounce room) pid start = Some (bounce_name (before.bounces + 1), Injector (bounce pid start))
child_of before a (child.Forward uid room) pid start = Some (forward_of a, Injector (forward uid pid start))
child_of before a (child.Local slot words uid) pid start = Some (delivery_name (before.deliveries + 1), Delivery start (local_args words uid pid))
child_of before a (child.Remote slot domain sender recipient) pid start = None

-- the counts after this start
abbrev pub counts_with : Counts → ChildData → Counts
counts_with before (child.Bounce room) = counted (before.bounces + 1) before.deliveries
counts_with before (child.Local slot words uid) = counted before.bounces (before.deliveries + 1)
counts_with before asked = before

-- it is an actor that is to start
abbrev pub IsActor : ChildData → Type 0
IsActor (child.Remote slot domain sender recipient) = ⊥
IsActor asked = Unit {0}

-- the place of the entry in the books of an actor that starts, after so many: an injector has one
abbrev pub entry_after : ℕ → Program → Option ℕ
entry_after entries (Injector args) = Some entries
entry_after entries other = None
