-- The programs that actors run.
use Rattle.std.specs.Prelude.{ℕ, List, [], ◌∷◌, map, Option, Some, None}
use Rattle.actor_names.specs.declared.member.Member.{Member}
use Rattle.actor_names.specs.declared.member.Member.TheVariants as member
use Rattle.queue_inject.specs.declared.injection.Arguments.{Arguments}
use Rattle.world_events.specs.declared.event.Program.{Program}
use Rattle.world_events.specs.declared.event.Program.TheVariants.{Injector, Cleaner, Sender, LocalSpawner, RemoteSpawner, Delivery}

-- what an injector is started with, and no other program
abbrev pub injection_of : Program → Option Arguments
injection_of (Injector args) = Some args
injection_of other = None

-- How a program is started: an injector alone, or by the actor whose child it is; a lone program alone, with its whole input, and it gives
-- to nobody; a member with its generation; a delivery by the local spawner. No program is lone yet; what holds one to this: mail_world `Lone`.
pub data Class : Type 0 where
  Injecting : Class
  Lone : Class
  Seated : (member : Member) → Class
  Delivering : Class

abbrev pub class_of : Program → Class
class_of (Injector args) = Injecting
class_of (Cleaner start) = Seated member.Cleaner
class_of (Sender start) = Seated member.Sender
class_of (LocalSpawner start) = Seated member.LocalSpawner
class_of (RemoteSpawner start) = Seated member.RemoteSpawner
class_of (Delivery start args) = Delivering

-- it may start alone
abbrev pub StartsAlone : Class → Type 0
StartsAlone Injecting = Unit {0}
StartsAlone Lone = Unit {0}
StartsAlone other = ⊥

-- it is no member of a generation
abbrev pub IsNoMember : Class → Type 0
IsNoMember (Seated member) = ⊥
IsNoMember other = Unit {0}

-- the members of a generation, in their order; the names of actor_names are listed apart, and the law `members_are_listed` holds them
-- against this
abbrev pub generation : List Member
generation = member.Sender ∷ member.Cleaner ∷ member.LocalSpawner ∷ member.RemoteSpawner ∷ []

-- what a member runs that starts at this moment
abbrev pub run_at : ℕ → Member → Program
run_at start member.Sender = Sender start
run_at start member.Cleaner = Cleaner start
run_at start member.LocalSpawner = LocalSpawner start
run_at start member.RemoteSpawner = RemoteSpawner start

-- what a generation runs that starts at this moment
abbrev pub crew_at : ℕ → List Program
crew_at start = map (run_at start) generation
