-- The members of a generation as a world keeps them.
use Rattle.std.specs.Prelude.{◌≡◌, ℕ, List, [], ◌∷◌, ◌++◌, Bool, false, Option, Some, None, All, is_none}
use Rattle.std.specs.List.{AllZip}
use Rattle.actor_names.specs.declared.member.Member.{Member}
use Rattle.actor_names.specs.Members.{name_of, seat_of}
use Rattle.world_events.specs.Programs.{generation, run_at}
use Rattle.mail_world.specs.declared.actor.Actor.{Actor as Held}
use Rattle.mail_world.specs.declared.any_machine.AnyMachine.{AnyMachine}
use Rattle.mail_world.specs.ByKind.{Follows}
use Rattle.mail_world.specs.Starts.{lives}
use Rattle.world_events.specs.Starts as order
-- what an actor finds by its pipes
pub use Rattle.world_pipes.specs.Seating.{IsFresh, IsFreshOne, AreFresh, AreRenewed, HasPlaceAfter, input_of, FindsBy, IsFoundAt}
-- the report of a remote program
pub use Rattle.world_pipes.specs.Mouths.{HasReport}

-- a machine of what this member runs, whenever that starts, which has done nothing yet
abbrev pub HasBegun : AnyMachine → Member → Type 0
HasBegun machine member = (start : ℕ) → Follows machine (run_at start member) []

-- a member that has just started, at its seat
pub record IsNew (x : Held) (member : Member) : Type 0 where
  pub name_is : x.name ≡ name_of member
  pub ended : x.ended ≡ None
  pub owed : x.owed ≡ None
  pub status : x.status ≡ None
  pub descriptors : x.descriptors.items ≡ []
  pub wire : x.wire ≡ Some (seat_of member)
  pub slot : x.slot ≡ None
  pub entry : x.entry ≡ None
  pub follows : HasBegun x.machine member

-- a member that starts, at its seat
pub record IsSeatedNew (x : Held) (member : Member) (machine : AnyMachine) : Type 0 where
  pub name_is : x.name ≡ name_of member
  pub machine_is : x.machine ≡ machine
  pub ended : x.ended ≡ None
  pub owed : x.owed ≡ None
  pub status : x.status ≡ None
  pub descriptors : x.descriptors.items ≡ []
  pub wire : x.wire ≡ Some (seat_of member)
  pub slot : x.slot ≡ None
  pub entry : x.entry ≡ None

-- those of a generation, in their order
abbrev pub AreNew : List Held → Type 0
AreNew crew = AllZip IsNew crew generation

-- the first of these that lives
abbrev pub IsFirst : List Held → Option (List ℕ) → Type 0
IsFirst crew None = All (λ x. is_none x.ended ≡ false) crew
IsFirst crew (Some name) = (before : List Held) × (x : Held) × (later : List Held) × (crew ≡ before ++ x ∷ later)
    × (x.ended ≡ None) × (x.name ≡ name) × All (λ x. is_none x.ended ≡ false) before

-- it is there, and lives
abbrev pub lasts : Option Held → Bool
lasts o = order.lasts lives o
