-- What an actor finds ready by its pipes, and what of a child is due to one.
use Rattle.std.specs.Prelude.{◌≡◌, ◌≤◌, ◌<◌, ℕ, List, [], ◌∷◌, ◌++◌, length, Bool, true, false, Option, Some, None, IsSomeAnd, All, if◌then◌else◌, is_some}
use Rattle.std.specs.List.{slice_get}
use Rattle.actor_names.specs.declared.member.Member.{Member}
use Rattle.actor_names.specs.declared.member.Member.TheVariants as member
use Rattle.actor_names.specs.MailNames.{members}
use Rattle.actor_names.specs.Members.{member_at}
use Rattle.call_fs.specs.declared.past.ChildData.{ChildData}
use Rattle.call_fs.specs.declared.past.ChildData.TheVariants as child
use Rattle.call_fs.specs.declared.past.NeedData.{NeedData}
use Rattle.call_fs.specs.declared.past.NeedData.TheVariants as needs
use Rattle.call_fs.specs.declared.program.Port.{Port}
use Rattle.call_fs.specs.declared.program.Port.TheVariants as port
use Rattle.call_fs.specs.declared.program.Ready.{Ready}
use Rattle.call_fs.specs.declared.program.TheConstants.{INPUT_READY}
use Rattle.world_pipes.specs.declared.mouths.Mouths.{Mouths}
use Rattle.world_pipes.specs.Mouths.{actor_of, pipe_of, tenant_of, ended_of, IsLowest}
use Rattle.world_pipes.specs.Pipework.{fresh, is_ready, slot_of}
use Rattle.world_pipes.specs.Wired.{tenant_in, kept_at}

-- nothing lies in the pipes of a member, and no program is in a slot
pub record IsFresh (m : Mouths) : Type 0 where
  pub pipes : (port : Port) → pipe_of m port ≡ fresh
  pub tenants : (d : ℕ) → tenant_of m d ≡ None
  pub slots : length m.slots.items ≡ 256

-- as many such as there are members
pub record AreFresh (mouths : List Mouths) : Type 0 where
  pub many : length mouths ≡ length members
  pub each : All IsFresh mouths

-- so it is with the pipes of a delivery that starts, which has one slot
pub record IsFreshOne (m : Mouths) : Type 0 where
  pub pipes : (port : Port) → pipe_of m port ≡ fresh
  pub tenants : (d : ℕ) → tenant_of m d ≡ None
  pub slots : length m.slots.items ≡ 1

-- the members of a new generation have fresh pipes, and whoever else has some keeps them
pub record AreRenewed (old new : List Mouths) : Type 0 where
  pub four : length members ≤ length new
  pub others : (i : ℕ) → length members ≤ i → slice_get new i ≡ slice_get old i
  pub members : (i : ℕ) (m : Mouths) → i < length members → slice_get new i ≡ Some m → IsFresh m

-- a child that is to start has these pipes of its own: a delivery fresh ones, and an injector none
abbrev pub HasPipesFor : ChildData → Option Mouths → Type 0
HasPipesFor (child.Local slot words uid) pipes = IsSomeAnd pipes IsFreshOne
HasPipesFor asked pipes = pipes ≡ None

-- an actor that starts has these pipes, if it has any, at this place after the others'
abbrev pub HasPlaceAfter : List Mouths → List Mouths → Option Mouths → Option ℕ → Type 0
HasPlaceAfter old new None wire = (new ≡ old) × (wire ≡ None)
HasPlaceAfter old new (Some m) wire = (new ≡ old ++ m ∷ []) × (wire ≡ Some (length old))

-- its input alone, or nothing
abbrev pub input_alone : Bool → Ready
input_alone input = record { links = input ∷ false ∷ false ∷ false ∷ []; child = None }

abbrev pub input_of : Mouths → Option ℕ → Ready
input_of m child = record { links = is_ready (pipe_of m port.Input) ∷ false ∷ false ∷ false ∷ []; child = child }

-- the first of its programs, if that has ended
abbrev pub only_child : Bool → Option ℕ
only_child ended = if ended then Some 0 else None

-- What who has pipes finds by them: the sender its links, and whether its only program has ended; the cleaner its input; and the others
-- also which of their programs has ended.
abbrev pub FindsBy : Option Member → Mouths → Ready → Type 0
FindsBy (Some member.Sender) m ready = ready ≡ record {
  links = is_ready (pipe_of m port.Clean) ∷ is_ready (pipe_of m port.Lspawn) ∷ is_ready (pipe_of m port.Rspawn) ∷ false ∷ [];
  child = only_child (ended_of m 0);
}
FindsBy (Some member.Cleaner) m ready = ready ≡ input_of m None
FindsBy other m ready = (child : Option ℕ) × IsLowest (ended_of m) 0 child × (ready ≡ input_of m child)

-- and who has none, an injector
abbrev pub IsFoundAt : List Mouths → Option ℕ → Bool → Ready → Type 0
IsFoundAt mouths None awaits ready = ready ≡ (if awaits then input_alone false else INPUT_READY)
IsFoundAt mouths (Some at) awaits ready = IsSomeAnd (slice_get mouths at) (λ m. FindsBy (member_at at) m ready)

-- whether an actor runs in a slot of the one with this place
abbrev pub has_actor : List Mouths → Option ℕ → ℕ → Bool
has_actor mouths wire d = is_some (actor_of (tenant_in (kept_at wire mouths) d))

-- this is due to an actor, and a child's, which the world does for it: its start, or, if there is one in that slot, its input or its status
abbrev pub is_due_of_child : (ℕ → Bool) → NeedData → Bool
is_due_of_child has (needs.Start (child.Bounce room)) = true
is_due_of_child has (needs.Start (child.Forward uid room)) = true
is_due_of_child has (needs.Start (child.Local slot words uid)) = true
is_due_of_child has (needs.Give (port.Program d) bytes) = has d
is_due_of_child has (needs.Take (port.Status d)) = has d
is_due_of_child has other = false

-- the slot of the child that is due to it
abbrev pub due_slot : NeedData → ℕ
due_slot (needs.Start asked) = slot_of asked
due_slot (needs.Give (port.Program d) bytes) = d
due_slot (needs.Take (port.Status d)) = d
due_slot other = 0
