-- The pipes that a world keeps, against those of the model.
use Rattle.std.specs.Prelude.{◌≡◌, ◌<◌, ◌≤◌, ℕ, List, length, Bool, true, false, if◌then◌else◌, Option, Some, None, option_map, codes, nat_lt}
use Rattle.std.specs.List.{slice_get}
use Rattle.actor_names.specs.MailNames.{members}
use Rattle.actor_names.specs.Members.{member_of, seat_of, member_at}
use Rattle.actor_names.specs.declared.member.Member.{Member}
use Rattle.actor_names.specs.declared.member.Member.TheVariants as member
use Rattle.call_fs.specs.declared.program.Port.{Port}
use Rattle.call_fs.specs.declared.program.Port.TheVariants as port
use Rattle.world_pipes.specs.declared.mouths.Mouths.{Mouths}
use Rattle.world_pipes.specs.Mouths.{pipe_of, tenant_of, ended_of}
use Rattle.world_pipes.specs.Pipework.{Pipe, Pipework, Slot, Tenant, fresh, is_member}
use Rattle.world_pipes.specs.Pipework.Tenant.{Runs}

-- the seat of a member, by its name
abbrev pub seat : List ℕ → Option ℕ
seat a = option_map seat_of (member_of a)

-- what is kept at a place; at no place, and past the last one, nothing
abbrev pub pipe_in : Option Mouths → Port → Pipe
pipe_in None port = fresh
pipe_in (Some m) port = pipe_of m port

abbrev pub tenant_in : Option Mouths → ℕ → Option Tenant
tenant_in None d = None
tenant_in (Some m) d = tenant_of m d

abbrev pub kept_at : Option ℕ → List Mouths → Option Mouths
kept_at None mouths = None
kept_at (Some i) mouths = slice_get mouths i

-- the slot of that number
abbrev pub slot_in : List ℕ → ℕ → Slot
slot_in parent d = record { parent = parent; number = d }

-- a pipe by this port is one of whoever has its pipes at this place: the links of the sender are members' alone
abbrev pub IsOwnPort : ℕ → Port → Type 0
IsOwnPort i port.Clean = i < length members
IsOwnPort i port.Lspawn = i < length members
IsOwnPort i port.Rspawn = i < length members
IsOwnPort i other = Unit {0}

-- an actor that has pipes and is no member has them after the members', and was started by the local spawner
pub record HasOwnPlace (w : Pipework) (a : List ℕ) (i : ℕ) : Type 0 where
  pub high : length members ≤ i
  pub number : ℕ
  pub slot : w.slots a ≡ Some (slot_in (codes "lspawn") number)

-- By `wires`, which says at which place an actor has its pipes, if it has any: a member at its seat. What lies in them in the model lies
-- in the world's, and the same programs are in the slots. A member is nobody's child, and who runs in a slot was started in it.
pub record AreWired (wires : List ℕ → Option ℕ) (mouths : List Mouths) (w : Pipework) : Type 0 where
  pub pipes : (a : List ℕ) (i : ℕ) (port : Port) → wires a ≡ Some i → IsOwnPort i port → w.pipes a port ≡ pipe_in (slice_get mouths i) port
  pub programs : (a : List ℕ) (d : ℕ) → w.programs a d ≡ tenant_in (kept_at (wires a) mouths) d
  pub seats : (a : List ℕ) → is_member a ≡ true → wires a ≡ seat a
  pub members : (a : List ℕ) → is_member a ≡ true → w.slots a ≡ None
  pub others : (a : List ℕ) (i : ℕ) → wires a ≡ Some i → is_member a ≡ false → HasOwnPlace w a i
  pub within : (a : List ℕ) (i : ℕ) → wires a ≡ Some i → is_member a ≡ false → i < length mouths
  pub apart : (a b : List ℕ) (i : ℕ) → wires a ≡ Some i → wires b ≡ Some i → a ≡ b
  pub owned : (i : ℕ) → i < length mouths → (a : List ℕ) × (wires a ≡ Some i)
  pub children : (a : List ℕ) (d : ℕ) (c : List ℕ) → w.programs a d ≡ Some (Runs c) → w.slots c ≡ Some (slot_in a d)

-- the slot of an actor, kept as the place of its parent's pipes and the number
abbrev pub IsSlotOf : (List ℕ → Option ℕ) → Option Slot → Option (ℕ × ℕ) → Type 0
IsSlotOf wires slot None = slot ≡ None
IsSlotOf wires slot (Some at) = (parent : List ℕ) × (slot ≡ Some (slot_in parent at.1)) × (wires parent ≡ Some at.0)

-- an actor with the place of its pipes, and with its slot
pub record HasWires (wires : List ℕ → Option ℕ) (mouths : List Mouths) (w : Pipework) (a : List ℕ) (wire : Option ℕ) (slot : Option (ℕ × ℕ)) : Type 0 where
  pub wired : AreWired wires mouths w
  pub at : wires a ≡ wire
  pub slot_is : IsSlotOf wires (w.slots a) slot

-- in which slots of a member, or of a delivery, an actor may run: in the sender's first one, in each of the local spawner's, and in that of a
-- delivery
abbrev pub MayRunUnder : Option Member → ℕ → Type 0
MayRunUnder (Some member.Sender) d = d ≡ 0
MayRunUnder (Some member.Cleaner) d = ⊥
MayRunUnder (Some member.LocalSpawner) d = Unit {0}
MayRunUnder (Some member.RemoteSpawner) d = ⊥
MayRunUnder None d = d ≡ 0

-- so in the slots of whoever has its pipes at a place
abbrev pub MayRunIn : ℕ → ℕ → Type 0
MayRunIn place d = MayRunUnder (member_at place) d

-- an actor runs only in such a slot, and is no member
abbrev pub HaveChildren : List Mouths → Type 0
HaveChildren mouths = (i : ℕ) (m : Mouths) (d : ℕ) (c : List ℕ) → slice_get mouths i ≡ Some m → tenant_of m d ≡ Some (Runs c) → MayRunIn i d × (is_member c ≡ false)

-- each actor in a slot is marked as over exactly if it is
abbrev pub AreOver : (List ℕ → Bool) → List Mouths → Type 0
AreOver gone mouths = (i : ℕ) (m : Mouths) (d : ℕ) (c : List ℕ) → slice_get mouths i ≡ Some m → tenant_of m d ≡ Some (Runs c) → ended_of m d ≡ gone c

-- how many slots there are at a place: of a member as many as a slot has numbers, of a delivery one
abbrev pub slots_at : ℕ → ℕ
slots_at i = if nat_lt i (length members) then 256 else 1

abbrev pub HaveSlots : List Mouths → Type 0
HaveSlots mouths = (i : ℕ) (m : Mouths) → slice_get mouths i ≡ Some m → length m.slots.items ≡ slots_at i
