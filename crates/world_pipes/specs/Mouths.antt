-- The pipes that one actor takes from, by its ports, and the programs in its slots.
use Rattle.std.specs.Prelude.{◌≡◌, ℕ, ◌<◌, ◌≤◌, ◌==◌, List, [], ◌∷◌, ◌++◌, codes, length, Bool, true, false, Option, Some, None, option_map, if◌then◌else◌}
use Rattle.std.specs.List.{slice_get}
use Rattle.call_fs.specs.declared.program.Port.{Port}
use Rattle.call_fs.specs.declared.program.Port.TheVariants as port
use Rattle.world_pipes.specs.declared.mouths.Mouths.{Mouths}
use Rattle.world_pipes.specs.declared.mouths.Slot.{Slot}
use Rattle.world_pipes.specs.declared.mouths.Tenant.{Tenant as Kept}
use Rattle.world_pipes.specs.declared.mouths.Tenant.TheVariants as kept
use Rattle.world_pipes.specs.Pipework.{Pipe, Tenant, fresh, given, closed, is_port}
use Rattle.world_pipes.specs.Pipework.Tenant.{Runs, Remote}
use Rattle.world_pipes.specs.Pipes.{lies, HasRoom}
-- the actor that runs in a slot
pub use Rattle.world_pipes.specs.Pipework.{actor_of}

-- a slot without a program, into whose output nothing was given
pub record IsVacant (slot : Slot) : Type 0 where
  pub free : slot.tenant ≡ None
  pub empty : lies slot.output ≡ fresh

-- what lies in the output of a slot; where there is no such slot, nothing
abbrev pub output_of : Option Slot → Pipe
output_of None = fresh
output_of (Some slot) = lies slot.output

-- the pipe of the model by each port
abbrev pub pipe_of : Mouths → Port → Pipe
pipe_of m port.Input = lies m.input
pipe_of m port.Clean = lies m.clean
pipe_of m port.Lspawn = lies m.lspawn
pipe_of m port.Rspawn = lies m.rspawn
pipe_of m (port.Program d) = output_of (slice_get m.slots.items d)
pipe_of m other = fresh

-- the program in a slot
abbrev pub tenant_kept : Kept → Tenant
tenant_kept (kept.Actor name over) = Runs name
tenant_kept (kept.Remote reported) = Remote reported

abbrev pub runs_in : Option Slot → Option Tenant
runs_in None = None
runs_in (Some slot) = option_map tenant_kept slot.tenant

abbrev pub tenant_of : Mouths → ℕ → Option Tenant
tenant_of m d = runs_in (slice_get m.slots.items d)

-- it has ended: an actor that is over, or a remote program whose report came
abbrev pub is_ended : Option Kept → Bool
is_ended None = false
is_ended (Some (kept.Actor name over)) = over
is_ended (Some (kept.Remote reported)) = reported

abbrev pub ended_in : Option Slot → Bool
ended_in None = false
ended_in (Some slot) = is_ended slot.tenant

abbrev pub ended_of : Mouths → ℕ → Bool
ended_of m d = ended_in (slice_get m.slots.items d)

-- a remote program with its report, or one without
abbrev pub is_remote : Bool → Option Tenant → Bool
is_remote true (Some (Remote true)) = true
is_remote false (Some (Remote false)) = true
is_remote reported other = false

-- the lowest number of a slot from this one on of which this holds; a number is at most 255
abbrev pub IsLowest : (ℕ → Bool) → ℕ → Option ℕ → Type 0
IsLowest test from None = (d : ℕ) → from ≤ d → d ≤ 255 → test d ≡ false
IsLowest test from (Some lowest) = (from ≤ lowest) × (test lowest ≡ true) × ((d : ℕ) → from ≤ d → d < lowest → test d ≡ false)

-- it has a pipe for this port
abbrev pub HasPipe : Mouths → Port → Type 0
HasPipe m port.Input = Unit {0}
HasPipe m port.Clean = Unit {0}
HasPipe m port.Lspawn = Unit {0}
HasPipe m port.Rspawn = Unit {0}
HasPipe m (port.Program d) = d < length m.slots.items
HasPipe m other = ⊥

-- it has one with room for so many bytes more
abbrev pub OutputHasRoom : Option Slot → ℕ → Type 0
OutputHasRoom None more = ⊥
OutputHasRoom (Some slot) more = HasRoom slot.output more

abbrev pub HasRoomAt : Mouths → Port → ℕ → Type 0
HasRoomAt m port.Input more = HasRoom m.input more
HasRoomAt m port.Clean more = HasRoom m.clean more
HasRoomAt m port.Lspawn more = HasRoom m.lspawn more
HasRoomAt m port.Rspawn more = HasRoom m.rspawn more
HasRoomAt m (port.Program d) more = OutputHasRoom (slice_get m.slots.items d) more
HasRoomAt m other more = ⊥

-- another content of the pipe by one port
abbrev pub change_at : Port → (Pipe → Pipe) → (Port → Pipe) → Port → Pipe
change_at at change pipes port = if is_port port at then change (pipes port) else pipes port

-- the pipes and slots of one actor are as they were
pub record IsSame (old new : Mouths) : Type 0 where
  pub pipes : (port : Port) → pipe_of new port ≡ pipe_of old port
  pub tenants : (d : ℕ) → tenant_of new d ≡ tenant_of old d
  pub ended : (d : ℕ) → ended_of new d ≡ ended_of old d
  pub slots : length new.slots.items ≡ length old.slots.items

-- the output of a remote program that its report stands for
abbrev pub report_text : ℕ → List ℕ → List ℕ
report_text letter text = codes "r" ++ (0 ∷ letter ∷ text ++ (0 ∷ []))

-- the remote program in a slot has ended with this output
pub record HasReport (old new : Mouths) (slot : ℕ) (output : List ℕ) : Type 0 where
  pub pipes : (at : Port) → pipe_of new at ≡ change_at (port.Program slot) (λ pipe. closed (given output pipe)) (pipe_of old) at
  pub tenants : (d : ℕ) → tenant_of new d ≡ (if d == slot then Some (Remote true) else tenant_of old d)
  pub ended : (d : ℕ) → ended_of new d ≡ (if d == slot then true else ended_of old d)
  pub slots : length new.slots.items ≡ length old.slots.items
