-- What an actor of a world finds ready, by the state.
use Rattle.std.specs.Prelude.{ℕ, List, [], ◌∷◌, Bool, true, false, Option, Some, None, position, not, ◌&&◌, if◌then◌else◌, is_some}
use Rattle.std.specs.List.{range_with_len}
use Rattle.call_fs.specs.declared.program.Port.{Port}
use Rattle.call_fs.specs.declared.program.Port.TheVariants as port
use Rattle.call_fs.specs.declared.program.Ready.{Ready}
use Rattle.call_fs.specs.declared.program.TheConstants.{INPUT_READY}
use Rattle.world_events.specs.declared.event.Program.{Program}
use Rattle.world_events.specs.declared.event.Program.TheVariants.{Injector, Cleaner, Sender}
pub use Rattle.world_pipes.specs.Seating.{input_alone, only_child}
use Rattle.mail_world.specs.Pipework.{Tenant, is_ready}
use Rattle.mail_world.specs.Pipework.Tenant.{Runs, Remote}
use Rattle.mail_world.specs.History.{Actor, Life, State}
use Rattle.mail_world.specs.History.Life.{Alive, Over, Stopped}

-- something lies in a pipe of that actor, or its writer is gone
abbrev pub lies_ready : State → List ℕ → Port → Bool
lies_ready s a port = is_ready (s.pipework.pipes a port)

abbrev pub is_over : Life → Bool
is_over Alive = false
is_over (Over status) = true
is_over Stopped = true

abbrev pub is_gone : Option Actor → Bool
is_gone None = false
is_gone (Some x) = is_over x.life

-- the program in a slot has ended: an actor, if it is over; a remote program, if its report came
abbrev pub has_ended : State → Option Tenant → Bool
has_ended s None = false
has_ended s (Some (Runs a)) = is_gone (s.actors a)
has_ended s (Some (Remote reported)) = reported

-- the lowest of an actor's slots, which are numbered from 0 to 255, whose program has ended
abbrev pub lowest_ended : State → List ℕ → Option ℕ
lowest_ended s a = position (λ d. has_ended s (s.pipework.programs a d)) (range_with_len 0 256)

-- a child that was given nothing, and whose parent may still give it something
abbrev pub is_awaiting : State → List ℕ → Bool
is_awaiting s a = is_some (s.pipework.slots a) && not (lies_ready s a port.Input)

-- what lies in its input, and which of its programs has ended
abbrev pub input_or_child : State → List ℕ → Ready
input_or_child s a = record { links = lies_ready s a port.Input ∷ false ∷ false ∷ false ∷ []; child = lowest_ended s a }

-- By the program that it runs: an injector, whose input stands in its start, finds it ready at any point, but a child only once it was
-- given or its parent is gone; any other finds all that lies in its pipes, and the spawners and a delivery also which of their programs has
-- ended, and a sender whether the injector of a bounce has.
abbrev pub found_by : State → List ℕ → Program → Ready
found_by s a (Injector args) = if is_awaiting s a then input_alone false else INPUT_READY
found_by s a (Cleaner start) = input_alone (lies_ready s a port.Input)
found_by s a (Sender start) = record {
  links = lies_ready s a port.Clean ∷ lies_ready s a port.Lspawn ∷ lies_ready s a port.Rspawn ∷ false ∷ [];
  child = only_child (has_ended s (s.pipework.programs a 0));
}
found_by s a other = input_or_child s a

abbrev pub found_at : State → List ℕ → Option Actor → Ready
found_at s a None = input_alone false
found_at s a (Some x) = found_by s a x.program

-- what that actor finds ready
abbrev pub found_in : State → List ℕ → Ready
found_in s a = found_at s a (s.actors a)
