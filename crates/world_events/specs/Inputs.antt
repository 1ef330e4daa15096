-- The input of a child, which is given to it after its start.
use Rattle.std.specs.Prelude.{ℕ, List, [], ◌∷◌, bytes_eq, if◌then◌else◌, Option, Some, None}
use Rattle.call_fs.specs.declared.past.Own.{Own}
use Rattle.queue_inject.specs.declared.injection.Arguments.{Arguments}
use Rattle.queue_inject.specs.declared.injection.InputEnd.TheVariants.{Whole, Unread}
use Rattle.received_line.specs.declared.line.Invoked.{Invoked}
use Rattle.received_line.specs.declared.line.Invoked.TheVariants.{Uid, Bounce}
use Rattle.world_events.specs.declared.event.Event.{Event as Kept}
use Rattle.world_events.specs.declared.event.Event.TheVariants as kept
use Rattle.world_events.specs.declared.event.Program.{Program}
use Rattle.world_events.specs.declared.event.Program.TheVariants.{Injector}

-- what the actor did whose event it is
abbrev pub own_in : Kept → Option Own
own_in (kept.Act a own) = Some own
own_in (kept.Child a own c program) = Some own
own_in (kept.Feed a own c message envelope) = Some own
own_in event = None

-- what an injector is started with that is a child: it was given nothing, so its input has ended before its first byte
abbrev pub unfed : ℕ → Invoked → ℕ → ℕ → Arguments
unfed uid invoked pid start = record {
  uid = uid;
  pid = pid;
  invoked = invoked;
  start = start;
  message = [];
  message_end = Unread;
  envelope = [];
  envelope_end = Unread;
}

-- that of a bounce
abbrev pub bounce : ℕ → ℕ → Arguments
bounce pid start = unfed 0 Bounce pid start

-- that of what a delivery of this user forwards
abbrev pub forward : ℕ → ℕ → ℕ → Arguments
forward uid pid start = unfed uid (Uid uid) pid start

-- an injector with this message and this envelope, both whole
abbrev pub with_texts : List ℕ → List ℕ → Program → Program
with_texts message envelope (Injector args) =
    Injector (record args { message = message; message_end = Whole; envelope = envelope; envelope_end = Whole })
with_texts message envelope other = other

-- the events, the newest first, with these texts as the input in the start of that child
abbrev pub start_with : List ℕ → List ℕ → List ℕ → List Kept → List Kept
start_with c message envelope [] = []
start_with c message envelope ((kept.Child a own b program) ∷ before) =
    if bytes_eq b c then (kept.Child a own b (with_texts message envelope program)) ∷ before
    else (kept.Child a own b program ∷ start_with c message envelope before)
start_with c message envelope (event ∷ before) = event ∷ start_with c message envelope before

-- The events, the newest first, as if each child had been started with the input that it was given; and what gave it as any other
-- giving.
abbrev pub with_inputs : List Kept → List Kept
with_inputs [] = []
with_inputs ((kept.Feed a own c message envelope) ∷ before) = kept.Act a own ∷ start_with c message envelope (with_inputs before)
with_inputs (event ∷ before) = event ∷ with_inputs before
