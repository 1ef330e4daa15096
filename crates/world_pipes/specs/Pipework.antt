-- The pipework between actors: pipes, the programs that run in the slots of others, and what one event does to them.
use Rattle.std.specs.Prelude.{◌≡◌, ◌≢◌, ℕ, ◌==◌, List, [], ◌++◌, length, take, drop, Bool, true, false, not, ◌&&◌, ◌||◌, if◌then◌else◌, Option, Some, None, option_map, bytes_eq, codes}
use Rattle.std.specs.List.{list_any}
use Rattle.call_fs.specs.declared.program.Port.{Port}
use Rattle.call_fs.specs.declared.program.Port.TheVariants as port
use Rattle.call_fs.specs.declared.past.ChildData.{ChildData}
use Rattle.call_fs.specs.declared.past.ChildData.TheVariants as child
use Rattle.call_fs.specs.declared.past.NeedData.{NeedData}
use Rattle.call_fs.specs.declared.past.NeedData.TheVariants.{Take, Give, Start}
use Rattle.call_fs.specs.declared.past.GotData.{GotData}
use Rattle.call_fs.specs.declared.past.GotData.TheVariants.{Took, End, Ended, Crashed, Gave, Started, Failed}
use Rattle.call_fs.specs.Maps.{put_at}
use Rattle.actor_names.specs.MailNames.{members}

-- Pipes

-- what was given and not yet taken, and whether the writer has ended, was stopped, or has given all
pub record Pipe : Type 0 where
  pub bytes : List ℕ
  pub shut : Bool

abbrev pub fresh : Pipe
fresh = record { bytes = []; shut = false }

abbrev pub given : List ℕ → Pipe → Pipe
given bytes pipe = record { bytes = pipe.bytes ++ bytes; shut = pipe.shut }

abbrev pub taken : List ℕ → Pipe → Pipe
taken bytes pipe = record { bytes = drop (length bytes) pipe.bytes; shut = pipe.shut }

abbrev pub closed : Pipe → Pipe
closed pipe = record { bytes = pipe.bytes; shut = true }

-- something can be taken, if only the end
abbrev pub is_ready : Pipe → Bool
is_ready pipe = not (length pipe.bytes == 0) || pipe.shut

-- What may come of a taking: some first bytes of those that lie there; the end, if nothing lies there and nothing more
-- will; or a failure.
abbrev pub Yields : Pipe → GotData → Type 0
Yields pipe (Took bytes) = (bytes ≢ []) × ((rest : List ℕ) × (pipe.bytes ≡ bytes ++ rest))
Yields pipe End = (pipe.bytes ≡ []) × (pipe.shut ≡ true)
Yields pipe Failed = Unit {0}
Yields pipe other = ⊥

-- Who runs where

-- the program in a slot: an actor; or a remote program, which is none, with or without its report
pub data Tenant : Type 0 where
  Runs : (actor : List ℕ) → Tenant
  Remote : (reported : Bool) → Tenant

-- a slot of an actor
pub record Slot : Type 0 where
  pub parent : List ℕ
  pub number : ℕ

-- Each pipe, by who takes from it and by which port; the program in each slot of an actor; and the slot in which a child
-- was started.
pub record Pipework : Type 0 where
  pub pipes : List ℕ → Port → Pipe
  pub programs : List ℕ → ℕ → Option Tenant
  pub slots : List ℕ → Option Slot

abbrev pub no_pipework : Pipework
no_pipework = record { pipes = λ _ _. fresh; programs = λ _ _. None; slots = λ _. None }

-- a member of the generation, by its name
abbrev pub is_member : List ℕ → Bool
is_member a = list_any (bytes_eq a) members

-- the slot of a child: an injector is an only child
abbrev pub slot_of : ChildData → ℕ
slot_of (child.Bounce room) = 0
slot_of (child.Forward uid room) = 0
slot_of (child.Local slot words uid) = slot
slot_of (child.Remote slot domain sender recipient) = slot

-- Where a pipe leads

-- an end of a pipe: who takes from it, and by which port
pub record Mouth : Type 0 where
  pub actor : List ℕ
  pub port : Port

abbrev pub mouth : List ℕ → Port → Mouth
mouth a port = record { actor = a; port = port }

abbrev pub is_port : Port → Port → Bool
is_port port.Input port.Input = true
is_port port.Output port.Output = true
is_port port.Clean port.Clean = true
is_port port.Lspawn port.Lspawn = true
is_port port.Rspawn port.Rspawn = true
is_port port.Todo port.Todo = true
is_port (port.Program d) (port.Program e) = d == e
is_port (port.Status d) (port.Status e) = d == e
is_port one other = false

-- the input of the child in a slot
abbrev pub input_of : Option Tenant → Option Mouth
input_of (Some (Runs a)) = Some (mouth a port.Input)
input_of other = None

-- it is that actor
abbrev pub is_by : List ℕ → Option Tenant → Bool
is_by a (Some (Runs b)) = bytes_eq b a
is_by a other = false

-- the output of a child goes to its parent, while it runs in the parent's slot
abbrev pub child_output : Pipework → List ℕ → Option Slot → Option Mouth
child_output pipework a None = None
child_output pipework a (Some slot) =
    if is_by a (pipework.programs slot.parent slot.number) then Some (mouth slot.parent (port.Program slot.number)) else None

-- that of a member goes to the sender
abbrev pub output : Pipework → List ℕ → Option Mouth
output pipework a =
    if bytes_eq a (codes "clean") then Some (mouth (codes "sender") port.Clean)
    else (if bytes_eq a (codes "lspawn") then Some (mouth (codes "sender") port.Lspawn)
    else (if bytes_eq a (codes "rspawn") then Some (mouth (codes "sender") port.Rspawn)
    else child_output pipework a (pipework.slots a)))

-- where what an actor gives to a port is taken
abbrev pub far_end : Pipework → List ℕ → Port → Option Mouth
far_end pipework a port.Clean = Some (mouth (codes "clean") port.Input)
far_end pipework a port.Lspawn = Some (mouth (codes "lspawn") port.Input)
far_end pipework a port.Rspawn = Some (mouth (codes "rspawn") port.Input)
far_end pipework a (port.Program d) = input_of (pipework.programs a d)
far_end pipework a port.Output = output pipework a
far_end pipework a other = None

-- who gives the input of an actor: to the other members the sender, to a child its parent
abbrev pub feeder : Pipework → List ℕ → Option (List ℕ)
feeder pipework b = if is_member b then Some (codes "sender") else option_map (λ slot. slot.parent) (pipework.slots b)

-- the actor that runs in a slot, if one does
abbrev pub actor_of : Option Tenant → Option (List ℕ)
actor_of (Some (Runs a)) = Some a
actor_of other = None

-- who gives what an actor takes by a port
abbrev pub writer : Pipework → List ℕ → Port → Option (List ℕ)
writer pipework b port.Input = feeder pipework b
writer pipework b port.Clean = Some (codes "clean")
writer pipework b port.Lspawn = Some (codes "lspawn")
writer pipework b port.Rspawn = Some (codes "rspawn")
writer pipework b (port.Program d) = actor_of (pipework.programs b d)
writer pipework b other = None

abbrev pub is_writer : List ℕ → Option (List ℕ) → Bool
is_writer a None = false
is_writer a (Some b) = bytes_eq a b

-- What happens to them

-- another content of one pipe
abbrev pub put_pipe : (List ℕ → Port → Pipe) → Option Mouth → (Pipe → Pipe) → List ℕ → Port → Pipe
put_pipe pipes None change = pipes
put_pipe pipes (Some to) change = λ a port. if bytes_eq a to.actor && is_port port to.port then change (pipes a port) else pipes a port

-- another program in one slot
abbrev pub put_program : (List ℕ → ℕ → Option Tenant) → List ℕ → ℕ → Option Tenant → List ℕ → ℕ → Option Tenant
put_program programs a d tenant = λ b e. if bytes_eq b a && (e == d) then tenant else programs b e

-- bytes were given; those to a child are its whole input
abbrev pub gives : Pipework → List ℕ → Port → List ℕ → List ℕ → Port → Pipe
gives pipework a (port.Program d) bytes = put_pipe pipework.pipes (input_of (pipework.programs a d)) (λ pipe. closed (given bytes pipe))
gives pipework a port bytes = put_pipe pipework.pipes (far_end pipework a port) (given bytes)

-- the output of a program that starts in a slot
abbrev pub with_output : (List ℕ → Port → Pipe) → List ℕ → ℕ → List ℕ → Port → Pipe
with_output pipes a d = put_pipe pipes (Some (mouth a (port.Program d))) (λ _. fresh)

-- What an event of an actor does to the pipes: a giving, also a failed one, puts bytes into one, a taking takes them out, and
-- the start of a remote program gives it an output.
abbrev pub pipes_after : Pipework → List ℕ → NeedData → GotData → ℕ → List ℕ → Port → Pipe
pipes_after pipework a (Give port bytes) Gave wrote = gives pipework a port bytes
pipes_after pipework a (Give port bytes) Failed wrote = gives pipework a port (take wrote bytes)
pipes_after pipework a (Take port) (Took bytes) wrote = put_pipe pipework.pipes (Some (mouth a port)) (taken bytes)
pipes_after pipework a (Start (child.Remote slot domain sender recipient)) (Started pid) wrote = with_output pipework.pipes a slot
pipes_after pipework a due came wrote = pipework.pipes

-- and to the slots: the taking of a status frees one, and a remote program takes one
abbrev pub programs_after : (List ℕ → ℕ → Option Tenant) → List ℕ → NeedData → GotData → List ℕ → ℕ → Option Tenant
programs_after programs a (Take (port.Status d)) (Ended status) = put_program programs a d None
programs_after programs a (Take (port.Status d)) Crashed = put_program programs a d None
programs_after programs a (Start (child.Remote slot domain sender recipient)) (Started pid) = put_program programs a slot (Some (Remote false))
programs_after programs a due came = programs

abbrev pub pipework_after : Pipework → List ℕ → NeedData → GotData → ℕ → Pipework
pipework_after pipework a due came wrote = record {
  pipes = pipes_after pipework a due came wrote;
  programs = programs_after pipework.programs a due came;
  slots = pipework.slots;
}

-- a child was started
abbrev pub with_child : Pipework → List ℕ → ℕ → List ℕ → Pipework
with_child pipework parent d a = record {
  pipes = with_output pipework.pipes parent d;
  programs = put_program pipework.programs parent d (Some (Runs a));
  slots = put_at pipework.slots a (Some (record { parent = parent; number = d }));
}

-- an actor ended or was stopped: it gives nothing more
abbrev pub without_writer : Pipework → List ℕ → Pipework
without_writer pipework a = record {
  pipes = λ b port. if is_writer a (writer pipework b port) then closed (pipework.pipes b port) else pipework.pipes b port;
  programs = pipework.programs;
  slots = pipework.slots;
}

-- a generation began: its members have given and started nothing yet
abbrev pub with_generation : Pipework → Pipework
with_generation pipework = record {
  pipes = λ a port. if is_member a then fresh else pipework.pipes a port;
  programs = λ a d. if is_member a then None else pipework.programs a d;
  slots = pipework.slots;
}

-- the remote program in a slot of the remote spawner ended with this output
abbrev pub with_report : Pipework → ℕ → List ℕ → Pipework
with_report pipework d bytes = record {
  pipes = put_pipe pipework.pipes (Some (mouth (codes "rspawn") (port.Program d))) (λ pipe. closed (given bytes pipe));
  programs = put_program pipework.programs (codes "rspawn") d (Some (Remote true));
  slots = pipework.slots;
}
