-- The machine of an actor, by its kind. A new program is one case of each of these, and of `next_of` and its neighbours in
-- History.antt.
use Rattle.std.specs.Prelude.{◌≡◌, ℕ, List, ◌∷◌, Bool, true, false, not, ◌&&◌, None}
use Rattle.call_fs.specs.declared.file_system.TheConstants.{PIECE}
use Rattle.call_fs.specs.declared.program.Ready.{Ready}
use Rattle.call_fs.specs.declared.program.TheConstants.{UNREADY}
use Rattle.call_fs.specs.declared.past.NeedData.{NeedData}
use Rattle.call_fs.specs.declared.past.NeedData.TheVariants.{Wait}
use Rattle.call_fs.specs.declared.past.GotData.{GotData}
use Rattle.call_fs.specs.declared.past.Own.{Own}
use Rattle.queue_inject.specs.Machine.{due_now}
use Rattle.queue_inject.specs.Table.{has_input}
use Rattle.queue_clean.specs.Machine.{Machine as Cleaning, due_now as cleaning_due}
use Rattle.queue_clean.specs.Stands.{Stands as CleansAfter}
use Rattle.send_core.specs.Stands.{Machine as Sending, Stands as SendsAfter, due_now as sending_due, row_of, gone_on, is_search, is_between}
use Rattle.local_deliver.specs.declared.machine.Local.{Local as Deliverer}
use Rattle.local_deliver.specs.Stands.{Stands as DeliveryAfter, due_now as delivery_due}
use Rattle.local_spawn.specs.declared.machine.LocalSpawn.{LocalSpawn}
use Rattle.local_spawn.specs.Stands.{Stands as SpawnsLocalsAfter, due_now as local_spawning_due}
use Rattle.remote_spawn.specs.declared.machine.RemoteSpawn.{RemoteSpawn}
use Rattle.remote_spawn.specs.Stands.{Stands as SpawnsAfter, due_now as spawning_due}
use Rattle.call_fs.specs.Disk.{Disk}
use Rattle.queue_law.specs.Steps.{Outside}
use Rattle.mail_world.specs.History.{IsDelivery}
use Rattle.world_events.specs.declared.event.Program.{Program}
use Rattle.world_events.specs.declared.event.Program.TheVariants.{Injector, Cleaner, Sender, LocalSpawner, RemoteSpawner, Delivery}
use Rattle.fed_injector.specs.declared.machine.FedInjector.{FedInjector}
use Rattle.fed_injector.specs.Inputs.{FedStands, awaits}
use Rattle.world_events.specs.Inputs.{with_texts}
use Rattle.mail_world.specs.declared.any_machine.AnyMachine.{AnyMachine}
use Rattle.mail_world.specs.declared.any_machine.AnyMachine.TheVariants.{Mail, Clean, Send, Local, Remote, Deliver, Over}
use Rattle.world_events.specs.Programs.{IsNoMember, class_of}
-- what an injector is started with
pub use Rattle.world_events.specs.Programs.{injection_of}

-- The program of a mail, of a bounce, or of a forward. It takes, gives and starts nothing.
abbrev pub IsMail : Program → Type 0
IsMail (Injector args) = Unit {0}
IsMail other = ⊥

-- What an actor runs that is no member of a generation: an injector, or a local delivery.
abbrev pub IsAlone : Program → Type 0
IsAlone program = IsNoMember (class_of program)

-- What runs in a slot of a program, if that is an actor: an injector in the first one of the sender or of a delivery, and a delivery in one
-- of the local spawner.
abbrev pub BearsIn : Program → ℕ → Program → Type 0
BearsIn (Sender start) d child = (d ≡ 0) × IsMail child
BearsIn (Delivery start args) d child = (d ≡ 0) × IsMail child
BearsIn (LocalSpawner start) d child = IsDelivery child
BearsIn other d child = ⊥

-- The injector of a mail, of a bounce or of a forward, which is fed its input

-- an injector with its input is that of this program with this past
abbrev pub Mails : FedInjector → Program → List Own → Type 0
Mails injector (Injector args) past = FedStands injector args past
Mails injector other past = ⊥

-- The cleaner

-- a cleaner is that of this program with this past
abbrev pub Cleans : Cleaning → Program → List Own → Type 0
Cleans cleaner (Cleaner start) past = CleansAfter cleaner tt past
Cleans cleaner other past = ⊥

-- The sender, which goes on until it is stopped

-- a sender is that of this program with this past
abbrev pub Sends : Sending → Program → List Own → Type 0
Sends sender (Sender start) past = SendsAfter sender None past
Sends sender other past = ⊥

-- The spawners

-- a local spawner is that of this program with this past
abbrev pub SpawnsLocals : LocalSpawn → Program → List Own → Type 0
SpawnsLocals spawner (LocalSpawner start) past = SpawnsLocalsAfter spawner tt past
SpawnsLocals spawner other past = ⊥

-- a remote spawner is that of this program with this past
abbrev pub Spawns : RemoteSpawn → Program → List Own → Type 0
Spawns spawner (RemoteSpawner start) past = SpawnsAfter spawner tt past
Spawns spawner other past = ⊥

-- A local delivery

-- a local delivery is that of this program with this past
abbrev pub Delivers : Deliverer → Program → List Own → Type 0
Delivers delivery (Delivery start args) past = DeliveryAfter delivery args past
Delivers delivery other past = ⊥

-- Any machine, and none, of an actor that is over

-- the moment that it was told last
abbrev pub present_of : AnyMachine → ℕ
present_of (Mail injector) = injector.injector.present
present_of (Clean cleaner) = cleaner.present
present_of (Send sender) = sender.present
present_of (Local spawner) = spawner.present
present_of (Remote spawner) = spawner.present
present_of (Deliver delivery) = delivery.present
present_of Over = 0

-- what it was told last to be ready
abbrev pub found_of : AnyMachine → Ready
found_of (Mail injector) = injector.injector.ready
found_of (Clean cleaner) = cleaner.ready
found_of (Send sender) = sender.ready
found_of (Local spawner) = spawner.ready
found_of (Remote spawner) = spawner.ready
found_of (Deliver delivery) = delivery.ready
found_of Over = UNREADY

-- it was told them since its last event
abbrev pub looked_of : AnyMachine → Bool
looked_of (Mail injector) = true
looked_of (Clean cleaner) = true
looked_of (Send sender) = sender.looked
looked_of (Local spawner) = true
looked_of (Remote spawner) = true
looked_of (Deliver delivery) = true
looked_of Over = false

-- it may be told that this is ready
abbrev pub CanFind : AnyMachine → Ready → Type 0
CanFind (Mail injector) ready = awaits injector ≡ true → has_input ready ≡ false
CanFind (Clean cleaner) ready = Unit {0}
CanFind (Send sender) ready = Unit {0}
CanFind (Local spawner) ready = Unit {0}
CanFind (Remote spawner) ready = Unit {0}
CanFind (Deliver delivery) ready = Unit {0}
CanFind Over ready = ⊥

-- what it does next
abbrev pub need_of : AnyMachine → NeedData
need_of (Mail injector) = due_now injector.injector
need_of (Clean cleaner) = cleaning_due cleaner
need_of (Send sender) = sending_due sender
need_of (Local spawner) = local_spawning_due spawner
need_of (Remote spawner) = spawning_due spawner
need_of (Deliver delivery) = delivery_due delivery
need_of Over = Wait

-- how many bytes it may be handed of one taking: the sender, the spawners and a delivery take any number
abbrev pub takes_of : AnyMachine → ℕ
takes_of (Mail injector) = 0
takes_of (Clean cleaner) = PIECE
takes_of (Send sender) = 18446744073709551615
takes_of (Local spawner) = 18446744073709551615
takes_of (Remote spawner) = 18446744073709551615
takes_of (Deliver delivery) = 18446744073709551615
takes_of Over = 0

-- it takes no memory any more: the sender, the spawners and a delivery take some for what they keep
abbrev pub HasRoom : AnyMachine → Type 0
HasRoom (Mail injector) = Unit {0}
HasRoom (Clean cleaner) = Unit {0}
HasRoom (Send sender) = ⊥
HasRoom (Local spawner) = ⊥
HasRoom (Remote spawner) = ⊥
HasRoom (Deliver delivery) = ⊥
HasRoom Over = ⊥

-- it stands for this program and this past
abbrev pub Follows : AnyMachine → Program → List Own → Type 0
Follows (Mail injector) program past = Mails injector program past
Follows (Clean cleaner) program past = Cleans cleaner program past
Follows (Send sender) program past = Sends sender program past
Follows (Local spawner) program past = SpawnsLocals spawner program past
Follows (Remote spawner) program past = Spawns spawner program past
Follows (Deliver delivery) program past = Delivers delivery program past
Follows Over program past = ⊥

-- what is due and what came of it as the newest event of a past
abbrev pub with_own : AnyMachine → GotData → List Own → List Own
with_own machine came past = (record { read = present_of machine; ready = found_of machine; due = need_of machine; came = came }) ∷ past

-- what is due and what came of it as an event
abbrev pub own_of : AnyMachine → GotData → Own
own_of machine came = record { read = present_of machine; ready = found_of machine; due = need_of machine; came = came }

-- it has looked at this moment, with this ready, and this is due
pub record IsAsked (machine : AnyMachine) (now : ℕ) (ready : Ready) (due : NeedData) : Type 0 where
  pub due_is : need_of machine ≡ due
  pub read : present_of machine ≡ now
  pub found : found_of machine ≡ ready
  pub looked : looked_of machine ≡ true

-- Children, which are given their input

-- an injector whose input isn't given yet, and may still be
abbrev pub awaits_of : AnyMachine → Bool
awaits_of (Mail injector) = awaits injector
awaits_of (Clean cleaner) = false
awaits_of (Send sender) = false
awaits_of (Local spawner) = false
awaits_of (Remote spawner) = false
awaits_of (Deliver delivery) = false
awaits_of Over = false

-- it was given this input, and awaits none any more
pub record IsGiven (message envelope : List ℕ) (old new : AnyMachine) : Type 0 where
  pub stands : (program : Program) (past : List Own) → Follows old program past → Follows new (with_texts message envelope program) past
  pub awaits : awaits_of new ≡ false

-- Idle turns of a sender

-- its next step is the search of todo, and it has done nothing else in this turn
abbrev pub searches : AnyMachine → Bool
searches (Send sender) = is_search (row_of sender) && not sender.desk.busy
searches other = false

-- it stands between two turns, or has ended
abbrev pub is_through : AnyMachine → Bool
is_through (Send sender) = is_between sender.desk.row
is_through other = false

-- what a sender becomes once this came of its need
abbrev pub HasGone : AnyMachine → GotData → AnyMachine → Type 0
HasGone (Send sender) came new = new ≡ Send (gone_on sender came)
HasGone other came new = Unit {0}

-- What isn't the queue's

-- What an event of a program leaves of what isn't the queue's: all. It is said of histories without generations, in which there are no
-- deliveries; what these write isn't the queue's.
abbrev pub Leaves : Program → Disk → Disk → Type 0
Leaves program d e = Outside d e
