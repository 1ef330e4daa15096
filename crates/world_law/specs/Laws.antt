-- What keeps the invariant: each event. So it holds after each legal history.
use Rattle.std.specs.Prelude.{◌≡◌, ℕ, List, true}
use Rattle.call_fs.specs.declared.crash_file_system.Survival.{Survival}
use Rattle.call_fs.specs.Disk.{Disk}
use Rattle.call_fs.specs.declared.past.Own.{Own}
use Rattle.call_fs.specs.declared.program.Ready.{Ready}
use Rattle.world_events.specs.declared.event.Program.{Program}
use Rattle.mail_world.specs.ByKind.{IsMail}
use Rattle.mail_world.specs.History.{Event, State, Allowed, IsCleaner, IsDelivery, IsLocalSpawner, IsRemoteSpawner, IsSender, Legal, MayDo, Opening, after, happens, opening}
use Rattle.mail_world.specs.History.Event.{Start, Act, Child, Generation, Report, End, Stop, Moment, Halt}
use Rattle.queue_law.specs.Accounts.{Accounted}
use Rattle.queue_law.specs.Books.{Injection, IsInjected}
use Rattle.queue_law.specs.Routes.{Recipient}
use Rattle.world_law.specs.Headline.{SafeState}
use Rattle.world_law.specs.Inv.{Inv}

-- it holds at the start
abbrev pub InvBegins : Type 0
InvBegins = (d : Disk) → Opening d → Inv (opening d)

-- by the ledgers each recipient of each accepted injection is accounted for
abbrev pub AreAccounted : State → Type 0
AreAccounted s = (q : Injection) → IsInjected s.books q → q.accepted ≡ true → (r : Recipient q.args) → Accounted s.disk s.books q r

-- an event that may happen keeps it
abbrev pub IsKeptBy : Event → Type 0
IsKeptBy e = (s : State) → Inv s → Allowed s e → Inv (happens s e)

abbrev pub MomentsKeep : Type 0
MomentsKeep = (m : ℕ) → IsKeptBy (Moment m)

-- whatever a remote program wrote
abbrev pub ReportsKeep : Type 0
ReportsKeep = (slot : ℕ) (output : List ℕ) → IsKeptBy (Report slot output)

abbrev pub StopsKeep : Type 0
StopsKeep = (a : List ℕ) → IsKeptBy (Stop a)

abbrev pub EndsKeep : Type 0
EndsKeep = (a : List ℕ) (read : ℕ) (ready : Ready) (status : ℕ) → IsKeptBy (End a read ready status)

abbrev pub StartsKeep : Type 0
StartsKeep = (a : List ℕ) (program : Program) → IsKeptBy (Start a program)

abbrev pub GenerationsKeep : Type 0
GenerationsKeep = (crew : List Program) → IsKeptBy (Generation crew)

-- a machine stop, whatever survives
abbrev pub HaltsKeep : Type 0
HaltsKeep = (how : Survival) (contents : ℕ → List ℕ) → IsKeptBy (Halt how contents)

-- each event of an injector
abbrev pub InjectorsKeep : Type 0
InjectorsKeep = (a : List ℕ) (own : Own) (wrote : ℕ) (s : State) → Inv s → (may : MayDo s a own wrote)
    → IsMail may.actor.program → Inv (happens s (Act a own wrote))

-- so does each event of the local spawner
abbrev pub LocalsKeep : Type 0
LocalsKeep = (a : List ℕ) (own : Own) (wrote : ℕ) (s : State) → Inv s → (may : MayDo s a own wrote)
    → IsLocalSpawner may.actor.program → Inv (happens s (Act a own wrote))

-- and each event of the remote spawner
abbrev pub RemotesKeep : Type 0
RemotesKeep = (a : List ℕ) (own : Own) (wrote : ℕ) (s : State) → Inv s → (may : MayDo s a own wrote)
    → IsRemoteSpawner may.actor.program → Inv (happens s (Act a own wrote))

-- and each event of the cleaner
abbrev pub CleanersKeep : Type 0
CleanersKeep = (a : List ℕ) (own : Own) (wrote : ℕ) (s : State) → Inv s → (may : MayDo s a own wrote)
    → IsCleaner may.actor.program → Inv (happens s (Act a own wrote))

-- and each event of the sender: each file call, what it gives and takes
abbrev pub SendersKeep : Type 0
SendersKeep = (a : List ℕ) (own : Own) (wrote : ℕ) (s : State) → Inv s → (may : MayDo s a own wrote)
    → IsSender may.actor.program → Inv (happens s (Act a own wrote))

-- and each event of a delivery but the start of a child
abbrev pub DeliveriesKeep : Type 0
DeliveriesKeep = (a : List ℕ) (own : Own) (wrote : ℕ) (s : State) → Inv s → (may : MayDo s a own wrote)
    → IsDelivery may.actor.program → Inv (happens s (Act a own wrote))

-- The start of a child: a sender starts the injector of a bounce, the local spawner a delivery, and that the injector of its forwards.
abbrev pub ChildrenKeep : Type 0
ChildrenKeep = (parent : List ℕ) (own : Own) (a : List ℕ) (program : Program) → IsKeptBy (Child parent own a program)

-- So it holds after each legal history.
abbrev pub Always : Type 0
Always = (d : Disk) (before : List Event) → Legal d before → Inv (after d before)

-- Then each state that a legal history leads to is safe.
abbrev pub HistoriesAreSafe : Type 0
HistoriesAreSafe = (d : Disk) (before : List Event) → Legal d before → SafeState (after d before) × AreAccounted (after d before)
