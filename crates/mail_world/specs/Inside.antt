-- What the fields of a world mean, and what they keep.
use Rattle.std.specs.Prelude.{◌≡◌, ◌≢◌, ◌⊎◌, ℕ, ◌≤◌, ◌<◌, List, [], ◌∷◌, ◌++◌, All, length, reverse, drop, count_by, Bool, true, false, Option, Some, None, IsSome, IsSomeAnd, is_some, is_none, bytes_eq}
use Rattle.std.specs.List.{slice_get}
use Rattle.call_fs.specs.Disk.{Disk}
use Rattle.call_fs.specs.declared.modes.Mode.{Mode}
use Rattle.mail_bytes.specs.Moments.{IsMoment}
use Rattle.mail_bytes.specs.Told.{OnTold}
use Rattle.call_fs.specs.Past.{IsRunBy, held}
use Rattle.world_events.specs.declared.event.Event.{Event as Kept}
use Rattle.mail_world.specs.declared.actor.Actor.{Actor as Held}
use Rattle.call_fs.specs.declared.past.ChildData.TheVariants as child
use Rattle.call_fs.specs.declared.past.GotData.{GotData}
use Rattle.call_fs.specs.declared.past.GotData.TheVariants.{Started}
use Rattle.call_fs.specs.declared.past.NeedData.{NeedData}
use Rattle.call_fs.specs.declared.past.NeedData.TheVariants as needs
use Rattle.call_fs.specs.declared.past.Own.{Own}
use Rattle.world_events.specs.declared.event.Event.TheVariants as kept
use Rattle.world_events.specs.declared.event.Program.{Program}
use Rattle.world_pipes.specs.declared.mouths.Mouths.{Mouths}
use Rattle.call_fs.specs.Program.{IsKind, IsWithin}
use Rattle.call_fs.specs.declared.program.Port.{Port}
use Rattle.mail_world.specs.Pipework.{Pipework, fresh, is_member}
use Rattle.mail_world.specs.Pipework.Tenant.{Runs}
use Rattle.mail_world.specs.ByKind.{IsMail, IsAlone, BearsIn, Follows, present_of, found_of, looked_of, need_of, takes_of, awaits_of}
use Rattle.mail_world.specs.History.{Event, Actor, Life, State, latest, next_of, RunsAs, IsDelivery}
use Rattle.mail_world.specs.Wired.{seat, IsOwnPort, AreWired, IsSlotOf, HaveSlots, HaveChildren, AreOver, AreWholeGivings}
use Rattle.local_deliver.specs.Deeds.{starts}
use Rattle.mail_world.specs.History.Life.{Alive, Over, Stopped}
use Rattle.world_events.specs.Inputs.{own_in, with_inputs}
use Rattle.mail_world.specs.Readiness.{is_awaiting, is_gone}
use Rattle.actor_names.specs.ChildNames.{bounce_name, delivery_name, forward_of}
use Rattle.actor_names.specs.MailNames.{members}
use Rattle.actor_names.specs.Members.{member_at}
use Rattle.actor_names.specs.declared.member.Member.{Member}
use Rattle.mail_world.specs.World.{Leads, Span, Counts, span_of, was_started, next_pid, counts_in}
use Rattle.mail_world.specs.World.Span.{Unborn, Lasting, OverAt}
-- lists of open descriptors
pub use Rattle.world_events.specs.Opened.{has, AreApart}
-- where each actor stands among all
pub use Rattle.world_events.specs.Places.{place_by, among_all}
-- what kept events tell
pub use Rattle.mail_world.specs.Known.{event_of, nowhere, known}

-- the life of an actor that ended with this event, or lasts
abbrev pub span_by : Option ℕ → Span
span_by None = Lasting
span_by (Some at) = OverAt at

-- the life of an actor that ended with this event and this exit status, was stopped with this event, or lasts
abbrev pub life_by : Option ℕ → Option ℕ → Life
life_by None status = Alive
life_by (Some at) (Some status) = Over status
life_by (Some at) None = Stopped

-- which one runs there if this member has its seat there; nobody else has one
abbrev pub RunsSeated : Option Member → Program → Type 0
RunsSeated None program = ⊥
RunsSeated (Some seated) program = RunsAs seated program

-- which one has its pipes there if this member has them there; and a delivery may, if no member has
abbrev pub RunsPiped : Option Member → Program → Type 0
RunsPiped None program = IsDelivery program
RunsPiped (Some piped) program = RunsAs piped program

-- which program runs at a seat, and which ones at none
abbrev pub RunsAt : Option ℕ → Program → Type 0
RunsAt None program = IsAlone program
RunsAt (Some seat) program = RunsSeated (member_at seat) program

-- which program has its pipes at a place, and which ones have none
abbrev pub RunsBy : Option ℕ → Program → Type 0
RunsBy None program = IsMail program
RunsBy (Some place) program = RunsPiped (member_at place) program

-- what a machine has taken in of a past: not its newest event, if that is owed
abbrev pub unowed : Option ℕ → List Own → List Own
unowed None past = past
unowed (Some at) past = drop 1 past

-- the machine of an actor stands for this program, and for this past as far as it has taken it in
abbrev pub StandsFor : Held → Program → List Own → Type 0
StandsFor x program past = Follows x.machine program (unowed x.owed past)

-- An actor's machine couldn't take in yet what came of its newest event, which is the one of this index: it has looked, and stands for
-- its past without that event.
pub record Owes (x : Held) (events : List Kept) (past : List Own) (at : ℕ) : Type 0 where
  pub own : Own
  pub before : List Own
  pub newest : past ≡ own ∷ before
  pub event : Kept
  pub there : slice_get events at ≡ Some event
  pub is : own_in event ≡ Some own
  pub read : present_of x.machine ≡ own.read
  pub found : found_of x.machine ≡ own.ready
  pub looked : looked_of x.machine ≡ true
  pub due : need_of x.machine ≡ own.due
  pub kind : IsKind own.due own.came
  pub within : IsWithin (takes_of x.machine) own.came

-- what is kept of an actor is what is known of it
pub record IsMember (s : State) (events : List Kept) (present : ℕ) (x : Held) : Type 0 where
  pub actor : Actor
  pub is : s.actors x.name ≡ Some actor
  pub follows : x.ended ≡ None → StandsFor x actor.program actor.past
  pub owes : x.ended ≡ None → (at : ℕ) → x.owed ≡ Some at → Owes x events actor.past at
  pub runs : RunsAt (seat x.name) actor.program
  pub run : IsRunBy (next_of actor.program) actor.past
  pub in_order : latest actor.program actor.past ≤ present
  pub life : actor.life ≡ life_by x.ended x.status
  pub unended : x.ended ≡ None → x.status ≡ None
  pub awaits : x.ended ≡ None → IsMail actor.program → awaits_of x.machine ≡ is_awaiting s x.name
  pub spans : span_of x.name (reverse events) ≡ span_by x.ended
  pub closed : (at : ℕ) → x.ended ≡ Some at → x.descriptors.items ≡ []

-- it is that actor's
abbrev pub is_by : List ℕ → Option (List ℕ) → Bool
is_by a None = false
is_by a (Some b) = bytes_eq b a

-- no actor has this name
pub record IsStranger (s : State) (events : List Kept) (a : List ℕ) : Type 0 where
  pub unknown : s.actors a ≡ None
  pub unborn : span_of a (reverse events) ≡ Unborn
  pub holds_none : (fd : ℕ) → is_by a (s.holder fd) ≡ false

-- The actors that are kept, each at its place, are those that are known.
pub record AreActors (places : List ℕ → Option ℕ) (actors : List Held) (s : State) (events : List Kept) (present : ℕ) : Type 0 where
  pub placed : (i : ℕ) (x : Held) → slice_get actors i ≡ Some x → places x.name ≡ Some i
  pub members : (i : ℕ) (x : Held) → slice_get actors i ≡ Some x → IsMember s events present x
  pub named : (a : List ℕ) (i : ℕ) → places a ≡ Some i → IsSomeAnd (slice_get actors i) (λ x. x.name ≡ a)
  pub strangers : (a : List ℕ) → places a ≡ None → IsStranger s events a
  pub started : (a : List ℕ) → was_started events a ≡ is_some (places a)

-- that actor's, and open in this mode
pub record IsOwn (d : Disk) (holder : ℕ → Option (List ℕ)) (a : List ℕ) (fd : ℕ) (mode : Mode) : Type 0 where
  pub held : holder fd ≡ Some a
  pub number : ℕ
  pub is : d.opens fd ≡ Some (record { number = number; mode = mode })

-- what is held is open, and that actor's
abbrev pub Owns : Disk → (ℕ → Option (List ℕ)) → List ℕ → (ℕ → Option Mode) → Type 0
Owns d holder a held = (fd : ℕ) (mode : Mode) → held fd ≡ Some mode → IsOwn d holder a fd mode

-- what an actor has open is its own, and so is what its past holds, while it lives
pub record HasOpen (d : Disk) (s : State) (x : Held) : Type 0 where
  pub lists : (fd : ℕ) → has fd x.descriptors.items ≡ is_by x.name (s.holder fd)
  pub apart : AreApart x.descriptors.items
  pub owns : (actor : Actor) → s.actors x.name ≡ Some actor → actor.life ≡ Alive → Owns d s.holder x.name (held actor.past)

-- what an actor holds is open
pub record IsOpenTo (d : Disk) (actors : List Held) (s : State) : Type 0 where
  pub held : (fd : ℕ) (a : List ℕ) → s.holder fd ≡ Some a → IsSome (d.opens fd)
  pub each : (i : ℕ) (x : Held) → slice_get actors i ≡ Some x → HasOpen d s x

-- from some disk a history led here
abbrev pub IsLed : Disk → List Kept → ℕ → Type 0
IsLed now events present = (opening : Disk) × (h : List Event) × Leads opening now events present h

-- a local delivery has the name of its number, and until it starts the injector of its forwards, no actor has that one's name
pub record IsNumbered (s : State) (a : List ℕ) (x : Actor) : Type 0 where
  pub number : ℕ
  pub named : a ≡ delivery_name number
  pub unborn : starts x.past ≡ [] → s.actors (forward_of a) ≡ None

-- What the fields of a world keep together: the disk, the places, the actors, the events with what they tell, the moment, the next
-- process number, and how many bounces were injected and deliveries started: no actor has the name of a later one.
pub record IsWorld (disk : Option Disk) (places : List ℕ → Option ℕ) (actors : List Held) (s : State) (events : List Kept) (present next : ℕ) (counts : Counts) : Type 0 where
  pub moment : IsMoment present
  pub now : s.now ≡ present
  pub pid : next ≡ next_pid events
  pub count : counts ≡ counts_in events
  pub unborn : (n : ℕ) → counts.bounces < n → places (bounce_name n) ≡ None
  pub undelivered : (n : ℕ) → counts.deliveries < n → (places (delivery_name n) ≡ None) × (places (forward_of (delivery_name n)) ≡ None)
  pub numbered : (a : List ℕ) (x : Actor) → s.actors a ≡ Some x → IsDelivery x.program → IsNumbered s a x
  pub kept : AreActors places actors s events present
  pub opens : OnTold disk (λ d. IsOpenTo d actors s)
  pub led : OnTold disk (λ d. IsLed d events present)

-- an event that is neither an own event of this parent nor of its child, which it leaves as it began
abbrev pub IsApart : List ℕ → List ℕ → Kept → Type 0
IsApart parent c (kept.Start a program) = a ≢ c
IsApart parent c (kept.Act a own) = (a ≢ parent) × (a ≢ c)
IsApart parent c (kept.Child a own b program) = (a ≢ parent) × (a ≢ c) × (b ≢ c)
IsApart parent c (kept.Feed a own b message envelope) = ⊥
IsApart parent c (kept.End a read ready status) = (a ≢ parent) × (a ≢ c)
IsApart parent c event = Unit {0}

-- the newest event of that parent's own past is the start of this child, which has done nothing since then
pub record HasJustStarted (events : List Kept) (parent c : List ℕ) : Type 0 where
  pub later : List Kept
  pub own : Own
  pub program : Program
  pub before : List Kept
  pub are : with_inputs (reverse events) ≡ later ++ kept.Child parent own c program ∷ before
  pub apart : All (IsApart parent c) later

-- this starts an injector, of a bounce or of a forward
abbrev pub IsBirth : NeedData → GotData → Type 0
IsBirth (needs.Start (child.Bounce room)) (Started pid) = Unit {0}
IsBirth (needs.Start (child.Forward uid room)) (Started pid) = Unit {0}
IsBirth due came = ⊥

-- the newest event of a past started one
abbrev pub HasBorneLast : List Own → Type 0
HasBorneLast [] = ⊥
HasBorneLast (own ∷ before) = IsBirth own.due own.came

-- the child of that parent awaits the input that its parent gives it next
pub record MayFeed (s : State) (events : List Kept) (parent : List ℕ) : Type 0 where
  pub child : List ℕ
  pub runs : s.pipework.programs parent 0 ≡ Some (Runs child)
  pub awaiting : is_awaiting s child ≡ true
  pub just : HasJustStarted events parent child

-- who awaits its input is the child that a living actor has just started
pub record IsAwaited (s : State) (c : List ℕ) : Type 0 where
  pub parent : List ℕ
  pub runs : s.pipework.programs parent 0 ≡ Some (Runs c)
  pub actor : Actor
  pub is : s.actors parent ≡ Some actor
  pub alive : actor.life ≡ Alive
  pub borne : HasBorneLast actor.past

-- who runs in a slot is known, has its pipes by its program, and is what runs in a slot of that actor
pub record IsBorne (wires : List ℕ → Option ℕ) (s : State) (a : List ℕ) (d : ℕ) (c : List ℕ) : Type 0 where
  pub child : Actor
  pub is : s.actors c ≡ Some child
  pub runs : RunsBy (wires c) child.program
  pub bears : (x : Actor) → s.actors a ≡ Some x → BearsIn x.program d child.program

-- who was never started has no place and no slot, and nothing lies in its pipes
pub record IsUnwired (wires : List ℕ → Option ℕ) (w : Pipework) (a : List ℕ) : Type 0 where
  pub place : wires a ≡ None
  pub slot : w.slots a ≡ None
  pub pipes : (port : Port) → IsOwnPort (length members) port → w.pipes a port ≡ fresh

-- What a world keeps of its pipes: those of the members, while one of them lives, then those of deliveries, and by `wires` at which place
-- an actor has its own. No giving failed. Who lives has its pipes by its program, and so has who runs in a slot. Who has just started an
-- injector gives it its input before it does anything else, and no other injector awaits any.
pub record ArePiped (crew : ℕ) (mouths : List Mouths) (actors : List Held) (s : State) (events : List Kept) : Type 0 where
  pub wires : List ℕ → Option ℕ
  pub wired : AreWired wires mouths s.pipework
  pub slots : HaveSlots mouths
  pub children : HaveChildren mouths
  pub over : AreOver (λ c. is_gone (s.actors c)) mouths
  pub places : (i : ℕ) (x : Held) → slice_get actors i ≡ Some x → x.ended ≡ None → wires x.name ≡ x.wire
  pub stands : (i : ℕ) (x : Held) → slice_get actors i ≡ Some x → x.ended ≡ None → IsSlotOf wires (s.pipework.slots x.name) x.slot
  pub others : (i : ℕ) (x : Held) → slice_get actors i ≡ Some x → is_member x.name ≡ false → wires x.name ≡ x.wire
  pub runs : (a : List ℕ) (x : Actor) → s.actors a ≡ Some x → x.life ≡ Alive → RunsBy (wires a) x.program
  pub born : (a : List ℕ) (d : ℕ) (c : List ℕ) → s.pipework.programs a d ≡ Some (Runs c) → IsBorne wires s a d c
  pub whole : AreWholeGivings (reverse events)
  pub fresh : (a : List ℕ) → s.actors a ≡ None → is_member a ≡ false → IsUnwired wires s.pipework a
  pub fed : (a : List ℕ) (x : Actor) → s.actors a ≡ Some x → x.life ≡ Alive → HasBorneLast x.past → MayFeed s events a
  pub awaited : (c : List ℕ) (x : Actor) → s.actors c ≡ Some x → IsMail x.program → is_awaiting s c ≡ true → IsAwaited s c
  pub count : (length mouths ≡ 0) ⊎ ((length members ≤ length mouths) × (crew ≡ length members))
  pub few : (crew ≡ 0) ⊎ (crew ≡ length members)
  pub many : crew ≤ length actors
  pub seated : (i : ℕ) (x : Held) → i < crew → slice_get actors i ≡ Some x → x.ended ≡ None → length members ≤ length mouths

-- not ended
abbrev pub lives : Held → Bool
lives x = is_none x.ended

-- how many actors haven't ended: as many events it keeps room for, so that each can be stopped without memory
abbrev pub living : List Held → ℕ
living actors = count_by lives actors
