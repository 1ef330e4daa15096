-- What is promised of each state and of each event, and the headline: no accepted message is lost.
use Rattle.std.specs.Prelude.{◌≡◌, ◌≢◌, ℕ, ◌<◌, List, ◌∷◌, ◌++◌, true, false, Option, Some, None, IsSome, Contains}
use Rattle.call_fs.specs.Disk.{Disk, IsSynced}
use Rattle.call_fs.specs.declared.past.GotData.TheVariants as got
use Rattle.call_fs.specs.declared.past.NeedData.TheVariants as needs
use Rattle.call_fs.specs.declared.past.Own.{Own}
use Rattle.call_fs.specs.declared.program.Port.TheVariants as port
use Rattle.call_fs.specs.Past.{HasCall}
use Rattle.envelope_records.specs.declared.channel.Record.{Record}
use Rattle.local_parts.specs.declared.arguments.LocalArgs.{LocalArgs}
use Rattle.queue_paths.specs.Names.{path}
use Rattle.queue_paths.specs.Names.Part.{Mess}
use Rattle.queue_paths.specs.Names.Name.{Of}
use Rattle.queue_inject.specs.Causes.{IsQueuing}
use Rattle.queue_inject.specs.Texts.{entered}
use Rattle.queue_states.specs.declared.state.State.TheVariants.{Other}
use Rattle.queue_states.specs.States.{state_of}
use Rattle.send_jobs.specs.declared.attempts.Attempt.{Attempt}
use Rattle.send_known.specs.declared.channel.Channel.{Channel}
use Rattle.send_known.specs.declared.channel.Channel.TheVariants.{Local}
use Rattle.send_core.specs.Agrees.{task_of}
use Rattle.send_core.specs.Past.{Task, account}
use Rattle.send_core.specs.Table.{port_of}
use Rattle.send_links.specs.Records.{records_of}
use Rattle.send_links.specs.Requests.{request_of, to_slot}
use Rattle.queue_law.specs.Books.{Books, HasQueued, Injection, IsInjected, IsValid}
use Rattle.queue_law.specs.Routes.{Recipient, lane_part, routed, sender_of, spot_of}
use Rattle.mail_world.specs.History.{Event, Actor, State, Legal, after}
use Rattle.mail_world.specs.History.Event.{Act}
use Rattle.mail_world.specs.History.Life.{Over}
use Rattle.mail_world.specs.Waiting.{EachWaiting, HasNoGeneration}
use Rattle.mail_world.specs.World.{Happened, Seen}
use Rattle.world_events.specs.declared.event.Program.{Program}
use Rattle.world_events.specs.declared.event.Program.TheVariants.{Delivery, Injector, Sender}
use Rattle.world_law.specs.Carried.{Carried, HearsTrue, WasCarried}
use Rattle.world_law.specs.Deliveries.{IsCarriedOut}
use Rattle.world_law.specs.Ledger.{IsAccounted}
use Rattle.world_law.specs.Reported.{WasTaken}
use Rattle.world_law.specs.Lives.{IsLifeOf, SenderDid}
use Rattle.world_law.specs.Routed.{namer_told, routes_told}

-- What the past of a program has put into the books: of an injector whose link to todo was answered Ok, its accepted injection.
abbrev pub IsBooked : Books → List ℕ → Program → List Own → Type 0
IsBooked b a (Injector args) past = HasCall past IsQueuing → HasQueued b a args
IsBooked b a other past = Unit {0}

-- What a program's end with 0 says, after this past: an injector's, that it has an accepted injection; a delivery's, that its instructions
-- were carried out, and that the injection of its forwards, if it has any, was accepted.
abbrev pub EndsWell : Books → List ℕ → Program → List Own → Type 0
EndsWell b a (Injector args) past = HasQueued b a args
EndsWell b a (Delivery start args) past = IsCarriedOut b args past
EndsWell b a other past = Unit {0}

-- What is claimed of a state.
pub record SafeState (s : State) : Type 0 where
  -- each number is in one of the states S1 to S5
  pub states : (n : ℕ) → state_of s.disk n ≢ Other
  -- the name of a message is the file of its own number
  pub numbers : (n i : ℕ) → s.disk.names (path (Of Mess n)) ≡ Some i → i ≡ n
  -- while the life of an accepted injection lasts and its message is there, the message reads as entered, and all of it is on the disk
  pub messages : (q : Injection) (i : ℕ) → s.books.living q.number ≡ Some q → q.accepted ≡ true → s.disk.names (path (Of Mess q.number)) ≡ Some i
      → IsSynced (s.disk.files i) (entered q.args)
  -- what was accepted is valid
  pub valid : (q : Injection) → IsInjected s.books q → q.accepted ≡ true → IsValid q.args
  -- an injector's Ok link to todo accepts its injection, however it ends
  pub queued : (a : List ℕ) (x : Actor) → s.actors a ≡ Some x → IsBooked s.books a x.program x.past
  -- an injector's end with 0 comes only of an accepted injection, and a delivery's only of instructions that were carried out
  pub ends : (a : List ℕ) (x : Actor) → s.actors a ≡ Some x → x.life ≡ Over 0 → EndsWell s.books a x.program x.past

-- What is claimed of the state after a history that began with this disk.
pub record Safe (d : Disk) (h : List Event) : Type 0 where
  pub state : SafeState (after d h)
  -- Each recipient of each accepted injection is accounted for: it is pending, in todo or in its channel file; or a report said that it was
  -- delivered to; or a report said that it failed, and then its note is held in the bounce file, or a bounce with it was accepted, or the notes of a
  -- double bounce were dropped. It has its channel, its place and its name by the life of its message, to its end or so far.
  pub accounted : (q : Injection) → IsInjected (after d h).books q → q.accepted ≡ true
      → (life : List Event) × IsLifeOf d h life q × ((r : Recipient q.args) → IsAccounted d h (routes_told d life q.number) (namer_told d life q.number) q r)

-- A request that a sender gives, also in part, is of the record next to be given by its past, which reads `T` in its channel file; it has that record,
-- the sender of the injection whose life lasts, and the lowest slot in which nothing is in flight; no other attempt at the record is in flight.
pub record IsAttempt (s : State) (past : List Own) (ch : Channel) (text : List ℕ) : Type 0 where
  pub attempt : Attempt
  pub rest : List Task
  pub slot : ℕ
  pub injection : Injection
  pub next_is : (account ch past).to_give ≡ task_of attempt ∷ rest
  pub reads : (file : ℕ) × (s.disk.names (path (Of (lane_part ch) attempt.n)) ≡ Some file) × (records : List Record) × (records_of (s.disk.files file).bytes ≡ Some records)
      × Contains records (record { done = false; place = attempt.place; address = attempt.address })
  pub lives : s.books.living attempt.n ≡ Some injection
  pub free : (account ch past).in_flight slot ≡ None
  pub lowest : (k : ℕ) → k < slot → IsSome ((account ch past).in_flight k)
  pub limited : slot < (account ch past).limit
  pub text_is : text ≡ to_slot slot (request_of attempt.n (sender_of injection.args) attempt.address)
  pub alone : (k : ℕ) (t : Task) → (account ch past).in_flight k ≡ Some t → t.n ≡ attempt.n → t.place ≢ attempt.place

-- The promise of the queue, for a history from an opening disk.
pub record Promise (d : Disk) (h : List Event) : Type 0 where
  -- the state is safe: each recipient of an accepted message is accounted for
  pub safe : Safe d h
  -- who is accounted for as delivered, and is local, had this message delivered by a local delivery that was carried out
  pub delivered : (i : Injection) → IsInjected (after d h).books i → (life : List Event) → IsLifeOf d h life i → (r : Recipient i.args)
      → let routes = routes_told d life i.number in (spot_of routes i.args r).channel ≡ Local → WasTaken d h true i (spot_of routes i.args r)
      → WasCarried d h (routed routes i.args r) (entered i.args)
  -- each giving of a sender to a spawner was an attempt: at a record that read `T`, and no other one at it was in flight
  pub attempts : (later until : List Event) → later ++ until ≡ h → (it : SenderDid d until) → (ch : Channel) (text : List ℕ) → it.own.due ≡ needs.Give (port_of ch) text
      → IsAttempt (after d it.earlier) it.sender.past ch text
  -- each report that a sender took of the local spawner was of an attempt in flight, and each success of a delivery for it that was carried out
  pub reports : (later until : List Event) → later ++ until ≡ h → (it : SenderDid d until) → it.own.due ≡ needs.Take port.Lspawn → (bytes : List ℕ)
      → it.own.came ≡ got.Took bytes → HearsTrue d it.earlier it.sender.past it.own
  -- so was each local delivery that ended with 0
  pub carried : (name : List ℕ) (x : Actor) → (after d h).actors name ≡ Some x → (start : ℕ) (args : LocalArgs) → x.program ≡ Delivery start args → x.life ≡ Over 0
      → (message : List ℕ) × Carried d h name args x.past message

-- However the calls interleave and wherever a program or the machine stops: the promise holds of each prefix of a legal history, whatever its control
-- files say.
abbrev pub Headline : Type 0
Headline = (d : Disk) (later before : List Event) → Legal d (later ++ before) → Promise d before

-- so it holds of each prefix of this history
abbrev pub EachPromised : Disk → List Event → Type 0
EachPromised opening h = (later before : List Event) → later ++ before ≡ h → Promise opening before

-- What holds of a history that began with this disk: the promise, of each prefix; and if no generation was started, each accepted message waits in todo
-- after each of them.
pub record IsSafeBy (opening : Disk) (h : List Event) : Type 0 where
  pub safe : EachPromised opening h
  pub alone : HasNoGeneration h → EachWaiting opening h

-- The promise holds of each prefix of what happened in a world, by what its disk tells.
abbrev pub WorldsAreSafe : Type 0
WorldsAreSafe = (opening : Disk) (w : Seen (Option Disk)) (h : List Event) → Happened {D = Option Disk} (λ told. told) opening w h
    → EachPromised opening h

-- Each giving of a sender to a spawner is an attempt.
abbrev pub AttemptsAreSound : Type 0
AttemptsAreSound = (d : Disk) (a : List ℕ) (own : Own) (wrote : ℕ) (before : List Event)
    → Legal d (Act a own wrote ∷ before) → (x : Actor) → (after d before).actors a ≡ Some x → (start : ℕ) → x.program ≡ Sender start
    → (ch : Channel) (text : List ℕ) → own.due ≡ needs.Give (port_of ch) text → IsAttempt (after d before) x.past ch text
