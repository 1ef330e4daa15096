-- Who starts injectors, by its table: it feeds each at once, and nothing else that a program asks for is like it.
use Rattle.std.proofs.Common.{◌≡◌, ◌<◌, ℕ, List, [], ◌∷◌, zero, suc, Option, Some, None, refl, sym, ◌∙◌, subst, arith}
use Rattle.call_fs.specs.declared.past.ChildData.{ChildData}
use Rattle.call_fs.specs.declared.past.ChildData.TheVariants as child
use Rattle.call_fs.specs.declared.past.GotData.{GotData}
use Rattle.call_fs.specs.declared.past.NeedData.{NeedData}
use Rattle.call_fs.specs.declared.past.NeedData.TheVariants as needs
use Rattle.call_fs.specs.declared.past.Own.{Own}
use Rattle.call_fs.specs.declared.program.Port.TheVariants as port
use Rattle.call_fs.specs.declared.program.Ready.{Ready}
use Rattle.call_fs.specs.Past.{IsRunBy}
use Rattle.queue_clean.proofs.Demands.{asks}
use Rattle.queue_clean.specs.Asked.{IsAsked}
use Rattle.queue_clean.specs.Asked.IsAsked.{Searches, Stats, Unlinks, Takes, Gives, Ends}
use Rattle.local_spawn.specs.declared.row.Row.{Row as LocalRow}
use Rattle.local_spawn.specs.declared.row.Row.TheVariants as users
use Rattle.local_spawn.specs.declared.place.Place.{Place as LocalPlace}
use Rattle.local_spawn.specs.Table.{place_after as local_after, due_at as local_due, program_of as delivery_of}
use Rattle.remote_spawn.specs.Table.{place_after as remote_after, program_of as remote_of}
use Rattle.spawner_parts.specs.declared.place.Place.{Place}
use Rattle.spawner_parts.specs.declared.row.Row.{Row}
use Rattle.spawner_parts.specs.declared.row.Row.TheVariants as at
use Rattle.spawner_parts.specs.Table.{due_at, row_now}
use Rattle.world_events.specs.declared.event.Program.{Program}
use Rattle.world_events.specs.declared.event.Program.TheVariants.{Injector, Cleaner, Sender, LocalSpawner, RemoteSpawner, Delivery}
use Rattle.world_events.specs.Children.{IsActor}
use Rattle.local_deliver.specs.Forwards.{HasStarted}
use Rattle.local_deliver.specs.Deeds.{starts, told_names}
use Rattle.local_parts.specs.Forwarding.{envelope, forward_sender, forwards}
use Rattle.local_parts.specs.Texts.{forward_text}
use Rattle.local_deliver.proofs.Forwards.{single, given, next}
use Rattle.local_parts.specs.declared.arguments.LocalArgs.{LocalArgs}
use Rattle.mail_world.specs.ByKind.{BearsIn, IsMail}
use Rattle.mail_world.specs.History.{IsDelivery, IsLocalSpawner, next_of}
use Rattle.mail_world.specs.Inside.{IsBirth, RunsBy, HasBorneLast}
use Rattle.mail_world.specs.Pipework.{slot_of}
use Rattle.mail_world.specs.Wired.{MayRunIn}
use Rattle.mail_world.proofs.Programs.{program_starts_none}
use Rattle.mail_world.proofs.ReturnGives.{IsGiving, birth_is, birth_gives, gives_texts, sender_asks}

-- a program that starts injectors, each in its first slot, and feeds it next
abbrev pub IsFeeder : Program → Type 0
IsFeeder (Sender start) = Unit {0}
IsFeeder (Delivery start args) = Unit {0}
IsFeeder other = ⊥

-- What a program starts: the sender the injectors of bounces, the spawners their deliveries, and a local delivery the injector of its
-- forwards.
abbrev pub Starts : Program → ChildData → Type 0
Starts (Sender start) (child.Bounce room) = Unit {0}
Starts (LocalSpawner start) (child.Local slot words uid) = Unit {0}
Starts (RemoteSpawner start) (child.Remote slot domain sender recipient) = Unit {0}
Starts (Delivery start args) (child.Forward uid room) = Unit {0}
Starts other asked = ⊥

-- no mail feeds
pub no_mail_feeds : (program : Program) → IsFeeder program → IsMail program → ⊥
no_mail_feeds (Injector args) feeds mail = feeds
no_mail_feeds other feeds mail = mail

-- a spawner starts its own program
spawner_asks : (program asked : ChildData) (row : Row) (p : Place) → due_at program row p ≡ needs.Start asked → program ≡ asked
spawner_asks program asked at.Start p e = cc
spawner_asks program asked at.Greet p e = absurd (cc)
spawner_asks program asked at.Idle p e = absurd (cc)
spawner_asks program asked at.TakeInput p e = absurd (cc)
spawner_asks program asked at.OpenMess p e = absurd (cc)
spawner_asks program asked (at.ReadMess fd) p e = absurd (cc)
spawner_asks program asked (at.CloseMess fd whole) p e = absurd (cc)
spawner_asks program asked at.Feed p e = absurd (cc)
spawner_asks program asked (at.TakeOutput slot) p e = absurd (cc)
spawner_asks program asked (at.TakeStatus slot) p e = absurd (cc)
spawner_asks program asked at.Report p e = absurd (cc)
spawner_asks program asked (at.Ended code) p e = absurd (cc)

local_asks : (start : ℕ) (row : LocalRow) (ready : Ready) (p : LocalPlace) (asked : ChildData) → local_due row ready p ≡ needs.Start asked → Starts (LocalSpawner start) asked
local_asks start users.Serves ready p asked e = subst (Starts (LocalSpawner start)) (spawner_asks (delivery_of p) asked (row_now p.work ready) p.work e) tt
local_asks start users.OpenUsers ready p asked e = absurd (cc)
local_asks start (users.ReadUsers fd) ready p asked e = absurd (cc)
local_asks start (users.CloseUsers fd whole) ready p asked e = absurd (cc)
local_asks start users.OutOfMemory ready p asked e = absurd (cc)

-- a cleaner starts nothing
clean_asks : {due : NeedData} (asked : ChildData) → IsAsked due → due ≡ needs.Start asked → ⊥
clean_asks asked (Searches dir after) e = cc
clean_asks asked (Stats name) e = cc
clean_asks asked (Unlinks name) e = cc
clean_asks asked Takes e = cc
clean_asks asked (Gives bytes) e = cc
clean_asks asked (Ends status) e = cc

-- What a program asks for to be started is what it may start.
pub starter : (program : Program) (past : List Own) (now : ℕ) (ready : Ready) (asked : ChildData) → IsRunBy (next_of program) past → next_of program past now ready ≡ needs.Start asked → Starts program asked
starter (Sender start) past now ready asked run e = subst (Starts (Sender start)) (sym (sender_asks start past now ready asked e).1) tt
starter (Injector args) past now ready asked run e = absurd (program_starts_none (Injector args) past now ready asked tt e)
starter (Cleaner start) past now ready asked run e = absurd (clean_asks asked (asks tt past now ready) e)
starter (LocalSpawner start) past now ready asked run e = local_asks start (local_after past).row ready (local_after past) asked e
starter (RemoteSpawner start) past now ready asked run e =
    let p = remote_after past in subst (Starts (RemoteSpawner start)) (spawner_asks (remote_of p.request) asked (row_now p ready) p e) tt
starter (Delivery start args) past now ready asked run e = subst (Starts (Delivery start args)) (sym (single args past now ready asked run e).0.1) tt

-- a delivery that starts something has started nothing before
pub first_start : (start : ℕ) (args : LocalArgs) (past : List Own) (now : ℕ) (ready : Ready) (asked : ChildData) → IsRunBy (next_of (Delivery start args)) past
    → next_of (Delivery start args) past now ready ≡ needs.Start asked → starts past ≡ []
first_start start args past now ready asked run e = (single args past now ready asked run e).1

pub delivery_starts : (program : Program) (past : List Own) (now : ℕ) (ready : Ready) (asked : ChildData) → IsDelivery program → IsRunBy (next_of program) past
    → next_of program past now ready ≡ needs.Start asked → starts past ≡ []
delivery_starts (Delivery start args) past now ready asked delivers run e = first_start start args past now ready asked run e
delivery_starts other past now ready asked delivers run e = absurd delivers

-- who starts the injector of forwards is a delivery
pub forward_by : (program : Program) (uid room : ℕ) → Starts program (child.Forward uid room) → IsDelivery program
forward_by (Delivery start args) uid room may = tt
forward_by other uid room may = absurd may

-- Where a child runs that is no remote program: in a slot that is for one.
pub starts_at : (at : Option ℕ) (program : Program) (asked : ChildData) → Starts program asked → IsActor asked → RunsBy at program → (i : ℕ) × (at ≡ Some i) × MayRunIn i (slot_of asked)
starts_at (Some zero) (Sender start) (child.Bounce room) may actor runs = (0, refl, refl)
starts_at (Some (suc (suc zero))) (LocalSpawner start) (child.Local slot words uid) may actor runs = (2, refl, tt)
starts_at (Some (suc (suc (suc (suc i))))) (Delivery start args) (child.Forward uid room) may actor runs = (suc (suc (suc (suc i))), refl, refl)
starts_at (Some (suc zero)) (Sender start) (child.Bounce room) may actor runs = absurd runs
starts_at (Some (suc (suc zero))) (Sender start) (child.Bounce room) may actor runs = absurd runs
starts_at (Some (suc (suc (suc zero)))) (Sender start) (child.Bounce room) may actor runs = absurd runs
starts_at (Some (suc (suc (suc (suc i))))) (Sender start) (child.Bounce room) may actor runs = absurd runs
starts_at None (Sender start) (child.Bounce room) may actor runs = absurd runs
starts_at (Some zero) (LocalSpawner start) (child.Local slot words uid) may actor runs = absurd runs
starts_at (Some (suc zero)) (LocalSpawner start) (child.Local slot words uid) may actor runs = absurd runs
starts_at (Some (suc (suc (suc zero)))) (LocalSpawner start) (child.Local slot words uid) may actor runs = absurd runs
starts_at (Some (suc (suc (suc (suc i))))) (LocalSpawner start) (child.Local slot words uid) may actor runs = absurd runs
starts_at None (LocalSpawner start) (child.Local slot words uid) may actor runs = absurd runs
starts_at (Some zero) (Delivery start args) (child.Forward uid room) may actor runs = absurd runs
starts_at (Some (suc zero)) (Delivery start args) (child.Forward uid room) may actor runs = absurd runs
starts_at (Some (suc (suc zero))) (Delivery start args) (child.Forward uid room) may actor runs = absurd runs
starts_at (Some (suc (suc (suc zero)))) (Delivery start args) (child.Forward uid room) may actor runs = absurd runs
starts_at None (Delivery start args) (child.Forward uid room) may actor runs = absurd runs
starts_at at (RemoteSpawner start) (child.Remote slot domain sender recipient) may actor runs = absurd actor
starts_at at other asked may actor runs = absurd may

-- and a remote program is started by a member
pub remote_at : (i : ℕ) (program : Program) (slot : ℕ) (domain sender recipient : List ℕ) → Starts program (child.Remote slot domain sender recipient) → RunsBy (Some i) program → i < 4
remote_at (suc (suc (suc zero))) (RemoteSpawner start) slot domain sender recipient may runs = omega arith
remote_at zero (RemoteSpawner start) slot domain sender recipient may runs = absurd runs
remote_at (suc zero) (RemoteSpawner start) slot domain sender recipient may runs = absurd runs
remote_at (suc (suc zero)) (RemoteSpawner start) slot domain sender recipient may runs = absurd runs
remote_at (suc (suc (suc (suc i)))) (RemoteSpawner start) slot domain sender recipient may runs = absurd runs
remote_at i other slot domain sender recipient may runs = absurd may

-- Who has just started the injector of a bounce or of a forward

-- a delivery starts no other one
started_one : (start : ℕ) (args : LocalArgs) (past : List Own) → IsRunBy (next_of (Delivery start args)) past → HasStarted past → HasBorneLast past
started_one start args [] run h = absurd h.1.1
started_one start args (own ∷ before) run h =
    let due = run.1.0 ∙ h.1.1.0 in
    let asks = (single args before own.read own.ready h.0 run.0 due).0 in
    subst (λ (due : NeedData). IsBirth due own.came) (sym h.1.1.0)
    (subst (λ (asked : ChildData). IsBirth (needs.Start asked) own.came) (sym asks.1)
    (subst (IsBirth (needs.Start (child.Forward args.uid asks.0))) (sym h.1.1.1) tt))

has_started : (past : List Own) → HasBorneLast past → HasStarted past
has_started [] last = absurd last
has_started (own ∷ before) last = let b = birth_is own.due own.came last in (b.0, (b.1, (b.2, b.3)))

-- Who has just started one feeds it.
birth_starts : (program : Program) (own : Own) (before : List Own) → IsRunBy (next_of program) (own ∷ before) → IsBirth own.due own.came → (asked : ChildData) × (own.due ≡ needs.Start asked) × Starts program asked
birth_starts program own before run last =
    let b = birth_is own.due own.came last in
    (b.0, b.2, starter program before own.read own.ready b.0 run.0 (run.1.0 ∙ b.2))

no_other : (program : Program) (due : NeedData) (asked : ChildData) (got : GotData) → due ≡ needs.Start asked → Starts program asked → IsBirth due got → IsFeeder program
no_other (Sender start) due asked got is may birth = tt
no_other (Delivery start args) due asked got is may birth = tt
no_other (LocalSpawner start) due (child.Local slot words uid) got is may birth = absurd (subst (λ (due : NeedData). IsBirth due got) is birth)
no_other (RemoteSpawner start) due (child.Remote slot domain sender recipient) got is may birth = absurd (subst (λ (due : NeedData). IsBirth due got) is birth)
no_other program due asked got is may birth = absurd may

pub birth_feeds : (program : Program) (past : List Own) → IsRunBy (next_of program) past → HasBorneLast past → IsFeeder program
birth_feeds program [] run last = absurd last
birth_feeds program (own ∷ before) run last = let b = birth_starts program own before run last in no_other program own.due b.0 own.came b.1 b.2 last

-- Who feeds has just started a child, in its first slot, and gives it two texts.
pub feeder_gives : (program : Program) (past : List Own) (now : ℕ) (ready : Ready) (d : ℕ) (bytes : List ℕ) → IsFeeder program → IsRunBy (next_of program) past
    → next_of program past now ready ≡ needs.Give (port.Program d) bytes → IsGiving past d bytes
feeder_gives (Sender began) past now ready d bytes feeds run e = gives_texts began past now ready d bytes run e
feeder_gives (Delivery start args) past now ready d bytes feeds run e =
    let g = given args past now ready d bytes run e in
    record { borne = started_one start args past run g.1; first = g.0; texts = record { message = forward_text args g.2.message; envelope = envelope (forward_sender args (told_names args.home past)) (forwards g.2.reached); are = g.2.is } }
feeder_gives other past now ready d bytes feeds run e = absurd feeds

-- Who has just started one gives it its input next, at each moment and with whatever ready.
pub feeder_next : (program : Program) (past : List Own) → IsFeeder program → IsRunBy (next_of program) past → HasBorneLast past
    → (bytes : List ℕ) × ((now : ℕ) (ready : Ready) → next_of program past now ready ≡ needs.Give (port.Program 0) bytes)
feeder_next (Sender began) past feeds run borne = birth_gives began past run borne
feeder_next (Delivery start args) past feeds run borne = next args past run (has_started past borne)
feeder_next other past feeds run borne = absurd feeds

-- What runs in a slot of a feeder is an injector in the first one, and in one of a local spawner a delivery.
pub feeder_bears : (program : Program) (d : ℕ) (child : Program) → IsFeeder program → BearsIn program d child → (d ≡ 0) × IsMail child
feeder_bears (Sender start) d child feeds bears = bears
feeder_bears (Delivery start args) d child feeds bears = bears
feeder_bears other d child feeds bears = absurd feeds

-- and who is neither has none there
pub bears_feeds : (program : Program) (d : ℕ) (child : Program) → BearsIn program d child → (IsLocalSpawner program → ⊥) → IsFeeder program
bears_feeds (Sender start) d child bears other = tt
bears_feeds (Delivery start args) d child bears other = tt
bears_feeds (LocalSpawner start) d child bears other = absurd (other tt)
bears_feeds program d child bears other = absurd bears
