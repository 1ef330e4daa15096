-- Each delivery was started with words that have no NUL, where they may go into an envelope.
use Rattle.std.proofs.Common.{◌≡◌, ℕ, List, [], ◌∷◌, Bool, true, false, Option, Some, None, refl, sym, subst, codes, if◌then◌else◌}
use Rattle.mail_bytes.specs.Texts.{HasNoNul}
use Rattle.call_fs.specs.Disk.{Disk}
use Rattle.call_fs.specs.Maps.{put_at}
use Rattle.call_fs.specs.declared.calls.CallData.{CallData}
use Rattle.call_fs.specs.declared.calls.CallData.TheVariants as call
use Rattle.call_fs.specs.declared.past.ChildData.{ChildData}
use Rattle.call_fs.specs.declared.past.ChildData.TheVariants as child
use Rattle.call_fs.specs.declared.past.DeliveryWordsData.{DeliveryWordsData}
use Rattle.call_fs.specs.declared.past.NeedData.{NeedData}
use Rattle.call_fs.specs.declared.past.NeedData.TheVariants as needs
use Rattle.call_fs.specs.declared.past.Own.{Own}
use Rattle.call_fs.specs.declared.program.Ready.{Ready}
use Rattle.local_deliver.specs.declared.place.Place.{Place as DeliveryPlace}
use Rattle.local_deliver.specs.declared.row.Row.{Row as DeliveryRow}
use Rattle.local_deliver.specs.declared.row.Row.TheVariants as deliver
use Rattle.local_deliver.specs.Drops.{Drop}
use Rattle.local_deliver.specs.Table.{due_at as deliver_due, due_by_drop, place_after as deliver_after}
use Rattle.local_spawn.specs.declared.place.Place.{Place as LocalPlace}
use Rattle.local_spawn.specs.declared.row.Row.{Row as LocalRow}
use Rattle.local_spawn.specs.declared.row.Row.TheVariants as local
use Rattle.local_spawn.specs.Table.{due_at as local_due, place_after as local_after, program_of as local_asks}
use Rattle.local_parts.specs.declared.arguments.LocalArgs.{LocalArgs}
use Rattle.maildir_drop.specs.declared.names.DropNames.{DropNames}
use Rattle.maildir_drop.specs.declared.row.Row.{Row as DropRow}
use Rattle.maildir_drop.specs.declared.row.Row.TheVariants as drop
use Rattle.maildir_drop.specs.Table.{due_at as drop_due}
use Rattle.queue_clean.specs.declared.row.Row.{Row as CleanRow}
use Rattle.queue_clean.specs.declared.row.Row.TheVariants as clean
use Rattle.queue_clean.specs.Table.{due_at as clean_due, is_old, pid_path, place_after as clean_after, search_after}
use Rattle.queue_inject.proofs.Acts.{IsAlone, next_alone}
use Rattle.queue_law.proofs.Looks.{mapped_some}
use Rattle.remote_spawn.specs.Table.{place_after as remote_after, program_of as remote_asks}
use Rattle.send_core.specs.Table.{place_after as sender_after, row_now as sender_row}
use Rattle.program_law.proofs.Sender.Programs.{starts_of}
use Rattle.spawner_parts.specs.Table.{row_now as spawn_now}
use Rattle.world_events.specs.declared.event.Program.{Program}
use Rattle.world_events.specs.declared.event.Program.TheVariants.{Injector, Cleaner, Sender, LocalSpawner, RemoteSpawner, Delivery}
use Rattle.mail_world.proofs.Members.{are_four}
use Rattle.mail_world.specs.History.{Actor, Allowed, Event, IsCleaner, IsLocalSpawner, IsProgramOf, IsRemoteSpawner, IsSender, Legal, Life, MayBear, MayRun, State, acted, after, finished, happens, newborn, next_of, stopped}
use Rattle.mail_world.specs.History.Event.{Start, Act, Child, Generation, Report, End, Stop, Moment, Halt}
use Rattle.mail_world.specs.History.Life.{Over, Stopped}
use Rattle.world_law.proofs.Moved.{each_put}
use Rattle.world_law.proofs.PlainWords.{HasPlainWords, words_plain}
use Rattle.world_law.proofs.Spawners.{start_row}

pub record HasPlainArgs (args : LocalArgs) : Type 0 where
  pub local : HasNoNul args.local
  pub domain : HasNoNul args.domain
  pub sender : HasNoNul args.sender

abbrev pub IsPlainBy : Program → Type 0
IsPlainBy (Delivery start args) = HasPlainArgs args
IsPlainBy program = Unit {0}

abbrev pub ArePlainIn : (List ℕ → Option Actor) → Type 0
ArePlainIn actors = (a : List ℕ) (x : Actor) → actors a ≡ Some x → IsPlainBy x.program

-- Only the local spawner asks for a delivery.

abbrev AsksNone : NeedData → Type 0
AsksNone (needs.Start (child.Local slot words uid)) = ⊥
AsksNone due = Unit {0}

alone_asks : (due : NeedData) → IsAlone due → AsksNone due
alone_asks (needs.Start asked) alone = absurd alone
alone_asks due alone = tt

judged_asks : (old : Bool) (unlink : CallData) (name : List ℕ) → AsksNone (if old then needs.File unlink else search_after name)
judged_asks true unlink name = tt
judged_asks false unlink name = tt

clean_asks : (row : CleanRow) (name : List ℕ) (now : ℕ) → AsksNone (clean_due row name now)
clean_asks (clean.JudgePid moment) name now = judged_asks (is_old moment now) (call.Unlink (pid_path name)) name
clean_asks row name now = tt

drop_asks : (names : DropNames) (row : DropRow) (left : List ℕ) → AsksNone (drop_due names row left)
drop_asks names (drop.Create attempt) left = tt
drop_asks names row left = tt

dropping_asks : (o : Option Drop) → AsksNone (due_by_drop o)
dropping_asks None = tt
dropping_asks (Some d) = drop_asks d.names d.place.row d.place.left

delivery_asks : (args : LocalArgs) (row : DeliveryRow) (p : DeliveryPlace) → AsksNone (deliver_due args row p)
delivery_asks args deliver.Drop p = dropping_asks p.dropping
delivery_asks args row p = tt

module _ (slot : ℕ) (words : DeliveryWordsData) (uid : ℕ) where
  abbrev asking : ChildData
  asking = child.Local slot words uid

  none_asked : (due : NeedData) → AsksNone due → due ≡ needs.Start asking → HasPlainWords words
  none_asked due none is = absurd (subst AsksNone is none)

  local_asked : (past : List Own) (ready : Ready) (row : LocalRow) → local_due row ready (local_after past) ≡ needs.Start asking → HasPlainWords words
  local_asked past ready local.Serves due =
      let p : LocalPlace = local_after past in
      let it : local_asks p ≡ asking = (start_row (local_asks p) (spawn_now p.work ready) p.work asking due).1 in
      let same : p.delivery.words ≡ words = cc in
      subst (λ (z : DeliveryWordsData). HasPlainWords z) same (words_plain past)
  local_asked past ready row due = absurd (cc)

  asked_plain : (program : Program) (past : List Own) (read : ℕ) (ready : Ready) → next_of program past read ready ≡ needs.Start asking → HasPlainWords words
  asked_plain (Injector args) past read ready next = none_asked (next_of (Injector args) past read ready) (alone_asks (next_of (Injector args) past read ready) (next_alone args past read ready)) next
  asked_plain (Cleaner began) past read ready next =
      let p = clean_after past in none_asked (clean_due p.row p.name read) (clean_asks p.row p.name read) next
  asked_plain (Sender began) past read ready next =
      let d = sender_after None past in
      let w = starts_of d (sender_row d read ready) asking next in
      let it : asking ≡ child.Bounce d.bounce.room = w.asked_is in
      absurd (cc)
  asked_plain (LocalSpawner began) past read ready next = local_asked past ready (local_after past).row next
  asked_plain (RemoteSpawner began) past read ready next =
      let p = remote_after past in
      let it : remote_asks p.request ≡ asking = (start_row (remote_asks p.request) (spawn_now p ready) p asking next).1 in
      absurd (cc)
  asked_plain (Delivery start args) past read ready next =
      let p : DeliveryPlace = deliver_after args past in none_asked (deliver_due args p.row p) (delivery_asks args p.row p) next

born_plain : (asked : ChildData) (pid : ℕ) (program : Program) → IsProgramOf asked pid program
    → ((slot : ℕ) (words : DeliveryWordsData) (uid : ℕ) → asked ≡ child.Local slot words uid → HasPlainWords words) → IsPlainBy program
born_plain (child.Local slot words uid) pid (Delivery start args) is each =
    let w = each slot words uid refl in
    subst (λ (z : LocalArgs). HasPlainArgs z) (sym is) (record { local = w.local; domain = w.domain; sender = w.sender })
born_plain (child.Bounce room) pid (Delivery start args) is each = absurd is
born_plain (child.Forward uid room) pid (Delivery start args) is each = absurd is
born_plain (child.Remote slot domain sender recipient) pid (Delivery start args) is each = absurd is
born_plain asked pid program is each = tt

child_plain : (s : State) (parent : List ℕ) (own : Own) (a : List ℕ) (program : Program) → MayBear s parent own a program → IsPlainBy program
child_plain s parent own a program may = born_plain may.asked may.pid program may.is
    (λ slot words uid is. asked_plain slot words uid may.actor.program may.actor.past own.read own.ready
    (subst (λ (z : ChildData). next_of may.actor.program may.actor.past own.read own.ready ≡ needs.Start z) is
    (subst (λ (z : NeedData). next_of may.actor.program may.actor.past own.read own.ready ≡ z) may.starts may.due)))

-- Each event

runs_plain : (program : Program) → MayRun program → IsPlainBy program
runs_plain (Injector args) runs = tt
runs_plain program runs = absurd runs

sender_plain : (program : Program) → IsSender program → IsPlainBy program
sender_plain (Sender began) is = tt
sender_plain program is = absurd is

cleaner_plain : (program : Program) → IsCleaner program → IsPlainBy program
cleaner_plain (Cleaner began) is = tt
cleaner_plain program is = absurd is

local_plain : (program : Program) → IsLocalSpawner program → IsPlainBy program
local_plain (LocalSpawner began) is = tt
local_plain program is = absurd is

remote_plain : (program : Program) → IsRemoteSpawner program → IsPlainBy program
remote_plain (RemoteSpawner began) is = tt
remote_plain program is = absurd is

-- one is put there that is so
put_plain : (actors : List ℕ → Option Actor) (a : List ℕ) (y : Actor) → IsPlainBy y.program → ArePlainIn actors → ArePlainIn (put_at actors a (Some y))
put_plain actors a y own W = each_put actors a y (λ o z. IsPlainBy z.program) own (λ o z other is. W o z is)

module _ (s : State) (W : ArePlainIn s.actors) where
  acted_plain : (a : List ℕ) (own : Own) (wrote : ℕ) (x : Actor) → s.actors a ≡ Some x → ArePlainIn (acted s a own wrote (s.actors a)).actors
  acted_plain a own wrote x is =
      subst (λ (o : Option Actor). ArePlainIn (acted s a own wrote o).actors) (sym is)
      (put_plain s.actors a (record { program = x.program; past = own ∷ x.past; life = x.life }) (W a x is) W)

  over_plain : (a : List ℕ) (life : Life) (x : Actor) → s.actors a ≡ Some x → ArePlainIn (finished s a life (s.actors a)).actors
  over_plain a life x is =
      subst (λ (o : Option Actor). ArePlainIn (finished s a life o).actors) (sym is)
      (put_plain s.actors a (record { program = x.program; past = x.past; life = life }) (W a x is) W)

  event_plain : (e : Event) → Allowed s e → ArePlainIn (happens s e).actors
  event_plain (Start a program) may = put_plain s.actors a (newborn program) (runs_plain program may.runs) W
  event_plain (Act a own wrote) may = acted_plain a own wrote may.actor may.reads.is
  event_plain (Child parent own a program) may =
      put_plain (acted s parent own 0 (s.actors parent)).actors a (newborn program) (child_plain s parent own a program may) (acted_plain parent own 0 may.actor may.reads.is)
  event_plain (Generation (sender ∷ cleaner ∷ lspawn ∷ rspawn ∷ [])) may =
      let one = put_at s.actors (codes "sender") (Some (newborn sender)) in
      let two = put_at one (codes "clean") (Some (newborn cleaner)) in
      let three = put_at two (codes "lspawn") (Some (newborn lspawn)) in
      put_plain three (codes "rspawn") (newborn rspawn) (remote_plain rspawn may.kinds.1.1.1.0)
      (put_plain two (codes "lspawn") (newborn lspawn) (local_plain lspawn may.kinds.1.1.0)
      (put_plain one (codes "clean") (newborn cleaner) (cleaner_plain cleaner may.kinds.1.0)
      (put_plain s.actors (codes "sender") (newborn sender) (sender_plain sender may.kinds.0) W)))
  event_plain (Generation crew) may = absurd (are_four crew may.kinds)
  event_plain (Report slot output) may = W
  event_plain (End a read ready status) may = over_plain a (Over status) may.actor may.reads.is
  event_plain (Stop a) may = over_plain a Stopped may.actor may.is
  event_plain (Moment m) may = W
  event_plain (Halt how contents) may = λ a x is.
      let w = mapped_some stopped (s.actors a) x is in subst (λ (z : Actor). IsPlainBy z.program) w.2 (W a w.0 w.1)

pub all_plain : (d : Disk) (before : List Event) → Legal d before → ArePlainIn (after d before).actors
all_plain d [] legal = λ a x is. absurd (cc)
all_plain d (e ∷ before) legal = event_plain (after d before) (all_plain d before legal.0) e legal.1
