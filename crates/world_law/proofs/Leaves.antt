-- What each event of a legal history leaves.
use Rattle.std.proofs.Common.{◌≡◌, ◌≢◌, inl, ℕ, List, true, Option, Some, None, refl, sym, ap, ◌∙◌, subst, arith}
use Rattle.call_fs.specs.Disk.{Disk, Open}
use Rattle.call_fs.specs.declared.calls.CallData.{CallData}
use Rattle.call_fs.specs.declared.calls.Told.{Told}
use Rattle.call_fs.specs.declared.past.GotData.{GotData}
use Rattle.call_fs.specs.declared.past.GotData.TheVariants as got
use Rattle.call_fs.specs.declared.past.NeedData.{NeedData}
use Rattle.call_fs.specs.declared.past.NeedData.TheVariants as needs
use Rattle.call_fs.specs.declared.past.Own.{Own}
use Rattle.call_fs.specs.declared.program.Port.{Port}
use Rattle.call_fs.specs.declared.program.Port.TheVariants as port
use Rattle.mail_bytes.specs.Moments.{IsMoment}
use Rattle.program_law.proofs.Delivery.Events.{deliveries_keep as rests_keep}
use Rattle.local_spawn.specs.Table.{place_after as local_after}
use Rattle.local_parts.specs.declared.arguments.LocalArgs.{LocalArgs}
use Rattle.queue_paths.specs.Names.Name.{Of}
use Rattle.queue_inject.specs.declared.injection.Arguments.{Arguments}
use Rattle.queue_law.specs.Books.{Books, Injection, IsInjected, IsLater}
use Rattle.queue_law.specs.Entered.{Child as Bouncer}
use Rattle.queue_law.specs.Injectors.{IsHeld}
use Rattle.queue_law.specs.Numbers.{IsSorted, Queue, find}
use Rattle.queue_law.specs.Steps.{Outside}
use Rattle.queue_law.proofs.Cleaners.{cleaners_keep as calls_keep}
use Rattle.queue_law.proofs.Foreigners.{foreign_about}
use Rattle.queue_law.proofs.Injectors.{injector_calls}
use Rattle.queue_law.proofs.Frame.{about_same, outside_same, still_there}
use Rattle.queue_law.proofs.Sends.{reads_keep}
use Rattle.queue_law.proofs.Tests.{unless_same}
use Rattle.remote_spawn.specs.Table.{place_after as remote_after, program_of as remote_asks}
use Rattle.send_core.specs.Booked.{booked_at}
use Rattle.send_core.specs.Table.{place_after as sender_after, due_at, row_now}
use Rattle.send_core.specs.declared.desk.Desk.{Desk}
use Rattle.send_parts.specs.declared.row.Row.{Row}
use Rattle.program_law.specs.Sender.Takings.{booked_queue}
use Rattle.program_law.proofs.Sender.Whole.{senders_keep as sender_keeps}
use Rattle.spawner_parts.specs.Table.{row_now as remote_now}
use Rattle.world_events.specs.declared.event.Program.{Program}
use Rattle.world_events.specs.declared.event.Program.TheVariants.{Injector, Cleaner, Sender, LocalSpawner, RemoteSpawner, Delivery}
use Rattle.mail_world.specs.History.{Actor, Allowed, ComesOf, Event, Life, MayBear, MayDo, MayRead, State, acted, after, bears, books_after, bouncer_of, disk_after, finished, happens, holder_after, next_of, unless_by}
use Rattle.mail_world.specs.History.Event.{Start, Act, Child, Generation, Report, End, Stop, Moment, Halt}
use Rattle.mail_world.specs.History.Life.{Alive, Over, Stopped}
use Rattle.mail_world.specs.Untouched.{IsOther, about_in, doer, program_of, queue}
use Rattle.mail_world.proofs.Coming.{may_come}
use Rattle.world_law.specs.Fares.{DeliveryFares, SenderFares}
use Rattle.world_law.specs.Inv.{Inv}
use Rattle.world_law.specs.Leaves.{EventsLeave, IsSparing, LeavesMost, LeavesOutside}
use Rattle.world_law.proofs.Histories.{always}
use Rattle.world_law.proofs.Locals.{local_reads}
use Rattle.world_law.proofs.SendersChild.{taken_has}
use Rattle.world_law.proofs.SendersEvents.{none_entered, told_other}
use Rattle.world_law.proofs.SendersOthers.{through}
use Rattle.world_law.proofs.SendersPipes.{IsOther as IsElsewhere}
use Rattle.world_law.proofs.Spawners.{answered, arrive_holds, only_reads}

-- what an event of this actor, with this program, leaves of a state
record Leaves (p : Option Program) (a : List ℕ) (s t : State) : Type 0 where
  outside : LeavesOutside p s.disk t.disk
  opens : (o : List ℕ) (fd : ℕ) (how : Open) → o ≢ a → IsHeld s.disk.opens s.holder o fd how → IsHeld t.disk.opens t.holder o fd how
  accepted : (i : Injection) → IsInjected s.books i → i.accepted ≡ true → (j : Injection) × IsInjected t.books j × IsLater i j
  sorted : IsSparing p → (n : ℕ) → IsSorted (about_in s n) → about_in t n ≡ about_in s n

-- the disk with the same names and files
outside_by : (p : Option Program) (d : Disk) (opens : ℕ → Option Open) → LeavesOutside p d (record { dirs = d.dirs; names = d.names; files = d.files; opens = opens })
outside_by None d opens = outside_same d opens
outside_by (Some (Delivery since args)) d opens = record { names = λ name far. refl; files = λ name i there far. refl }
outside_by (Some (Cleaner since)) d opens = record { names = λ name free. inl refl; files = λ i. refl; unqueued = λ i out x is. out.unqueued x is }
outside_by (Some other) d opens = outside_same d opens

-- Nothing of the queue changes

module _ (p : Option Program) (a : List ℕ) (s : State) where
  idle : (t : State) → t.disk ≡ s.disk → t.holder ≡ s.holder → t.books ≡ s.books → Leaves p a s t
  idle t disk holder books = record {
    outside = subst (LeavesOutside p s.disk) (sym disk) (outside_by p s.disk s.disk.opens);
    opens = λ o fd how other h. record { opened = ap (λ (d : Disk). d.opens fd) disk ∙ h.opened; held = ap (λ (f : ℕ → Option (List ℕ)). f fd) holder ∙ h.held };
    accepted = λ i h accepted. subst (λ (b : Books). (j : Injection) × IsInjected b j × IsLater i j) (sym books) (still_there s.books i h);
    sorted = λ sparing n h i. record { parts = λ part. find (disk i).names (disk i).files (Of part n); living = (books i).living n };
  }

  -- an end or a stop closes what the actor holds
  ended : (life : Life) (x : Actor) → Leaves p a s (finished s a life (Some x))
  ended life x = record {
    outside = outside_by p s.disk (λ fd. unless_by a (s.holder fd) (s.disk.opens fd));
    opens = λ o fd how other h. record {
      opened = ap (λ w. unless_by a w (s.disk.opens fd)) h.held ∙ unless_same o a None (s.disk.opens fd) other ∙ h.opened;
      held = ap (λ w. unless_by a w (s.holder fd)) h.held ∙ unless_same o a None (s.holder fd) other ∙ h.held;
    };
    accepted = λ i h accepted. still_there s.books i h;
    sorted = λ sparing n h. refl;
  }

-- An event of an actor

-- it is neither a file call nor a taking nor a giving
abbrev IsNoTaking : NeedData → Type 0
IsNoTaking (needs.File c) = ⊥
IsNoTaking (needs.Take from) = ⊥
IsNoTaking (needs.Give to bytes) = ⊥
IsNoTaking due = Unit {0}

module _ (s : State) (I : Inv s) (a : List ℕ) (own : Own) (wrote : ℕ) where
  abbrev q : Queue
  q = queue s I.role

  abbrev event : NeedData → GotData → Own
  event due came = record { read = own.read; ready = own.ready; due = due; came = came }

  abbrev actor : Program → List Own → Actor
  actor program past = record { program = program; past = past; life = Alive }

  abbrev Then : Program → List Own → NeedData → GotData → Type 0
  Then program past due came = Leaves (Some program) a s (acted s a (event due came) wrote (Some (actor program past)))

  abbrev Runs : Program → List Own → Type 0
  Runs program past = MayRead s a (actor program past) own.read

  passed : (program : Program) (past : List Own) (due : NeedData) (came : GotData) → IsNoTaking due → Then program past due came
  passed program past (needs.File c) came none = absurd none
  passed program past (needs.Take from) came none = absurd none
  passed program past (needs.Give to bytes) came none = absurd none
  passed program past (needs.Start asked) came none = idle (Some program) a s _ refl refl refl
  passed program past (needs.Command text) came none = idle (Some program) a s _ refl refl refl
  passed program past needs.Wait came none = idle (Some program) a s _ refl refl refl
  passed program past (needs.Ended status) came none = idle (Some program) a s _ refl refl refl

  -- An injector

  injector_left : (args : Arguments) (past : List Own) → Runs (Injector args) past → (due : NeedData) (came : GotData) → next_of (Injector args) past own.read own.ready ≡ due
      → ComesOf s a due came wrote → Then (Injector args) past due came
  injector_left args past may (needs.File c) came next comes = answered s a wrote (Then (Injector args) past (needs.File c)) c came comes
      (λ told fits.
      let w = injector_calls s.now q a args past own.read own.ready c told wrote I.sound (I.fares a (actor (Injector args) past) may.is) may.no_earlier may.no_stall next fits.0 in
      record { outside = w.outside; opens = w.elsewhere.opens; accepted = w.elsewhere.accepted; sorted = λ sparing. w.sorted })
  injector_left args past may (needs.Take from) came next comes = idle (Some (Injector args)) a s _ refl refl refl
  injector_left args past may (needs.Give to bytes) came next comes = idle (Some (Injector args)) a s _ refl refl refl
  injector_left args past may due came next comes = passed (Injector args) past due came tt

  -- The cleaner

  cleaner_left : (since : ℕ) (past : List Own) → Runs (Cleaner since) past → (due : NeedData) (came : GotData) → next_of (Cleaner since) past own.read own.ready ≡ due
      → ComesOf s a due came wrote → Then (Cleaner since) past due came
  cleaner_left since past may (needs.File c) came next comes = answered s a wrote (Then (Cleaner since) past (needs.File c)) c came comes
      (λ told fits.
      let w = calls_keep s.now q a past own.read own.ready c told wrote I.sound (I.fares a (actor (Cleaner since) past) may.is) may.no_later next fits.0 in
      record { outside = w.outside; opens = w.elsewhere.opens; accepted = w.elsewhere.accepted; sorted = λ sparing. absurd sparing })
  cleaner_left since past may (needs.Take from) came next comes = idle (Some (Cleaner since)) a s _ refl refl refl
  cleaner_left since past may (needs.Give to bytes) came next comes = idle (Some (Cleaner since)) a s _ refl refl refl
  cleaner_left since past may due came next comes = passed (Cleaner since) past due came tt

  -- The sender

  module _ (since : ℕ) (past : List Own) (may : Runs (Sender since) past) where
    abbrev d : Desk
    d = sender_after None past

    abbrev row : Row
    row = row_now d own.read own.ready

    -- the injector of a bounce, if it has started one
    abbrev child : Option Bouncer
    child = bouncer_of s a

    sender_fares : SenderFares s.now q a d
    sender_fares = I.fares a (actor (Sender since) past) may.is

    moment : IsMoment own.read
    moment = let m = I.moment in let soon = may.no_later in omega (arith, m, soon)

    sender_called : (c : CallData) (told : Told) → due_at row d ≡ needs.File c → ComesOf s a (needs.File c) (got.Answered told) wrote
        → Then (Sender since) past (needs.File c) (got.Answered told)
    sender_called c told due comes =
        let l = sender_keeps.calls s.now q a child d own.read own.ready c told wrote I.sound may.no_later moment sender_fares.stands due comes.0 comes.1 in
        let w = l.1.leads in
        record { outside = w.outside; opens = w.elsewhere.opens; accepted = w.elsewhere.accepted; sorted = λ sparing. absurd sparing }

    -- what a taking or a giving enters
    abbrev told_then : GotData → Queue
    told_then came = booked_queue child d.book.controls (booked_at row came d) q

    abbrev Enters : GotData → Type 0
    Enters came = (i : Injection) → IsInjected s.books i → i.accepted ≡ true → (j : Injection) × IsInjected (told_then came).books j × IsLater i j

    took_left : (from : Port) (came : GotData) → Enters came → Then (Sender since) past (needs.Take from) came
    took_left from came enters = record {
      outside = outside_by (Some (Sender since)) s.disk s.disk.opens;
      opens = λ o fd how other h. h;
      accepted = enters;
      sorted = λ sparing. absurd sparing;
    }

    entered_other : (from : Port) (came : GotData) → IsElsewhere from → due_at row d ≡ needs.Take from → ComesOf s a (needs.Take from) came wrote → Enters came
    entered_other from came it due comes =
        let has = taken_has s I a (I.crew a (actor (Sender since) past) may.is) wrote from came it comes in
        let t = sender_keeps.takes s.now q a child d own.read own.ready from came I.sound may.no_later moment sender_fares.stands due
        (told_other s.now child q row came d from it due has) in
        through s.now a q (told_then came) t.leads

    sender_took : (from : Port) (came : GotData) → due_at row d ≡ needs.Take from → ComesOf s a (needs.Take from) came wrote → Then (Sender since) past (needs.Take from) came
    sender_took port.Clean came due comes = took_left port.Clean came
        (λ i h accepted. subst (λ (r : Queue). (j : Injection) × IsInjected r.books j × IsLater i j) (sym (none_entered child d.book.controls row came d q due)) (still_there s.books i h))
    sender_took from came due comes = took_left from came (entered_other from came tt due comes)

    sender_gave : (to : Port) (bytes : List ℕ) (came : GotData) → due_at row d ≡ needs.Give to bytes → Then (Sender since) past (needs.Give to bytes) came
    sender_gave to bytes came due = record {
      outside = outside_by (Some (Sender since)) s.disk s.disk.opens;
      opens = λ o fd how other h. h;
      accepted = through s.now a q (told_then came)
          (sender_keeps.gives s.now q a child d own.read own.ready to bytes came I.sound may.no_later moment sender_fares.stands due).leads;
      sorted = λ sparing. absurd sparing;
    }

    sender_left : (due : NeedData) (came : GotData) → next_of (Sender since) past own.read own.ready ≡ due → ComesOf s a due came wrote → Then (Sender since) past due came
    sender_left (needs.File c) came next comes = answered s a wrote (Then (Sender since) past (needs.File c)) c came comes (λ told comes. sender_called c told next comes)
    sender_left (needs.Take from) came next comes = sender_took from came next comes
    sender_left (needs.Give to bytes) came next comes = sender_gave to bytes came next
    sender_left due came next comes = passed (Sender since) past due came tt

  -- The local spawner, which reads users/assign and messages

  local_left : (since : ℕ) (past : List Own) → Runs (LocalSpawner since) past → (due : NeedData) (came : GotData) → next_of (LocalSpawner since) past own.read own.ready ≡ due
      → ComesOf s a due came wrote → Then (LocalSpawner since) past due came
  local_left since past may (needs.File c) came next comes = answered s a wrote (Then (LocalSpawner since) past (needs.File c)) c came comes
      (λ told fits.
      let reads = local_reads q a (local_after past) own.ready c (I.fares a (actor (LocalSpawner since) past) may.is) next in
      let w = reads_keep s.now q a I.sound own.read c told.answer wrote reads fits.0 in
      record { outside = w.outside; opens = w.elsewhere.opens; accepted = w.elsewhere.accepted; sorted = λ sparing n h. about_same s.now a None q _ w.elsewhere n (λ e. absurd (cc)) })
  local_left since past may (needs.Take from) came next comes = idle (Some (LocalSpawner since)) a s _ refl refl refl
  local_left since past may (needs.Give to bytes) came next comes = idle (Some (LocalSpawner since)) a s _ refl refl refl
  local_left since past may due came next comes = passed (LocalSpawner since) past due came tt

  -- The remote spawner, which reads messages

  remote_left : (since : ℕ) (past : List Own) → Runs (RemoteSpawner since) past → (due : NeedData) (came : GotData) → next_of (RemoteSpawner since) past own.read own.ready ≡ due
      → ComesOf s a due came wrote → Then (RemoteSpawner since) past due came
  remote_left since past may (needs.File c) came next comes = answered s a wrote (Then (RemoteSpawner since) past (needs.File c)) c came comes
      (λ told fits.
      let p = remote_after past in
      let holds = arrive_holds q a p.row p own.ready (I.fares a (actor (RemoteSpawner since) past) may.is) in
      let w = reads_keep s.now q a I.sound own.read c told.answer wrote (only_reads q a (remote_asks p.request) (remote_now p own.ready) p c holds next) fits.0 in
      record { outside = w.outside; opens = w.elsewhere.opens; accepted = w.elsewhere.accepted; sorted = λ sparing n h. about_same s.now a None q _ w.elsewhere n (λ e. absurd (cc)) })
  remote_left since past may (needs.Take from) came next comes = idle (Some (RemoteSpawner since)) a s _ refl refl refl
  remote_left since past may (needs.Give to bytes) came next comes = idle (Some (RemoteSpawner since)) a s _ refl refl refl
  remote_left since past may due came next comes = passed (RemoteSpawner since) past due came tt

  -- A delivery, which touches nothing but drops

  delivery_left : (since : ℕ) (args : LocalArgs) (past : List Own) → Runs (Delivery since args) past → (due : NeedData) (came : GotData) → next_of (Delivery since args) past own.read own.ready ≡ due
      → ComesOf s a due came wrote → Then (Delivery since args) past due came
  delivery_left since args past may (needs.File c) came next comes = answered s a wrote (Then (Delivery since args) past (needs.File c)) c came comes
      (λ told fits.
      let F : DeliveryFares q a args past Alive = I.fares a (actor (Delivery since args) past) may.is in
      let l = rests_keep.calls q a args past own.read own.ready c told wrote I.sound.suits F.rests (next, may_come s a (needs.File c) (got.Answered told) wrote fits) fits.0 fits.1 in
      let w = l.1 in
      record { outside = w.outside; opens = w.foreign.opens; accepted = λ i h accepted. still_there s.books i h; sorted = λ sparing n h. foreign_about a q _ w.foreign n })
  delivery_left since args past may (needs.Take from) came next comes = idle (Some (Delivery since args)) a s _ refl refl refl
  delivery_left since args past may (needs.Give to bytes) came next comes = idle (Some (Delivery since args)) a s _ refl refl refl
  delivery_left since args past may due came next comes = passed (Delivery since args) past due came tt

  by_program : (program : Program) (past : List Own) → Runs program past → next_of program past own.read own.ready ≡ own.due → ComesOf s a own.due own.came wrote → Then program past own.due own.came
  by_program (Injector args) past may next comes = injector_left args past may own.due own.came next comes
  by_program (Cleaner since) past may next comes = cleaner_left since past may own.due own.came next comes
  by_program (Sender since) past may next comes = sender_left since past may own.due own.came next comes
  by_program (LocalSpawner since) past may next comes = local_left since past may own.due own.came next comes
  by_program (RemoteSpawner since) past may next comes = remote_left since past may own.due own.came next comes
  by_program (Delivery since args) past may next comes = delivery_left since args past may own.due own.came next comes

  by_life : (program : Program) (past : List Own) (life : Life) → life ≡ Alive → MayRead s a (record { program = program; past = past; life = life }) own.read
      → next_of program past own.read own.ready ≡ own.due → ComesOf s a own.due own.came wrote
      → Leaves (Some program) a s (acted s a own wrote (Some (record { program = program; past = past; life = life })))
  by_life program past Alive alive may next comes = by_program program past may next comes
  by_life program past (Over status) alive may next comes = absurd (cc)
  by_life program past Stopped alive may next comes = absurd (cc)

  act_leaves : (may : MayDo s a own wrote) → Leaves (program_of (s.actors a)) a s (acted s a own wrote (s.actors a))
  act_leaves may =
      let x = may.actor in
      subst (λ (o : Option Actor). Leaves (program_of o) a s (acted s a own wrote o)) (sym may.reads.is)
      (by_life x.program x.past x.life may.reads.alive may.reads may.due may.came)

-- Any event

of_actor : (s : State) (e : Event) (a : List ℕ) → ((o : List ℕ) → IsOther e o → o ≢ a) → Leaves (doer s e) a s (happens s e) → LeavesMost s e
of_actor s e a other w = record {
  outside = λ is. w.outside;
  opens = λ o fd how apart h. w.opens o fd how (other o apart) h;
  accepted = w.accepted;
  sorted = λ is sparing. w.sorted sparing;
}

-- an event of no actor, after which disk, descriptors and books are the same
of_none : (s : State) (e : Event) → doer s e ≡ None → (happens s e).disk ≡ s.disk → (happens s e).holder ≡ s.holder → (happens s e).books ≡ s.books → LeavesMost s e
of_none s e none disk holder books = record {
  outside = λ is. subst (λ (p : Option Program). LeavesOutside p s.disk (happens s e).disk) (sym none) (subst (Outside s.disk) (sym disk) (outside_same s.disk s.disk.opens));
  opens = λ o fd how other h. record { opened = ap (λ (d : Disk). d.opens fd) disk ∙ h.opened; held = ap (λ (f : ℕ → Option (List ℕ)). f fd) holder ∙ h.held };
  accepted = λ i h accepted. subst (λ (b : Books). (j : Injection) × IsInjected b j × IsLater i j) (sym books) (still_there s.books i h);
  sorted = λ is sparing n h i. record { parts = λ part. find (disk i).names (disk i).files (Of part n); living = (books i).living n };
}

over_leaves : (s : State) (a : List ℕ) (life : Life) (x : Actor) → s.actors a ≡ Some x → Leaves (program_of (s.actors a)) a s (finished s a life (s.actors a))
over_leaves s a life x is = subst (λ (o : Option Actor). Leaves (program_of o) a s (finished s a life o)) (sym is) (ended (Some x.program) a s life x)

-- the start of a child leaves all of the queue
child_leaves : (s : State) (parent : List ℕ) (own : Own) (a : List ℕ) (program : Program) → MayBear s parent own a program
    → Leaves (program_of (s.actors parent)) parent s (happens s (Child parent own a program))
child_leaves s parent own a program may =
    let x = may.actor in
    subst (λ (o : Option Actor). Leaves (program_of o) parent s (bears (acted s parent own 0 o) parent own a program)) (sym may.reads.is)
    (idle (Some x.program) parent s (bears (acted s parent own 0 (Some x)) parent own a program)
    (ap (λ (z : NeedData). disk_after s.disk own.read z own.came 0) may.starts)
    (ap (λ (z : NeedData). holder_after s.holder parent z own.came) may.starts)
    (ap (λ (z : NeedData). books_after (bouncer_of s parent) s.books parent x.program x.past own.read own.ready z own.came) may.starts))

pub leaves : (s : State) (I : Inv s) (e : Event) → Allowed s e → LeavesMost s e
leaves s I (Start a program) may = of_none s (Start a program) refl refl refl refl
leaves s I (Act a own wrote) may = of_actor s (Act a own wrote) a (λ o other. other) (act_leaves s I a own wrote may)
leaves s I (Child parent own a program) may = of_actor s (Child parent own a program) parent (λ o other. other) (child_leaves s parent own a program may)
leaves s I (Generation crew) may = of_none s (Generation crew) refl refl refl refl
leaves s I (Report slot output) may = of_none s (Report slot output) refl refl refl refl
leaves s I (End a read ready status) may = of_actor s (End a read ready status) a (λ o other. other) (over_leaves s a (Over status) may.actor may.reads.is)
leaves s I (Stop a) may = of_actor s (Stop a) a (λ o other. other) (over_leaves s a Stopped may.actor may.is)
leaves s I (Moment m) may = of_none s (Moment m) refl refl refl refl
leaves s I (Halt how contents) may = record {
  outside = λ e. absurd (cc);
  opens = λ o fd how other h. absurd other;
  accepted = λ i h accepted. still_there s.books i h;
  sorted = λ e. absurd (cc);
}

pub events_leave : EventsLeave
events_leave d e before legal = leaves (after d before) (always d before legal.0) e legal.1
