-- What is kept of the lives of messages follows the state, event by event.
use Rattle.std.proofs.Common.{◌≡◌, ◌≢◌, ◌⊎◌, inl, inr, ⊎_elim, ℕ, ◌+◌, ◌<◌, List, [], ◌∷◌, ◌++◌, length, get_or, take, Contains, reverse, true, false, bytes_eq, Option, Some, None, refl, sym, ap, ◌∙◌, subst, arith}
use Rattle.std.specs.Prelude.{OnOk, Ok, Err, Result, codes}
use Rattle.std.specs.List.{AllZip}
use Rattle.std.specs.Option.{option_map}
use Rattle.std.proofs.lemmas.List.{reverse-append, take_more}
use Rattle.call_fs.specs.declared.past.GotData.{GotData}
use Rattle.call_fs.specs.declared.past.GotData.TheVariants as got
use Rattle.call_fs.specs.declared.past.NeedData.{NeedData}
use Rattle.call_fs.specs.declared.past.NeedData.TheVariants as needs
use Rattle.call_fs.specs.declared.past.Own.{Own}
use Rattle.call_fs.specs.declared.program.Ready.{Ready}
use Rattle.call_fs.specs.Disk.{Disk}
use Rattle.call_fs.specs.Maps.{put_at}
use Rattle.call_fs.proofs.Maps.{put_at_cases, put_at_same, put_at_other}
use Rattle.call_fs.specs.Past.{IsRunBy}
use Rattle.call_fs.specs.Program.{MayCome}
use Rattle.mail_bytes.specs.Moments.{IsMoment}
use Rattle.queue_inject.specs.declared.injection.Arguments.{Arguments}
use Rattle.queue_law.specs.Books.{Books}
use Rattle.queue_law.specs.Entered.{Child as Bouncer}
use Rattle.actor_names.specs.MailNames.{members}
use Rattle.send_core.specs.Stands.{Machine, Stands}
use Rattle.send_core.specs.Table.{Next}
use Rattle.world_events.specs.declared.event.Event.{Event as Kept}
use Rattle.world_events.specs.declared.event.Event.TheVariants as kept
use Rattle.world_events.specs.declared.event.Program.{Program}
use Rattle.world_events.specs.declared.event.Program.TheVariants.{Injector, Cleaner, Sender, LocalSpawner, RemoteSpawner, Delivery}
use Rattle.mail_world.specs.ByKind.{IsMail}
use Rattle.mail_world.specs.History.{Event, Actor, Life, State, Allowed, IsSender, Legal, MayBear, MayDo, MayRun, acted, after, begins, books_after, bouncer_of, finished, happens, newborn, next_of, slot_by, stopped}
use Rattle.mail_world.specs.History.Event.{Start, Act, Child, Generation, Report, End, Stop, Moment, Halt}
use Rattle.mail_world.specs.History.Life.{Over, Stopped}
use Rattle.mail_world.specs.Pipework.{Pipework, with_child, with_generation}
use Rattle.mail_world.specs.World.{Tells}
use Rattle.script_fates.specs.declared.fates.Fates.{Fates}
use Rattle.scenario.specs.declared.fates.Following.{Following}
use Rattle.script_fates.specs.Fates.{AreFates, no_books}
use Rattle.scenario.specs.Fates.{AreNamedStarts, IsNamedStart, IsNamedSo, is_delivery_name}
use Rattle.script_fates.specs.Entering.{HasDue, booked_after, heard_after, heard_by}
use Rattle.scenario.specs.inside.Fates.{AreNamed, Follows, HasDone, IsHeard, IsReadAs, TellsRead}
use Rattle.mail_world.proofs.Coming.{may_come}
use Rattle.mail_world.proofs.Programs.{mail_runs}
use Rattle.scenario.proofs.KeptEvents.{act_told, child_told}
use Rattle.world_events.specs.Programs.{crew_at}

-- what an actor did by an event of its own, and by the start of a child
pub act_done : (s : State) (a : List ℕ) (own : Own) (wrote : ℕ) → MayDo s a own wrote → HasDone s a own
act_done s a own wrote does = record { actor = does.actor; reads = does.reads; due = does.due; came = may_come s a own.due own.came wrote does.came }

pub child_done : (s : State) (parent : List ℕ) (own : Own) (a : List ℕ) (program : Program) → MayBear s parent own a program → HasDone s parent own
child_done s parent own a program bears = record {
  actor = bears.actor;
  reads = bears.reads;
  due = bears.due;
  came = subst (λ (due : NeedData). MayCome due own.came) (sym bears.starts) (subst (MayCome (needs.Start bears.asked)) (sym bears.came) tt);
}

-- Actors

put_actor : (actors : List ℕ → Option Actor) (a b : List ℕ) (x y : Actor) → put_at actors a (Some x) b ≡ Some y
    → ((b ≡ a) × (x ≡ y)) ⊎ ((b ≢ a) × (actors b ≡ Some y))
put_actor actors a b x y is = ⊎_elim
    (λ h. inl (h.0, let both : ◌≡◌ {A = Option Actor} (Some x) (Some y) = sym h.1 ∙ is in cc))
    (λ h. inr (h.0, sym h.1 ∙ is))
    (put_at_cases actors a (Some x) b)

-- what is asked of an actor with its name
pub record IsNamed (a : List ℕ) (program : Program) : Type 0 where
  pub member : Contains members a → MayRun program → ⊥
  pub alone : ¬ (Contains members a) → IsNamedSo a program
  pub sender : IsSender program → a ≡ codes "sender"

named_one : (s : State) (a : List ℕ) (x : Actor) → AreNamed s → s.actors a ≡ Some x → IsNamed a x.program
named_one s a x named is = record { member = named.member a x is; alone = named.alone a x is; sender = named.sender a x is }

named_put : (s t : State) (a : List ℕ) (x : Actor) → t.actors ≡ put_at s.actors a (Some x) → IsNamed a x.program → AreNamed s → AreNamed t
named_put s t a x are here named =
    let each : (b : List ℕ) (y : Actor) → t.actors b ≡ Some y → IsNamed b y.program = λ b y is. ⊎_elim
    (λ h. subst (λ (b : List ℕ). IsNamed b y.program) (sym h.0) (subst (λ (x : Actor). IsNamed a x.program) h.1 here))
    (λ h. named_one s b y named h.1)
    (put_actor s.actors a b x y (ap (λ (m : List ℕ → Option Actor). m b) (sym are) ∙ is)) in
    record { member = λ b y is. (each b y is).member; alone = λ b y is. (each b y is).alone; sender = λ b y is. (each b y is).sender }

named_same : (s t : State) → t.actors ≡ s.actors → AreNamed s → AreNamed t
named_same s t are named = record {
  member = λ a x is. named.member a x (ap (λ (m : List ℕ → Option Actor). m a) (sym are) ∙ is);
  alone = λ a x is. named.alone a x (ap (λ (m : List ℕ → Option Actor). m a) (sym are) ∙ is);
  sender = λ a x is. named.sender a x (ap (λ (m : List ℕ → Option Actor). m a) (sym are) ∙ is);
}

named_acted : (s : State) (a : List ℕ) (own : Own) (wrote : ℕ) (o : Option Actor) → s.actors a ≡ o → AreNamed s → AreNamed (acted s a own wrote o)
named_acted s a own wrote None is named = named
named_acted s a own wrote (Some x) is named =
    named_put s (acted s a own wrote (Some x)) a (record { program = x.program; past = own ∷ x.past; life = x.life }) refl (named_one s a x named is) named

named_finished : (s : State) (a : List ℕ) (life : Life) (o : Option Actor) → s.actors a ≡ o → AreNamed s → AreNamed (finished s a life o)
named_finished s a life None is named = named
named_finished s a life (Some x) is named =
    named_put s (finished s a life (Some x)) a (record { program = x.program; past = x.past; life = life }) refl (named_one s a x named is) named

stopped_is : (o : Option Actor) (y : Actor) → option_map stopped o ≡ Some y → (x : Actor) × (o ≡ Some x) × (x.program ≡ y.program)
stopped_is None y is = absurd (cc)
stopped_is (Some x) y is = (x, refl, let same : stopped x ≡ y = some_is (stopped x) y is in ap (λ (z : Actor). z.program) same) where
  some_is : (x y : Actor) → ◌≡◌ {A = Option Actor} (Some x) (Some y) → x ≡ y
  some_is x y e = cc

-- no sender has such a name
no_sender_named : (a : List ℕ) (program : Program) → IsNamedSo a program → IsSender program → ⊥
no_sender_named a (Injector args) named sends = sends
no_sender_named a (Delivery start args) named sends = sends
no_sender_named a other named sends = named

-- and no injector has a delivery's
no_delivery_runs : (a : List ℕ) (program : Program) → is_delivery_name a ≡ true → IsNamedSo a program → IsMail program → ⊥
no_delivery_runs a (Injector args) is named runs = let both : true ≡ false = sym is ∙ named in absurd (cc)
no_delivery_runs a other is named runs = runs

-- the members of a generation
is_member_sender : Contains members (codes "sender")
is_member_sender = (0, omega arith, refl)

is_member_clean : Contains members (codes "clean")
is_member_clean = (1, omega arith, refl)

is_member_lspawn : Contains members (codes "lspawn")
is_member_lspawn = (2, omega arith, refl)

is_member_rspawn : Contains members (codes "rspawn")
is_member_rspawn = (3, omega arith, refl)

named_generation : (s : State) (start : ℕ) → AreNamed s → AreNamed (happens s (Generation (crew_at start)))
named_generation s start named =
    let pipework = with_generation s.pipework in
    let one = begins s (codes "sender") (Sender start) pipework in
    let two = begins one (codes "clean") (Cleaner start) pipework in
    let three = begins two (codes "lspawn") (LocalSpawner start) pipework in
    let four = begins three (codes "rspawn") (RemoteSpawner start) pipework in
    named_put three four (codes "rspawn") (newborn (RemoteSpawner start)) refl (record { member = λ m r. r; alone = λ m. absurd (m is_member_rspawn); sender = λ sends. absurd sends })
    (named_put two three (codes "lspawn") (newborn (LocalSpawner start)) refl (record { member = λ m r. r; alone = λ m. absurd (m is_member_lspawn); sender = λ sends. absurd sends })
    (named_put one two (codes "clean") (newborn (Cleaner start)) refl (record { member = λ m r. r; alone = λ m. absurd (m is_member_clean); sender = λ sends. absurd sends })
    (named_put s one (codes "sender") (newborn (Sender start)) refl (record { member = λ m r. r; alone = λ m. absurd (m is_member_sender); sender = λ sends. refl }) named)))

named_start : (a : List ℕ) (program : Program) → ¬ (Contains members a) → IsNamedSo a program → IsNamed a program
named_start a program alone named = record { member = λ m r. alone m; alone = λ m. named; sender = λ sends. absurd (no_sender_named a program named sends) }

named_event : (s : State) (k : Kept) (e : Event) → Tells k e → IsNamedStart e → Allowed s e → AreNamed s → AreNamed (happens s e)
named_event s k (Start a program) told mail may named =
    named_put s (begins s a program s.pipework) a (newborn program) refl (named_start a program mail.0 mail.1) named
named_event s k (Act a own wrote) told mail may named = named_acted s a own wrote (s.actors a) refl named
named_event s k (Child parent own a program) told mail may named =
    named_put (acted s parent own 0 (s.actors parent)) (happens s (Child parent own a program)) a (newborn program) refl
    (named_start a program mail.0 mail.1) (named_acted s parent own 0 (s.actors parent) refl named)
named_event s k (Generation crew) told mail may named =
    rw (told.2) (named_generation s told.0 named)
named_event s k (Report slot output) told mail may named = named_same s (happens s (Report slot output)) refl named
named_event s k (End a read ready status) told mail may named = named_finished s a (Over status) (s.actors a) refl named
named_event s k (Stop a) told mail may named = named_finished s a Stopped (s.actors a) refl named
named_event s k (Moment m) told mail may named = named_same s (happens s (Moment m)) refl named
named_event s k (Halt how contents) told mail may named = record {
  member = λ a y is. let w = stopped_is (s.actors a) y is in subst (λ (p : Program). Contains members a → MayRun p → ⊥) w.2 (named.member a w.0 w.1);
  alone = λ a y is. let w = stopped_is (s.actors a) y is in subst (λ (p : Program). ¬ (Contains members a) → IsNamedSo a p) w.2 (named.alone a w.0 w.1);
  sender = λ a y is. let w = stopped_is (s.actors a) y is in subst (λ (p : Program). IsSender p → a ≡ codes "sender") w.2 (named.sender a w.0 w.1);
}

now_acted : (s : State) (a : List ℕ) (own : Own) (wrote : ℕ) (o : Option Actor) → (acted s a own wrote o).now ≡ s.now
now_acted s a own wrote None = refl
now_acted s a own wrote (Some x) = refl

now_finished : (s : State) (a : List ℕ) (life : Life) (o : Option Actor) → (finished s a life o).now ≡ s.now
now_finished s a life None = refl
now_finished s a life (Some x) = refl

moment_event : (s : State) (k : Kept) (e : Event) → Tells k e → Allowed s e → IsMoment s.now → IsMoment (happens s e).now
moment_event s k (Start a program) told may is = is
moment_event s k (Act a own wrote) told may is = subst IsMoment (sym (now_acted s a own wrote (s.actors a))) is
moment_event s k (Child parent own a program) told may is = subst IsMoment (sym (now_acted s parent own 0 (s.actors parent))) is
moment_event s k (Generation crew) told may is = is
moment_event s k (Report slot output) told may is = is
moment_event s k (End a read ready status) told may is = subst IsMoment (sym (now_finished s a (Over status) (s.actors a))) is
moment_event s k (Stop a) told may is = subst IsMoment (sym (now_finished s a Stopped (s.actors a))) is
moment_event s k (Moment m) told may is = may.moment
moment_event s k (Halt how contents) told may is = is

-- so it is after each history that kept events tell
pub record IsOrderly (s : State) : Type 0 where
  pub named : AreNamed s
  pub moment : IsMoment s.now

pub orderly : (d : Disk) (ks : List Kept) (h : List Event) → Legal d h → AllZip TellsRead ks h → AreNamedStarts h → IsOrderly (after d h)
orderly d [] [] legal told mails = record {
  named = record { member = λ a x is. absurd (cc); alone = λ a x is. absurd (cc); sender = λ a x is. absurd (cc) };
  moment = omega arith;
}
orderly d (k ∷ ks) [] legal told mails = absurd told
orderly d [] (e ∷ h) legal told mails = absurd told
orderly d (k ∷ ks) (e ∷ h) legal told mails =
    let before = orderly d ks h legal.0 told.1 mails.1 in
    let read = told.0 in
    record { named = named_event (after d h) read.0 e read.2 mails.0 legal.1 before.named; moment = moment_event (after d h) read.0 e read.2 legal.1 before.moment }

-- What follows a state

heard_same : (m : Option Machine) (x y : Actor) → y.program ≡ x.program → y.past ≡ x.past → IsHeard m (Some x) → IsHeard m (Some y)
heard_same None x y program past h = absurd (cc)
heard_same (Some m) x y program past h = ((h.0.0, program ∙ h.0.1), subst (Stands m None) (sym past) h.1, subst (IsRunBy (Next None)) (sym past) h.2)

-- an event that changes no past and no books
heard_put : (m : Option Machine) (actors : List ℕ → Option Actor) (a : List ℕ) (x y : Actor) → actors a ≡ Some x → y.program ≡ x.program → y.past ≡ x.past
    → IsHeard m (actors (codes "sender")) → IsHeard m (put_at actors a (Some y) (codes "sender"))
heard_put m actors a x y is program past h = ⊎_elim
    (λ e. subst (IsHeard m) (sym e.1) (heard_same m x y program past (subst (IsHeard m) (ap actors e.0 ∙ is) h)))
    (λ e. subst (IsHeard m) (sym e.1) h)
    (put_at_cases actors a (Some y) (codes "sender"))

follows_finished : (f : Following) (s : State) (a : List ℕ) (life : Life) (o : Option Actor) → s.actors a ≡ o → Follows f s → Follows f (finished s a life o)
follows_finished f s a life None is h = h
follows_finished f s a life (Some x) is h = record {
  fates = h.fates;
  heard = heard_put f.sender s.actors a x (record { program = x.program; past = x.past; life = life }) is refl refl h.heard;
}

heard_stopped : (m : Option Machine) (o : Option Actor) → IsHeard m o → IsHeard m (option_map stopped o)
heard_stopped None None h = h
heard_stopped None (Some x) h = absurd (cc)
heard_stopped (Some m) None h = h
heard_stopped (Some m) (Some x) h = h

follows_begins : (f : Following) (s : State) (a : List ℕ) (program : Program) (pipework : Pipework) → ¬ (Contains members a) → Follows f s → Follows f (begins s a program pipework)
follows_begins f s a program pipework mail h = record {
  fates = h.fates;
  heard = ⊎_elim
      (λ e. absurd (mail (subst (Contains members) e.0 is_member_sender)))
      (λ e. subst (IsHeard f.sender) (sym e.1) h.heard)
      (put_at_cases s.actors a (Some (newborn program)) (codes "sender"));
}

-- an event that is no actor's own, and starts no generation
abbrev pub IsOther : Kept → Type 0
IsOther (kept.Act a own) = ⊥
IsOther (kept.Child a own c program) = ⊥
IsOther (kept.Feed a own c message envelope) = ⊥
IsOther (kept.Generation start) = ⊥
IsOther k = Unit {0}

follows_other : (f : Following) (s : State) (k : Kept) (e : Event) → IsOther k → Tells k e → IsNamedStart e → Follows f s → Follows f (happens s e)
follows_other f s k (Start a program) other told mail h = follows_begins f s a program s.pipework mail.0 h
follows_other f s k (Act a own wrote) other told mail h = absurd (subst IsOther told other)
follows_other f s k (Child parent own a program) other told mail h = absurd (subst IsOther told other)
follows_other f s k (Generation crew) other told mail h = absurd (subst IsOther told.1 other)
follows_other f s k (Report slot output) other told mail h = record { fates = h.fates; heard = h.heard }
follows_other f s k (End a read ready status) other told mail h = follows_finished f s a (Over status) (s.actors a) refl h
follows_other f s k (Stop a) other told mail h = follows_finished f s a Stopped (s.actors a) refl h
follows_other f s k (Moment m) other told mail h = record { fates = h.fates; heard = h.heard }
follows_other f s k (Halt how contents) other told mail h = record { fates = h.fates; heard = heard_stopped f.sender (s.actors (codes "sender")) h.heard }

-- a new generation
new_sender : (s : State) (start : ℕ) → (happens s (Generation (crew_at start))).actors (codes "sender") ≡ Some (newborn (Sender start))
new_sender s start =
    let one = put_at s.actors (codes "sender") (Some (newborn (Sender start))) in
    let two = put_at one (codes "clean") (Some (newborn (Cleaner start))) in
    let three = put_at two (codes "lspawn") (Some (newborn (LocalSpawner start))) in
    put_at_other three (codes "rspawn") (Some (newborn (RemoteSpawner start))) (codes "sender") (λ e. omega (arith, head_is _ _ e))
    ∙ put_at_other two (codes "lspawn") (Some (newborn (LocalSpawner start))) (codes "sender") (λ e. omega (arith, head_is _ _ e))
    ∙ put_at_other one (codes "clean") (Some (newborn (Cleaner start))) (codes "sender") (λ e. omega (arith, head_is _ _ e))
    ∙ put_at_same s.actors (codes "sender") (Some (newborn (Sender start)))
  where
    head : List ℕ → ℕ
    head [] = 0
    head (b ∷ bs) = b

    head_is : (x y : List ℕ) → x ≡ y → head x ≡ head y
    head_is x y e = ap head e

pub follows_generation : (old new : Following) (s : State) (e : Event) (start : ℕ) (m : Machine) → Tells (kept.Generation start) e → new.fates ≡ old.fates → new.sender ≡ Some m → Stands m None []
    → Follows old s → Follows new (happens s e)
follows_generation old new s (Start a program) start m told fates is stands h = absurd (cc)
follows_generation old new s (Act a own wrote) start m told fates is stands h = absurd (cc)
follows_generation old new s (Child parent own a program) start m told fates is stands h = absurd (cc)
follows_generation old new s (Generation crew) start m told fates is stands h =
    let p = told.0 in
    rw (told.2) (record {
      fates = subst (λ (f : Fates). AreFates f s.books) (sym fates) h.fates;
      heard =
          let o = (happens s (Generation (crew_at p))).actors (codes "sender") in
          subst (λ (m : Option Machine). IsHeard m o) (sym is) (subst (IsHeard (Some m)) (sym (new_sender s p)) ((p, refl), stands, tt));
    })
follows_generation old new s (Report slot output) start m told fates is stands h = let kept_is = told.2 in absurd (cc)
follows_generation old new s (End a read ready status) start m told fates is stands h = absurd (cc)
follows_generation old new s (Stop a) start m told fates is stands h = absurd (cc)
follows_generation old new s (Moment at) start m told fates is stands h = absurd (cc)
follows_generation old new s (Halt how contents) start m told fates is stands h = absurd (cc)

-- the same, by what a kept event is
pub other_told : (f : Following) (s : State) (k : Kept) (e : Event) → ((a : List ℕ) (own : Own) → k ≢ kept.Act a own) → ((a : List ℕ) (own : Own) (c : List ℕ) (program : Program) → k ≢ kept.Child a own c program)
    → ((a : List ℕ) (own : Own) (c message envelope : List ℕ) → k ≢ kept.Feed a own c message envelope) → ((start : ℕ) → k ≢ kept.Generation start) → TellsRead k e → IsNamedStart e → Follows f s → Follows f (happens s e)
other_told f s (kept.Act a own) e act child feed generation told mail h = absurd (act a own refl)
other_told f s (kept.Child a own c program) e act child feed generation told mail h = absurd (child a own c program refl)
other_told f s (kept.Feed a own c message envelope) e act child feed generation told mail h = absurd (feed a own c message envelope refl)
other_told f s (kept.Generation start) e act child feed generation told mail h = absurd (generation start refl)
other_told f s (kept.Start a program) e act child feed generation told mail h = follows_other f s told.0 e (subst IsOther (sym told.1) tt) told.2 mail h
other_told f s (kept.Report slot letter text) e act child feed generation told mail h = follows_other f s told.0 e (subst IsOther (sym told.1) tt) told.2 mail h
other_told f s (kept.End a read ready status) e act child feed generation told mail h = follows_other f s told.0 e (subst IsOther (sym told.1) tt) told.2 mail h
other_told f s (kept.Stop a) e act child feed generation told mail h = follows_other f s told.0 e (subst IsOther (sym told.1) tt) told.2 mail h
other_told f s (kept.Moment m) e act child feed generation told mail h = follows_other f s told.0 e (subst IsOther (sym told.1) tt) told.2 mail h
other_told f s (kept.Halt how) e act child feed generation told mail h = follows_other f s told.0 e (subst IsOther (sym told.1) tt) told.2 mail h

pub generation_told : (old new : Following) (s : State) (k : Kept) (e : Event) (start : ℕ) (m : Machine) → k ≡ kept.Generation start → TellsRead k e → new.fates ≡ old.fates → new.sender ≡ Some m → Stands m None []
    → Follows old s → Follows new (happens s e)
generation_told old new s k e start m is told fates sender stands h =
    let read = subst (λ (k : Kept). TellsRead k e) is told in
    follows_generation old new s e start m (subst (λ (k : Kept). Tells k e) read.1 read.2) fates sender stands h

-- an event of an actor's own, one that gives a child its input too
pub own_told : (new : Following) (s : State) (k : Kept) (e : Event) (x : Kept) (a : List ℕ) (own : Own) → k ≡ x → ((read : Kept) → IsReadAs x read → read ≡ kept.Act a own) → TellsRead k e → Allowed s e
    → ((wrote : ℕ) → HasDone s a own → Follows new (acted s a own wrote (s.actors a))) → Follows new (happens s e)
own_told new s k e x a own is same told may follows =
    let read = subst (λ (k : Kept). TellsRead k e) is told in
    let it = act_told a own e (subst (λ (k : Kept). Tells k e) (same read.0 read.1) read.2) in
    subst (λ (e : Event). Follows new (happens s e)) (sym it.1) (follows it.0 (act_done s a own it.0 (subst (Allowed s) it.1 may)))

-- the start of a child
pub bred_told : (new : Following) (s : State) (k : Kept) (e : Event) (a : List ℕ) (own : Own) (c : List ℕ) (program : Program) → k ≡ kept.Child a own c program → TellsRead k e → IsNamedStart e → Allowed s e
    → ((wrote : ℕ) → HasDone s a own → Follows new (acted s a own wrote (s.actors a))) → Follows new (happens s e)
bred_told new s k e a own c program is told mail may follows =
    let read = subst (λ (k : Kept). TellsRead k e) is told in
    let whole = read.1.0 in
    let it : e ≡ Child a own c whole = child_told a own c whole e (subst (λ (k : Kept). Tells k e) read.1.1 read.2) in
    let s' = acted s a own 0 (s.actors a) in
    subst (λ (e : Event). Follows new (happens s e)) (sym it)
    (follows_begins new s' c whole (with_child s'.pipework a (slot_by own.due) c) (subst IsNamedStart it mail).0 (follows 0 (child_done s a own c whole (subst (Allowed s) it may))))

-- An event of the sender

-- what it enters is what the history says
heard_is : (child : Option Bouncer) (b : Books) (a : List ℕ) (start : ℕ) (past : List Own) (read : ℕ) (ready : Ready) (due : NeedData) (came : GotData)
    → heard_after child b past read ready due came ≡ books_after child b a (Sender start) past read ready due came
heard_is child b a start past read ready (needs.File c) (got.Answered told) = refl
heard_is child b a start past read ready (needs.Take p) came = refl
heard_is child b a start past read ready (needs.Give p bytes) came = refl
heard_is child b a start past read ready due came = refl

sender_at : (o : Option Actor) (m : Machine) → IsHeard (Some m) o → (x : Actor) × (o ≡ Some x) × (start : ℕ) × (x.program ≡ Sender start) × Stands m None x.past × IsRunBy (Next None) x.past
sender_at None m h = absurd h
sender_at (Some x) m h = (x, refl, h.0.0, h.0.1, h.1, h.2)

-- what follows from two things that hold where a call succeeded
pub on_both : {X E : Type 0} {P Q R : Type 0} (r : Result X E) → (P → Q → R) → OnOk r P → OnOk r Q → OnOk r R
on_both (Ok x) both p q = both p q
on_both (Err e) both p q = tt

-- what is known of the past of the newest sender, when this is its next event
pub record IsNext (m : Machine) (s : State) (own : Own) (wrote : ℕ) : Type 0 where
  pub actor : Actor
  pub is : s.actors (codes "sender") ≡ Some actor
  pub start : ℕ
  pub program : actor.program ≡ Sender start
  pub stands : Stands m None actor.past
  pub due : HasDue actor.past own
  pub may : MayCome own.due own.came

pub is_next : (f : Following) (s : State) (own : Own) (wrote : ℕ) (m : Machine) → IsMoment s.now → HasDone s (codes "sender") own → f.sender ≡ Some m → Follows f s → IsNext m s own wrote
is_next f s own wrote m moment does is h =
    let w = sender_at (s.actors (codes "sender")) m (subst (λ (o : Option Machine). IsHeard o (s.actors (codes "sender"))) is h.heard) in
    let same : does.actor ≡ w.0 = some_is does.actor w.0 (sym does.reads.is ∙ w.1) in
    let no_later = does.reads.no_later in
    record {
      actor = w.0;
      is = w.1;
      start = w.2;
      program = w.3;
      stands = w.4;
      due = record {
        run = w.5;
        moment = omega (arith, moment, no_later);
        due = ap (λ (p : Program). next_of p w.0.past own.read own.ready) (sym w.3) ∙ ap (λ (x : Actor). next_of x.program x.past own.read own.ready) (sym same) ∙ does.due;
      };
      may = does.came;
    }
  where
    some_is : (x y : Actor) → ◌≡◌ {A = Option Actor} (Some x) (Some y) → x ≡ y
    some_is x y e = cc

pub follows_sender : (new : Following) (s : State) (own : Own) (wrote : ℕ) (old m : Machine) → (next : IsNext old s own wrote) → new.sender ≡ Some m → Stands m None (own ∷ next.actor.past)
    → AreFates new.fates (heard_by (bouncer_of s (codes "sender")) next.actor.past own s.books) → Follows new (acted s (codes "sender") own wrote (s.actors (codes "sender")))
follows_sender new s own wrote old m next is stands fates =
    let x = next.actor in
    let y : Actor = record { program = x.program; past = own ∷ x.past; life = x.life } in
    rw next.is (record {
      fates = subst (AreFates new.fates)
          (heard_is (bouncer_of s (codes "sender")) s.books (codes "sender") next.start x.past own.read own.ready own.due own.came
          ∙ ap (λ (p : Program). books_after (bouncer_of s (codes "sender")) s.books (codes "sender") p x.past own.read own.ready own.due own.came) (sym next.program))
          fates;
      heard = subst (λ (m : Option Machine). IsHeard m (put_at s.actors (codes "sender") (Some y) (codes "sender"))) (sym is)
          (subst (IsHeard (Some m)) (sym (put_at_same s.actors (codes "sender") (Some y)))
          ((next.start, next.program), stands, (next.due.run, (next.due.due, next.may))));
    })

-- An event of another actor

heard_apart : (m : Option Machine) (s : State) (a : List ℕ) (own : Own) (wrote : ℕ) (o : Option Actor) → a ≢ codes "sender" → IsHeard m (s.actors (codes "sender")) → IsHeard m ((acted s a own wrote o).actors (codes "sender"))
heard_apart m s a own wrote None apart h = h
heard_apart m s a own wrote (Some x) apart h =
    let y : Actor = record { program = x.program; past = own ∷ x.past; life = x.life } in
    subst (IsHeard m) (sym (put_at_other s.actors a (Some y) (codes "sender") (λ e. apart (sym e)))) h

-- one that sends nothing and links nothing
quiet_books : (child : Option Bouncer) (b : Books) (a : List ℕ) (program : Program) (past : List Own) (read : ℕ) (ready : Ready) (due : NeedData) (came : GotData) → (IsMail program → ⊥) → (IsSender program → ⊥)
    → books_after child b a program past read ready due came ≡ b
quiet_books child b a (Injector args) past read ready due came runs sends = absurd (runs tt)
quiet_books child b a (Sender start) past read ready due came runs sends = absurd (sends tt)
quiet_books child b a other past read ready (needs.File c) (got.Answered told) runs sends = refl
quiet_books child b a other past read ready (needs.Take p) came runs sends = refl
quiet_books child b a other past read ready (needs.Give p bytes) came runs sends = refl
quiet_books child b a other past read ready due came runs sends = refl

follows_quiet : (f : Following) (s : State) (a : List ℕ) (own : Own) (wrote : ℕ) → a ≢ codes "sender" → ((x : Actor) → s.actors a ≡ Some x → IsMail x.program → ⊥)
    → ((x : Actor) → s.actors a ≡ Some x → IsSender x.program → ⊥) → Follows f s → Follows f (acted s a own wrote (s.actors a))
follows_quiet f s a own wrote apart runs sends h = by (s.actors a) refl where
  by : (o : Option Actor) → s.actors a ≡ o → Follows f (acted s a own wrote o)
  by None is = h
  by (Some x) is = record {
    fates = subst (AreFates f.fates) (sym (quiet_books (bouncer_of s a) s.books a x.program x.past own.read own.ready own.due own.came (runs x is) (sends x is))) h.fates;
    heard = heard_apart f.sender s a own wrote (Some x) apart h.heard;
  }

pub apart_by : (a : List ℕ) → bytes_eq a (codes "sender") ≡ false → a ≢ codes "sender"
apart_by a differs e = let same : true ≡ false = ap (λ (b : List ℕ). bytes_eq b (codes "sender")) (sym e) ∙ differs in absurd (cc)

pub follows_member : (f : Following) (s : State) (a : List ℕ) (own : Own) (wrote : ℕ) → AreNamed s → a ≢ codes "sender" → Contains members a → Follows f s → Follows f (acted s a own wrote (s.actors a))
follows_member f s a own wrote named apart member h = follows_quiet f s a own wrote apart (λ x is mail. named.member a x is member (mail_runs x.program mail)) (λ x is sends. apart (named.sender a x is sends)) h

pub follows_delivery : (f : Following) (s : State) (a : List ℕ) (own : Own) (wrote : ℕ) → AreNamed s → a ≢ codes "sender" → ¬ (Contains members a) → is_delivery_name a ≡ true
    → Follows f s → Follows f (acted s a own wrote (s.actors a))
follows_delivery f s a own wrote named apart alone delivers h =
    follows_quiet f s a own wrote apart (λ x is. no_delivery_runs a x.program delivers (named.alone a x is alone)) (λ x is sends. apart (named.sender a x is sends)) h

mail_is : (a : List ℕ) (program : Program) → is_delivery_name a ≡ false → IsNamedSo a program → (args : Arguments) × (program ≡ Injector args)
mail_is a (Injector args) none named = (args, refl)
mail_is a (Delivery start args) none named = let both : true ≡ false = sym named ∙ none in absurd (cc)
mail_is a other none named = absurd named

-- what an injector's event enters, so too
booked_is : (child : Option Bouncer) (b : Books) (a : List ℕ) (args : Arguments) (past : List Own) (read : ℕ) (ready : Ready) (due : NeedData) (came : GotData)
    → booked_after b a args due came ≡ books_after child b a (Injector args) past read ready due came
booked_is child b a args past read ready (needs.File c) (got.Answered told) = refl
booked_is child b a args past read ready due came = refl

pub follows_mail : (old new : Following) (s : State) (a : List ℕ) (own : Own) (wrote : ℕ) → AreNamed s → ¬ (Contains members a) → is_delivery_name a ≡ false → new.sender ≡ old.sender
    → ((books : Books) (args : Arguments) → AreFates old.fates books → AreFates new.fates (booked_after books a args own.due own.came))
    → HasDone s a own → Follows old s → Follows new (acted s a own wrote (s.actors a))
follows_mail old new s a own wrote named mail injects sender link does h =
    let x = does.actor in
    let is = does.reads.is in
    let it = mail_is a x.program injects (named.alone a x is mail) in
    rw is (record {
      fates = subst (λ (p : Program). AreFates new.fates (books_after (bouncer_of s a) s.books a p x.past own.read own.ready own.due own.came)) (sym it.1)
          (subst (AreFates new.fates) (booked_is (bouncer_of s a) s.books a it.0 x.past own.read own.ready own.due own.came) (link s.books it.0 h.fates));
      heard = subst (λ (m : Option Machine). IsHeard m ((acted s a own wrote (Some x)).actors (codes "sender"))) (sym sender)
          (heard_apart old.sender s a own wrote (Some x) (λ e. mail (subst (Contains members) (sym e) is_member_sender)) h.heard);
    })

-- Event by event

-- what is kept follows each history that these events tell, the newest first
abbrev pub FollowsAll : Following → List Kept → Type 0
FollowsAll f ks = (d : Disk) (h : List Event) → Legal d h → AllZip TellsRead ks h → AreNamedStarts h → Follows f (after d h)

-- so it does after one event more
abbrev pub Notes : Following → Following → Kept → Type 0
Notes old new k = (s : State) (e : Event) → AreNamed s → IsMoment s.now → IsNamedStart e → Allowed s e → TellsRead k e → Follows old s → Follows new (happens s e)

-- before any event
pub none_followed : (f : Following) → AreFates f.fates no_books → f.sender ≡ None → FollowsAll f []
none_followed f fates none d [] legal told mails = record { fates = fates; heard = subst (λ (m : Option Machine). IsHeard m None) (sym none) refl }
none_followed f fates none d (e ∷ h) legal told mails = absurd told

one_more : (old new : Following) (k : Kept) (ks : List Kept) → Notes old new k → FollowsAll old ks → FollowsAll new (k ∷ ks)
one_more old new k ks notes before d [] legal told mails = absurd told
one_more old new k ks notes before d (e ∷ h) legal told mails =
    let so = orderly d ks h legal.0 told.1 mails.1 in
    notes (after d h) e so.named so.moment mails.0 legal.1 told.0 (before d h legal.0 told.1 mails.1)

pub next_follows : (old new : Following) (events : List Kept) (i : ℕ) (k : Kept) → i < length events → k ≡ get_or events i k → Notes old new k → FollowsAll old (reverse (take i events)) → FollowsAll new (reverse (take (i + 1) events))
next_follows old new events i k there is notes before =
    let more : take (i + 1) events ≡ take i events ++ k ∷ [] = take_more events i k there ∙ ap (λ (x : Kept). take i events ++ x ∷ []) (sym is) in
    subst (FollowsAll new) (sym (ap reverse more ∙ reverse-append (take i events) (k ∷ []))) (one_more old new k (reverse (take i events)) notes before)
