-- A history whose child has another input: each event might happen when it did all the same.
use Rattle.std.specs.Prelude.{Contains, if◌then◌else◌, ◌==◌, ◌&&◌, option_map}
use Rattle.std.proofs.Common.{◌≡◌, ◌≢◌, ◌⊎◌, inl, inr, ℕ, ◌≤◌, List, [], ◌∷◌, ◌++◌, Bool, true, false, Option, Some, None, refl, sym, ap, ◌∙◌, subst, ⊎_elim, bytes_eq, codes}
use Rattle.call_fs.specs.Disk.{Disk}
use Rattle.call_fs.specs.Maps.{put_at}
use Rattle.call_fs.proofs.Maps.{put_at_cases, put_at_same, put_at_other}
use Rattle.call_fs.specs.declared.calls.CallData.{CallData}
use Rattle.call_fs.specs.declared.past.ChildData.{ChildData}
use Rattle.call_fs.specs.declared.past.ChildData.TheVariants as child
use Rattle.call_fs.specs.declared.past.GotData.{GotData}
use Rattle.call_fs.specs.declared.past.GotData.TheVariants as got
use Rattle.call_fs.specs.declared.past.NeedData.{NeedData}
use Rattle.call_fs.specs.declared.past.NeedData.TheVariants as needs
use Rattle.call_fs.specs.declared.past.Own.{Own}
use Rattle.call_fs.specs.declared.program.Port.{Port}
use Rattle.call_fs.specs.declared.program.Port.TheVariants as port
use Rattle.call_fs.specs.declared.program.Ready.{Ready}
use Rattle.actor_names.specs.MailNames.{members}
use Rattle.queue_law.proofs.Tests.{text_cases}
use Rattle.queue_law.specs.Books.{Books}
use Rattle.queue_law.specs.Entered.{Child as Bouncer}
use Rattle.world_pipes.specs.Pipework.{Pipework, Tenant, is_member, programs_after, with_child, with_generation}
use Rattle.world_pipes.specs.Pipework.Tenant.{Runs, Remote}
use Rattle.world_events.specs.declared.event.Program.{Program}
use Rattle.world_events.specs.declared.event.Program.TheVariants.{Injector, Delivery}
use Rattle.mail_world.specs.History.{Event, Actor, Life, State, Allowed, MayRead, MayFind, MayRun, MayDo, MayBear, MayEnd, MayReport, MayBegin, MayStart, IsLiving, TenantEnds, IsStatusOf, IsFed, IsProgramOf, ComesOf, EachAllowed, after, happens, acted, finished, begins, bouncer_in, bouncer_at, books_after, newborn, stopped, cut_off, start_of, slot_by, with_crew}
use Rattle.mail_world.specs.History.Event.{Start, Act, Child, Generation, Report, End, Stop, Moment, Halt}
use Rattle.mail_world.specs.History.Life.{Alive, Over, Stopped}
use Rattle.mail_world.specs.Anew.{IsSameButInput, IsApart, AreApart, idle, AreAlikeBut, HistoriesBeginAnew}
use Rattle.mail_world.proofs.Members.{are_four, member_contained}
use Rattle.mail_world.proofs.Known.{both_put}

-- Maps of actors

pub some_is : (x y : Actor) → ◌≡◌ {A = Option Actor} (Some x) (Some y) → x ≡ y
some_is x y e = cc

pub none_some : {P : Type 0} (o : Option Actor) (x : Actor) → o ≡ None → o ≡ Some x → P
none_some o x none some = let v : ◌≡◌ {A = Option Actor} None (Some x) = sym none ∙ some in absurd (cc)

-- who is nowhere after a new value was put, was nowhere before
pub none_put : (m : List ℕ → Option Actor) (a : List ℕ) (y : Actor) (b : List ℕ) → put_at m a (Some y) b ≡ None → m b ≡ None
none_put m a y b gone = ⊎_elim
    (λ (w : (b ≡ a) × (put_at m a (Some y) b ≡ Some y)). none_some (put_at m a (Some y) b) y gone w.1)
    (λ (w : (b ≢ a) × (put_at m a (Some y) b ≡ m b)). sym w.1 ∙ gone)
    (put_at_cases m a (Some y) b)

-- Who runs in the slots of others

pub runs_if : (t : Bool) (n o : Option Tenant) (b : List ℕ) → (n ≡ Some (Runs b) → ⊥) → (if t then n else o) ≡ Some (Runs b) → o ≡ Some (Runs b)
runs_if true n o b not is = absurd (not is)
runs_if false n o b not is = is

pub no_tenant : (b : List ℕ) → ◌≡◌ {A = Option Tenant} None (Some (Runs b)) → ⊥
no_tenant b e = cc

pub remote_tenant : (reported : Bool) (b : List ℕ) → ◌≡◌ {A = Option Tenant} (Some (Remote reported)) (Some (Runs b)) → ⊥
remote_tenant reported b e = cc

same_tenant : (b c : List ℕ) → ◌≡◌ {A = Option Tenant} (Some (Runs b)) (Some (Runs c)) → b ≡ c
same_tenant b c e = cc

-- an event of an actor puts no other actor into a slot
module _ (programs : List ℕ → ℕ → Option Tenant) (a b : List ℕ) (e : ℕ) (c : List ℕ) where
  taken_runs : (d : ℕ) (came : GotData) → programs_after programs a (needs.Take (port.Status d)) came b e ≡ Some (Runs c) → programs b e ≡ Some (Runs c)
  taken_runs d (got.Ended status) is = runs_if (bytes_eq b a && (e == d)) None (programs b e) c (no_tenant c) is
  taken_runs d got.Crashed is = runs_if (bytes_eq b a && (e == d)) None (programs b e) c (no_tenant c) is
  taken_runs d (got.Answered told) is = is
  taken_runs d (got.Took bytes) is = is
  taken_runs d got.End is = is
  taken_runs d got.Gave is = is
  taken_runs d (got.Started pid) is = is
  taken_runs d got.Failed is = is
  taken_runs d got.Memory is = is

  began_runs : (slot : ℕ) (domain sender recipient : List ℕ) (came : GotData)
      → programs_after programs a (needs.Start (child.Remote slot domain sender recipient)) came b e ≡ Some (Runs c) → programs b e ≡ Some (Runs c)
  began_runs slot domain sender recipient (got.Started pid) is = runs_if (bytes_eq b a && (e == slot)) (Some (Remote false)) (programs b e) c (remote_tenant false c) is
  began_runs slot domain sender recipient (got.Answered told) is = is
  began_runs slot domain sender recipient (got.Took bytes) is = is
  began_runs slot domain sender recipient got.End is = is
  began_runs slot domain sender recipient (got.Ended status) is = is
  began_runs slot domain sender recipient got.Crashed is = is
  began_runs slot domain sender recipient got.Gave is = is
  began_runs slot domain sender recipient got.Failed is = is
  began_runs slot domain sender recipient got.Memory is = is

  own_runs : (due : NeedData) (came : GotData) → programs_after programs a due came b e ≡ Some (Runs c) → programs b e ≡ Some (Runs c)
  own_runs (needs.Take (port.Status d)) came is = taken_runs d came is
  own_runs (needs.Take port.Input) came is = is
  own_runs (needs.Take port.Output) came is = is
  own_runs (needs.Take port.Clean) came is = is
  own_runs (needs.Take port.Lspawn) came is = is
  own_runs (needs.Take port.Rspawn) came is = is
  own_runs (needs.Take port.Todo) came is = is
  own_runs (needs.Take (port.Program d)) came is = is
  own_runs (needs.Start (child.Remote slot domain sender recipient)) came is = began_runs slot domain sender recipient came is
  own_runs (needs.Start (child.Bounce room)) came is = is
  own_runs (needs.Start (child.Forward uid room)) came is = is
  own_runs (needs.Start (child.Local slot words uid)) came is = is
  own_runs (needs.File call) came is = is
  own_runs (needs.Give p bytes) came is = is
  own_runs (needs.Command bytes) came is = is
  own_runs needs.Wait came is = is
  own_runs (needs.Ended status) came is = is

acted_runs : (s : State) (a : List ℕ) (own : Own) (wrote : ℕ) (o : Option Actor) (b : List ℕ) (e : ℕ) (c : List ℕ)
    → (acted s a own wrote o).pipework.programs b e ≡ Some (Runs c) → s.pipework.programs b e ≡ Some (Runs c)
acted_runs s a own wrote None b e c is = is
acted_runs s a own wrote (Some x) b e c is = own_runs s.pipework.programs a b e c own.due own.came is

finished_runs : (s : State) (a : List ℕ) (life : Life) (o : Option Actor) (b : List ℕ) (e : ℕ) (c : List ℕ)
    → (finished s a life o).pipework.programs b e ≡ Some (Runs c) → s.pipework.programs b e ≡ Some (Runs c)
finished_runs s a life None b e c is = is
finished_runs s a life (Some x) b e c is = is

-- who started ran already, or starts with this event in that slot of its parent
born_runs : (w : Pipework) (parent : List ℕ) (d : ℕ) (a b : List ℕ) (e : ℕ) (c : List ℕ) → (t : Bool) → (bytes_eq b parent && (e == d)) ≡ t
    → (if t then Some (Runs a) else w.programs b e) ≡ Some (Runs c) → ((a ≡ c) × (t ≡ true)) ⊎ (w.programs b e ≡ Some (Runs c))
born_runs w parent d a b e c true is there = inl (same_tenant a c there, refl)
born_runs w parent d a b e c false is there = inr there

-- Nobody vanishes, and who runs in a slot is there

pub acted_none : (s : State) (a : List ℕ) (own : Own) (wrote : ℕ) (o : Option Actor) (b : List ℕ) → (acted s a own wrote o).actors b ≡ None → s.actors b ≡ None
acted_none s a own wrote None b gone = gone
acted_none s a own wrote (Some x) b gone = none_put s.actors a _ b gone

pub finished_none : (s : State) (a : List ℕ) (life : Life) (o : Option Actor) (b : List ℕ) → (finished s a life o).actors b ≡ None → s.actors b ≡ None
finished_none s a life None b gone = gone
finished_none s a life (Some x) b gone = none_put s.actors a _ b gone

-- whoever runs in a slot is an actor
abbrev pub AreThere : State → Type 0
AreThere s = (a : List ℕ) (d : ℕ) (b : List ℕ) → s.pipework.programs a d ≡ Some (Runs b) → s.actors b ≡ None → ⊥

none_crew : (names : List (List ℕ)) (crew : List Program) (actors : List ℕ → Option Actor) (b : List ℕ) → with_crew names crew actors b ≡ None → actors b ≡ None
none_crew (o ∷ names) (program ∷ crew) actors b gone = none_put actors o (newborn program) b (none_crew names crew (put_at actors o (Some (newborn program))) b gone)
none_crew names crew actors b gone = gone

there_after : (s : State) (e : Event) → AreThere s → AreThere (happens s e)
there_after s (Start o program) there a d b is gone = there a d b is (none_put s.actors o (newborn program) b gone)
there_after s (Act o own wrote) there a d b is gone =
    there a d b (acted_runs s o own wrote (s.actors o) a d b is) (acted_none s o own wrote (s.actors o) b gone)
there_after s (Child parent own o program) there a d b is gone =
    let s1 = acted s parent own 0 (s.actors parent) in
    ⊎_elim
    (λ (w : (o ≡ b) × ((bytes_eq a parent && (d == slot_by own.due)) ≡ true)).
    none_some (put_at s1.actors o (Some (newborn program)) b) (newborn program) gone (ap (put_at s1.actors o (Some (newborn program))) (sym w.0) ∙ put_at_same s1.actors o (Some (newborn program))))
    (λ (w : s1.pipework.programs a d ≡ Some (Runs b)).
    there a d b (acted_runs s parent own 0 (s.actors parent) a d b w) (acted_none s parent own 0 (s.actors parent) b (none_put s1.actors o (newborn program) b gone)))
    (born_runs s1.pipework parent (slot_by own.due) o a d b (bytes_eq a parent && (d == slot_by own.due)) refl is)
there_after s (Generation crew) there a d b is gone =
    there a d b (runs_if (is_member a) None (s.pipework.programs a d) b (no_tenant b) is) (none_crew members crew s.actors b gone)
there_after s (Report slot output) there a d b is gone =
    there a d b (runs_if (bytes_eq a (codes "rspawn") && (d == slot)) (Some (Remote true)) (s.pipework.programs a d) b (remote_tenant true b) is) gone
there_after s (End o read ready status) there a d b is gone =
    there a d b (finished_runs s o (Over status) (s.actors o) a d b is) (finished_none s o (Over status) (s.actors o) b gone)
there_after s (Stop o) there a d b is gone =
    there a d b (finished_runs s o Stopped (s.actors o) a d b is) (finished_none s o Stopped (s.actors o) b gone)
there_after s (Moment m) there a d b is gone = there a d b is gone
there_after s (Halt how contents) there a d b is gone = absurd (no_tenant b is)

pub all_there : (d : Disk) (h : List Event) → AreThere (after d h)
all_there d [] = λ a n b is gone. no_tenant b is
all_there d (e ∷ h) = there_after (after d h) e (all_there d h)

-- Two states

-- the same state with other actors
abbrev pub with_actors : State → (List ℕ → Option Actor) → State
with_actors s m = record { disk = s.disk; holder = s.holder; now = s.now; actors = m; books = s.books; pipework = s.pipework }

-- nobody but this parent has that actor in a slot
abbrev RunsOnlyWith : List ℕ → List ℕ → State → Type 0
RunsOnlyWith parent c s = (a : List ℕ) (d : ℕ) → s.pipework.programs a d ≡ Some (Runs c) → a ≡ parent

runs_alone : (p q : Program) → IsSameButInput p q → MayRun p
runs_alone (Injector args) q same = tt
runs_alone other q same = absurd same

module _ (parent c : List ℕ) (p q : Program) (same : IsSameButInput p q) where
  abbrev Alike : State → State → Type 0
  Alike s t = AreAlikeBut c p q s t

  -- Of two states with other actors
  module _ (s : State) (m : List ℕ → Option Actor) (others : (a : List ℕ) → a ≢ c → m a ≡ s.actors a) (life : Life)
      (was : s.actors c ≡ Some (idle p life)) (is : m c ≡ Some (idle q life)) (only : RunsOnlyWith parent c s) where
    abbrev t : State
    t = with_actors s m

    -- somebody who isn't there is another one
    is_other : (a : List ℕ) → s.actors a ≡ None → a ≢ c
    is_other a none e = none_some (s.actors a) (idle p life) none (ap s.actors e ∙ was)

    reads : (a : List ℕ) (x : Actor) (read : ℕ) → a ≢ c → MayRead s a x read → MayRead t a x read
    reads a x read other r = record { is = others a other ∙ r.is; alive = r.alive; no_earlier = r.no_earlier; no_later = r.no_later; no_stall = r.no_stall }

    finds : (a : List ℕ) (program : Program) (past : List Own) (ready : Ready) → MayFind s a program past ready → MayFind t a program past ready
    finds a (Injector args) past ready h = h
    finds a other past ready h = h

    runner_ends : (b : List ℕ) (came : GotData) → TenantEnds s (Some (Runs b)) came → TenantEnds t (Some (Runs b)) came
    runner_ends b came h = ⊎_elim
        (λ (w : (b ≡ c) × (bytes_eq b c ≡ true)).
        let one : h.0 ≡ idle p life = some_is h.0 (idle p life) (sym h.1 ∙ (ap s.actors w.0 ∙ was)) in
        (idle q life, ap m w.0 ∙ is, subst (λ (x : Actor). IsStatusOf x.life came) one h.2))
        (λ (w : (b ≢ c) × (bytes_eq b c ≡ false)). (h.0, others b w.0 ∙ h.1, h.2))
        (text_cases b c)

    tenant_ends : (o : Option Tenant) (came : GotData) → TenantEnds s o came → TenantEnds t o came
    tenant_ends None came h = absurd h
    tenant_ends (Some (Runs b)) came h = runner_ends b came h
    tenant_ends (Some (Remote true)) came h = h
    tenant_ends (Some (Remote false)) came h = absurd h

    fed_by : (a : List ℕ) (d : ℕ) (bytes : List ℕ) → a ≢ parent → (o : Option Tenant) → s.pipework.programs a d ≡ o → IsFed s o bytes → IsFed t o bytes
    fed_by a d bytes other None e h = tt
    fed_by a d bytes other (Some (Remote reported)) e h = tt
    fed_by a d bytes other (Some (Runs b)) e h =
        let apart : b ≢ c = λ (w : b ≡ c). other (only a d (e ∙ ap (λ (z : List ℕ). Some (Runs z)) w)) in
        λ x there. h x (sym (others b apart) ∙ there)

    gives : (a : List ℕ) (p : Port) (bytes : List ℕ) (came : GotData) (wrote : ℕ) → a ≢ parent → ComesOf s a (needs.Give p bytes) came wrote → ComesOf t a (needs.Give p bytes) came wrote
    gives a (port.Program d) bytes got.Gave wrote other h = fed_by a d bytes other (s.pipework.programs a d) refl h
    gives a (port.Program d) bytes got.Failed wrote other h = h
    gives a (port.Program d) bytes came wrote other h = absurd h
    gives a port.Input bytes got.Gave wrote other h = h
    gives a port.Input bytes got.Failed wrote other h = h
    gives a port.Input bytes came wrote other h = absurd h
    gives a port.Output bytes got.Gave wrote other h = h
    gives a port.Output bytes got.Failed wrote other h = h
    gives a port.Output bytes came wrote other h = absurd h
    gives a port.Clean bytes got.Gave wrote other h = h
    gives a port.Clean bytes got.Failed wrote other h = h
    gives a port.Clean bytes came wrote other h = absurd h
    gives a port.Lspawn bytes got.Gave wrote other h = h
    gives a port.Lspawn bytes got.Failed wrote other h = h
    gives a port.Lspawn bytes came wrote other h = absurd h
    gives a port.Rspawn bytes got.Gave wrote other h = h
    gives a port.Rspawn bytes got.Failed wrote other h = h
    gives a port.Rspawn bytes came wrote other h = absurd h
    gives a port.Todo bytes got.Gave wrote other h = h
    gives a port.Todo bytes got.Failed wrote other h = h
    gives a port.Todo bytes came wrote other h = absurd h
    gives a (port.Status d) bytes got.Gave wrote other h = h
    gives a (port.Status d) bytes got.Failed wrote other h = h
    gives a (port.Status d) bytes came wrote other h = absurd h

    calls : (a : List ℕ) (call : CallData) (came : GotData) (wrote : ℕ) → ComesOf s a (needs.File call) came wrote → ComesOf t a (needs.File call) came wrote
    calls a call (got.Answered told) wrote h = h
    calls a call came wrote h = absurd h

    starts : (a : List ℕ) (asked : ChildData) (came : GotData) (wrote : ℕ) → ComesOf s a (needs.Start asked) came wrote → ComesOf t a (needs.Start asked) came wrote
    starts a (child.Remote slot domain sender recipient) (got.Started pid) wrote h = h
    starts a (child.Remote slot domain sender recipient) got.Failed wrote h = h
    starts a (child.Remote slot domain sender recipient) got.Memory wrote h = h
    starts a (child.Remote slot domain sender recipient) came wrote h = absurd h
    starts a (child.Bounce room) got.Failed wrote h = h
    starts a (child.Bounce room) got.Memory wrote h = h
    starts a (child.Bounce room) came wrote h = absurd h
    starts a (child.Forward uid room) got.Failed wrote h = h
    starts a (child.Forward uid room) got.Memory wrote h = h
    starts a (child.Forward uid room) came wrote h = absurd h
    starts a (child.Local slot words uid) got.Failed wrote h = h
    starts a (child.Local slot words uid) got.Memory wrote h = h
    starts a (child.Local slot words uid) came wrote h = absurd h

    comes : (a : List ℕ) (due : NeedData) (came : GotData) (wrote : ℕ) → a ≢ parent → ComesOf s a due came wrote → ComesOf t a due came wrote
    comes a (needs.File call) came wrote other h = calls a call came wrote h
    comes a (needs.Take (port.Status d)) came wrote other h = ⊎_elim (λ e. inl e) (λ e. inr (tenant_ends (s.pipework.programs a d) came e)) h
    comes a (needs.Take port.Input) came wrote other h = h
    comes a (needs.Take port.Output) came wrote other h = h
    comes a (needs.Take port.Clean) came wrote other h = h
    comes a (needs.Take port.Lspawn) came wrote other h = h
    comes a (needs.Take port.Rspawn) came wrote other h = h
    comes a (needs.Take port.Todo) came wrote other h = h
    comes a (needs.Take (port.Program d)) came wrote other h = h
    comes a (needs.Give to bytes) came wrote other h = gives a to bytes came wrote other h
    comes a (needs.Start asked) came wrote other h = starts a asked came wrote h
    comes a (needs.Command bytes) came wrote other h = h
    comes a needs.Wait came wrote other h = absurd h
    comes a (needs.Ended status) came wrote other h = absurd h

    -- the books are those that they would be
    same_bouncer : (a : List ℕ) → a ≢ parent → (o : Option Tenant) → s.pipework.programs a 0 ≡ o → bouncer_in m o ≡ bouncer_in s.actors o
    same_bouncer a other None e = refl
    same_bouncer a other (Some (Remote reported)) e = refl
    same_bouncer a other (Some (Runs b)) e =
        ap (bouncer_at b) (others b (λ (w : b ≡ c). other (only a 0 (e ∙ ap (λ (z : List ℕ). Some (Runs z)) w))))

    after_own : (a : List ℕ) (own : Own) (wrote : ℕ) (x : Actor) → a ≢ parent → a ≢ c → Alike (acted s a own wrote (Some x)) (acted t a own wrote (Some x))
    after_own a own wrote x other apart = record {
      disk = refl;
      holder = refl;
      now = refl;
      books = ap (λ (k : Option Bouncer). books_after k s.books a x.program x.past own.read own.ready own.due own.came) (same_bouncer a other (s.pipework.programs a 0) refl);
      pipework = refl;
      others = λ o ne. both_put m s.actors a _ o (others o ne);
      life = life;
      was = put_at_other s.actors a _ c (λ (w : c ≡ a). apart (sym w)) ∙ was;
      is = put_at_other m a _ c (λ (w : c ≡ a). apart (sym w)) ∙ is;
    }

    acted_alike : (a : List ℕ) (own : Own) (wrote : ℕ) (x : Actor) → a ≢ parent → a ≢ c → s.actors a ≡ Some x
        → Alike (acted s a own wrote (s.actors a)) (acted t a own wrote (m a))
    acted_alike a own wrote x other apart there =
        subst (λ (o : Option Actor). Alike (acted s a own wrote o) (acted t a own wrote (m a))) (sym there)
        (subst (λ (o : Option Actor). Alike (acted s a own wrote (Some x)) (acted t a own wrote o)) (sym (others a apart ∙ there)) (after_own a own wrote x other apart))

    after_end : (a : List ℕ) (over : Life) (x : Actor) → a ≢ c → Alike (finished s a over (Some x)) (finished t a over (Some x))
    after_end a over x apart = record {
      disk = refl;
      holder = refl;
      now = refl;
      books = refl;
      pipework = refl;
      others = λ o ne. both_put m s.actors a _ o (others o ne);
      life = life;
      was = put_at_other s.actors a _ c (λ (w : c ≡ a). apart (sym w)) ∙ was;
      is = put_at_other m a _ c (λ (w : c ≡ a). apart (sym w)) ∙ is;
    }

    finished_alike : (a : List ℕ) (over : Life) (x : Actor) → a ≢ c → s.actors a ≡ Some x → Alike (finished s a over (s.actors a)) (finished t a over (m a))
    finished_alike a over x apart there =
        subst (λ (o : Option Actor). Alike (finished s a over o) (finished t a over (m a))) (sym there)
        (subst (λ (o : Option Actor). Alike (finished s a over (Some x)) (finished t a over o)) (sym (others a apart ∙ there)) (after_end a over x apart))

    -- the child itself is stopped
    after_stop : Alike (finished s c Stopped (Some (idle p life))) (finished t c Stopped (Some (idle q life)))
    after_stop = record {
      disk = refl;
      holder = refl;
      now = refl;
      books = refl;
      pipework = refl;
      others = λ o ne. put_at_other m c _ o ne ∙ (others o ne ∙ sym (put_at_other s.actors c _ o ne));
      life = Stopped;
      was = put_at_same s.actors c _;
      is = put_at_same m c _;
    }

    stopped_alike : (a : List ℕ) (x : Actor) → s.actors a ≡ Some x → Alike (finished s a Stopped (s.actors a)) (finished t a Stopped (m a))
    stopped_alike a x there = ⊎_elim
        (λ (w : (a ≡ c) × (bytes_eq a c ≡ true)). subst (λ (o : List ℕ). Alike (finished s o Stopped (s.actors o)) (finished t o Stopped (m o))) (sym w.0)
        (subst (λ (o : Option Actor). Alike (finished s c Stopped o) (finished t c Stopped (m c))) (sym was)
        (subst (λ (o : Option Actor). Alike (finished s c Stopped (Some (idle p life))) (finished t c Stopped o)) (sym is) after_stop)))
        (λ (w : (a ≢ c) × (bytes_eq a c ≡ false)). finished_alike a Stopped x w.0 there)
        (text_cases a c)

    living : (a : List ℕ) → IsLiving s a → IsLiving t a
    living a h = ⊎_elim
        (λ (w : (a ≡ c) × (bytes_eq a c ≡ true)).
        let one : h.actor ≡ idle p life = some_is h.actor (idle p life) (sym h.is ∙ (ap s.actors w.0 ∙ was)) in
        record { actor = idle q life; is = ap m w.0 ∙ is; alive = subst (λ (x : Actor). x.life ≡ Alive) one h.alive })
        (λ (w : (a ≢ c) × (bytes_eq a c ≡ false)). record { actor = h.actor; is = others a w.0 ∙ h.is; alive = h.alive })
        (text_cases a c)

    -- somebody starts
    begins_alike : (s1 t1 : State) (a : List ℕ) (program : Program) (v w : Pipework) → a ≢ c → Alike s1 t1 → w ≡ v → Alike (begins s1 a program v) (begins t1 a program w)
    begins_alike s1 t1 a program v w apart h e = record {
      disk = h.disk;
      holder = h.holder;
      now = h.now;
      books = h.books;
      pipework = e;
      others = λ o ne. both_put t1.actors s1.actors a _ o (h.others o ne);
      life = h.life;
      was = put_at_other s1.actors a _ c (λ (w : c ≡ a). apart (sym w)) ∙ h.was;
      is = put_at_other t1.actors a _ c (λ (w : c ≡ a). apart (sym w)) ∙ h.is;
    }

    still : Alike s t
    still = record { disk = refl; holder = refl; now = refl; books = refl; pipework = refl; others = others; life = life; was = was; is = is }

    abbrev Goes : Event → Type 0
    Goes e = Allowed t e × Alike (happens s e) (happens t e) × RunsOnlyWith parent c (happens s e)

    start_goes : (a : List ℕ) (program : Program) → MayStart s a program → Goes (Start a program)
    start_goes a program h =
        let apart = is_other a h.new in
        (record { new = others a apart ∙ h.new; runs = h.runs }, begins_alike s t a program s.pipework s.pipework apart still refl, only)

    act_goes : (a : List ℕ) (own : Own) (wrote : ℕ) → a ≢ parent → a ≢ c → MayDo s a own wrote → Goes (Act a own wrote)
    act_goes a own wrote other apart h = (
      record { actor = h.actor; reads = reads a h.actor own.read apart h.reads; finds = finds a h.actor.program h.actor.past own.ready h.finds; due = h.due; came = comes a own.due own.came wrote other h.came },
      acted_alike a own wrote h.actor other apart h.reads.is,
      λ b d there. only b d (acted_runs s a own wrote (s.actors a) b d c there),
    )

    child_goes : (a : List ℕ) (own : Own) (b : List ℕ) (program : Program) → a ≢ parent → a ≢ c → MayBear s a own b program → Goes (Child a own b program)
    child_goes a own b program other apart h =
        let new = is_other b h.new in
        let s1 = acted s a own 0 (s.actors a) in
        let t1 = acted t a own 0 (m a) in
        let one : Alike s1 t1 = acted_alike a own 0 h.actor other apart h.reads.is in (
          record {
            actor = h.actor;
            reads = reads a h.actor own.read apart h.reads;
            finds = finds a h.actor.program h.actor.past own.ready h.finds;
            due = h.due;
            asked = h.asked;
            starts = h.starts;
            pid = h.pid;
            came = h.came;
            new = others b new ∙ h.new;
            is = h.is;
            no_earlier = h.no_earlier;
            no_later = h.no_later;
          },
          begins_alike s1 t1 b program (with_child s1.pipework a (slot_by own.due) b) (with_child t1.pipework a (slot_by own.due) b) new one
              (ap (λ (w : Pipework). with_child w a (slot_by own.due) b) one.pipework),
          λ o d there. ⊎_elim
              (λ (w : (b ≡ c) × ((bytes_eq o a && (d == slot_by own.due)) ≡ true)). absurd (new w.0))
              (λ (w : s1.pipework.programs o d ≡ Some (Runs c)). only o d (acted_runs s a own 0 (s.actors a) o d c w))
              (born_runs s1.pipework a (slot_by own.due) b o d c (bytes_eq o a && (d == slot_by own.due)) refl there),
        )

    generation_goes : (sender clean lspawn rspawn : Program) → MayBegin s (sender ∷ clean ∷ lspawn ∷ rspawn ∷ []) → Goes (Generation (sender ∷ clean ∷ lspawn ∷ rspawn ∷ []))
    generation_goes sender clean lspawn rspawn h =
        let none : Contains members c → ⊥ = λ among. h.apart c (idle p life) among was (runs_alone p q same) in
        let far : (a : List ℕ) → is_member a ≡ true → a ≢ c = λ a member e. none (member_contained c (ap is_member (sym e) ∙ member)) in
        let apart : (a : List ℕ) → Contains members a → a ≢ c = λ a among e. none (subst (Contains members) e among) in
        let w = with_generation s.pipework in
        let one = begins_alike s t (codes "sender") sender w w (far (codes "sender") refl) still refl in
        let two = begins_alike _ _ (codes "clean") clean w w (far (codes "clean") refl) one refl in
        let three = begins_alike _ _ (codes "lspawn") lspawn w w (far (codes "lspawn") refl) two refl in
        let four = begins_alike _ _ (codes "rspawn") rspawn w w (far (codes "rspawn") refl) three refl in (
          record {
            over = λ a x among there. h.over a x among (sym (others a (apart a among)) ∙ there);
            apart = λ a x among there. h.apart a x among (sym (others a (apart a among)) ∙ there);
            kinds = h.kinds;
          },
          four,
          λ a d there. only a d (runs_if (is_member a) None (s.pipework.programs a d) c (no_tenant c) there),
        )

    report_goes : (slot : ℕ) (output : List ℕ) → MayReport s slot → Goes (Report slot output)
    report_goes slot output h = (
      record { lives = living (codes "rspawn") h.lives; runs = h.runs },
      record { disk = refl; holder = refl; now = refl; books = refl; pipework = refl; others = others; life = life; was = was; is = is },
      λ a d there. only a d (runs_if (bytes_eq a (codes "rspawn") && (d == slot)) (Some (Remote true)) (s.pipework.programs a d) c (remote_tenant true c) there),
    )

    end_goes : (a : List ℕ) (read : ℕ) (ready : Ready) (status : ℕ) → a ≢ c → MayEnd s a read ready status → Goes (End a read ready status)
    end_goes a read ready status apart h = (
      record { actor = h.actor; reads = reads a h.actor read apart h.reads; finds = finds a h.actor.program h.actor.past ready h.finds; due = h.due },
      finished_alike a (Over status) h.actor apart h.reads.is,
      λ b d there. only b d (finished_runs s a (Over status) (s.actors a) b d c there),
    )

    stop_goes : (a : List ℕ) → IsLiving s a → Goes (Stop a)
    stop_goes a h = (living a h, stopped_alike a h.actor h.is, λ b d there. only b d (finished_runs s a Stopped (s.actors a) b d c there))

    event_goes : (e : Event) → IsApart parent c e → Allowed s e → Goes e
    event_goes (Start a program) apart h = start_goes a program h
    event_goes (Act a own wrote) apart h = act_goes a own wrote apart.0 apart.1 h
    event_goes (Child a own b program) apart h = child_goes a own b program apart.0 apart.1 h
    event_goes (Generation (sender ∷ clean ∷ lspawn ∷ rspawn ∷ [])) apart h = generation_goes sender clean lspawn rspawn h
    event_goes (Generation crew) apart h = absurd (are_four crew h.kinds)
    event_goes (Report slot output) apart h = report_goes slot output h
    event_goes (End a read ready status) apart h = end_goes a read ready status apart h
    event_goes (Stop a) apart h = stop_goes a h
    event_goes (Moment n) apart h = (record { moment = h.moment; no_earlier = h.no_earlier }, record { disk = refl; holder = refl; now = refl; books = refl; pipework = refl; others = others; life = life; was = was; is = is }, only)
    event_goes (Halt how contents) apart h = (
      h,
      record {
        disk = refl;
        holder = refl;
        now = refl;
        books = refl;
        pipework = refl;
        others = λ o ne. ap (option_map stopped) (others o ne);
        life = cut_off life;
        was = ap (option_map stopped) was;
        is = ap (option_map stopped) is;
      },
      λ a d there. absurd (no_tenant c there),
    )

  -- a state is the other one with its own actors
  pub other_state : (s t : State) → Alike s t → t ≡ with_actors s t.actors
  other_state s t h =
      ap (λ (d : Disk). record { disk = d; holder = t.holder; now = t.now; actors = t.actors; books = t.books; pipework = t.pipework }) h.disk
      ∙ (ap (λ (k : ℕ → Option (List ℕ)). record { disk = s.disk; holder = k; now = t.now; actors = t.actors; books = t.books; pipework = t.pipework }) h.holder
      ∙ (ap (λ (k : ℕ). record { disk = s.disk; holder = s.holder; now = k; actors = t.actors; books = t.books; pipework = t.pipework }) h.now
      ∙ (ap (λ (k : Books). record { disk = s.disk; holder = s.holder; now = s.now; actors = t.actors; books = k; pipework = t.pipework }) h.books
      ∙ ap (λ (k : Pipework). record { disk = s.disk; holder = s.holder; now = s.now; actors = t.actors; books = s.books; pipework = k }) h.pipework)))

  goes_by : (s t : State) → Alike s t → RunsOnlyWith parent c s → (e : Event) → IsApart parent c e → Allowed s e
      → Allowed t e × Alike (happens s e) (happens t e) × RunsOnlyWith parent c (happens s e)
  goes_by s t h only e apart allowed =
      subst (λ (u : State). Allowed u e × Alike (happens s e) (happens u e) × RunsOnlyWith parent c (happens s e)) (sym (other_state s t h))
      (event_goes s t.actors h.others h.life h.was h.is only e apart allowed)

  -- the start itself
  program_of : (asked : ChildData) (pid : ℕ) (x y : Program) → IsSameButInput x y → IsProgramOf asked pid x → IsProgramOf asked pid y
  program_of (child.Bounce room) pid (Injector args) (Injector others) alike is = (alike.invoked_is ∙ is.0, alike.uid_is ∙ is.1, alike.pid_is ∙ is.2)
  program_of (child.Forward uid room) pid (Injector args) (Injector others) alike is = (alike.invoked_is ∙ is.0, alike.uid_is ∙ is.1, alike.pid_is ∙ is.2)
  program_of (child.Local slot words uid) pid (Delivery start args) y alike is = absurd alike
  program_of (child.Local slot words uid) pid x y alike is = absurd is
  program_of (child.Remote slot domain sender recipient) pid x y alike is = absurd is
  program_of asked pid x y alike is = absurd alike

  start_is : (x y : Program) → IsSameButInput x y → start_of y ≡ start_of x
  start_is (Injector args) (Injector others) alike = alike.start_is
  start_is x y alike = absurd alike

  module _ (d : Disk) (before : List Event) (own : Own) (h : MayBear (after d before) parent own c p) where
    begun : MayBear (after d before) parent own c q
    begun = record {
      actor = h.actor;
      reads = h.reads;
      finds = h.finds;
      due = h.due;
      asked = h.asked;
      starts = h.starts;
      pid = h.pid;
      came = h.came;
      new = h.new;
      is = program_of h.asked h.pid p q same h.is;
      no_earlier = subst (λ (n : ℕ). own.read ≤ n) (sym (start_is p q same)) h.no_earlier;
      no_later = subst (λ (n : ℕ). n ≤ (after d before).now) (sym (start_is p q same)) h.no_later;
    }

    begun_alike : Alike (after d (Child parent own c p ∷ before)) (after d (Child parent own c q ∷ before))
    begun_alike = record {
      disk = refl;
      holder = refl;
      now = refl;
      books = refl;
      pipework = refl;
      others = λ o ne. put_at_other _ c _ o ne ∙ sym (put_at_other _ c _ o ne);
      life = Alive;
      was = put_at_same _ c _;
      is = put_at_same _ c _;
    }

    begun_only : RunsOnlyWith parent c (after d (Child parent own c p ∷ before))
    begun_only a n there =
        let s = after d before in
        let s1 = acted s parent own 0 (s.actors parent) in
        ⊎_elim
        (λ (w : (c ≡ c) × ((bytes_eq a parent && (n == slot_by own.due)) ≡ true)). named a (n == slot_by own.due) w.1)
        (λ (w : s1.pipework.programs a n ≡ Some (Runs c)). absurd (all_there d before a n c (acted_runs s parent own 0 (s.actors parent) a n c w) h.new))
        (born_runs s1.pipework parent (slot_by own.due) c a n c (bytes_eq a parent && (n == slot_by own.due)) refl there)
      where
        named : (a : List ℕ) (t : Bool) → (bytes_eq a parent && t) ≡ true → a ≡ parent
        named a t both = ⊎_elim
            (λ (w : (a ≡ parent) × (bytes_eq a parent ≡ true)). w.0)
            (λ (w : (a ≢ parent) × (bytes_eq a parent ≡ false)). let v : false ≡ true = sym (ap (λ (u : Bool). u && t) w.1) ∙ both in absurd (cc))
            (text_cases a parent)

  anew : (d : Disk) (later before : List Event) (own : Own) → AreApart parent c later → EachAllowed d (later ++ Child parent own c p ∷ before)
      → EachAllowed d (later ++ Child parent own c q ∷ before)
      × Alike (after d (later ++ Child parent own c p ∷ before)) (after d (later ++ Child parent own c q ∷ before))
      × RunsOnlyWith parent c (after d (later ++ Child parent own c p ∷ before))
  anew d [] before own apart allowed = ((allowed.0, begun d before own allowed.1), begun_alike d before own allowed.1, begun_only d before own allowed.1)
  anew d (e ∷ later) before own apart allowed =
      let back = anew d later before own apart.1 allowed.0 in
      let goes = goes_by (after d (later ++ Child parent own c p ∷ before)) (after d (later ++ Child parent own c q ∷ before)) back.1 back.2 e apart.0 allowed.1 in
      ((back.0, goes.0), goes.1, goes.2)

pub begin_anew : HistoriesBeginAnew
begin_anew d later before parent c own program other same apart allowed =
    let all = anew parent c program other same d later before own apart allowed in (all.0, all.1)
