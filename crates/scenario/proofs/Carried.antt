-- What a play keeps beside being legal: finitely many names, what each living actor's past holds open, which program each actor runs, and
-- who runs in whose slots.
use Rattle.std.proofs.Common.{◌≡◌, ◌≢◌, ◌⊎◌, inl, inr, ⊎_elim, ℕ, zero, suc, ◌<◌, ◌≤◌, List, [], ◌∷◌, length, take, drop, All, Contains, Bool, true, false, ◌&&◌, if◌then◌else◌, bytes_eq, Option, Some, None, refl, sym, ap, ◌∙◌, subst, arith}
use Rattle.std.specs.Prelude.{◌==◌, codes, option_map}
use Rattle.std.proofs.Math.Bool.{and-false}
use Rattle.std.proofs.lemmas.Bool.{false≢true, eqb-true}
use Rattle.std.proofs.lemmas.List.{take-append-drop}
use Rattle.std.proofs.lemmas.List.Elements.{All-nil, All-cons}
use Rattle.call_fs.specs.declared.calls.CallData.{CallData}
use Rattle.call_fs.specs.declared.calls.Told.{Told}
use Rattle.call_fs.specs.declared.past.ChildData.TheVariants as child
use Rattle.call_fs.specs.declared.past.GotData.{GotData}
use Rattle.call_fs.specs.declared.past.GotData.TheVariants.{Answered, Took, End as Ends, Ended, Crashed, Gave, Started}
use Rattle.call_fs.specs.declared.past.NeedData.{NeedData}
use Rattle.call_fs.specs.declared.past.NeedData.TheVariants as needs
use Rattle.call_fs.specs.declared.past.Own.{Own}
use Rattle.call_fs.specs.declared.crash_file_system.Survival.{Survival}
use Rattle.call_fs.specs.declared.modes.Mode.{Mode}
use Rattle.call_fs.specs.declared.program.Port.{Port}
use Rattle.call_fs.specs.declared.program.Port.TheVariants as port
use Rattle.call_fs.specs.declared.program.Ready.{Ready}
use Rattle.call_fs.specs.Past.{IsRunBy, UsesHeld, held, held_by}
use Rattle.call_fs.specs.Program.{IsTaken, MayCome}
use Rattle.call_fs.specs.Disk.{Disk}
use Rattle.call_fs.specs.Apply.{Fits}
use Rattle.call_fs.specs.Maps.{put_at}
use Rattle.call_fs.proofs.Maps.{put_at_cases, put_at_other}
use Rattle.actor_names.specs.ChildNames.{delivery_name}
use Rattle.actor_names.specs.MailNames.{IsMailName, members}
use Rattle.world_events.specs.declared.event.Program.{Program}
use Rattle.world_events.specs.declared.event.Program.TheVariants.{Injector, Cleaner, Sender, LocalSpawner, RemoteSpawner, Delivery}
use Rattle.world_pipes.specs.Pipes.{offered, end_of}
use Rattle.mail_world.specs.Generations.{lives_in, is_unreported}
use Rattle.mail_world.specs.World.{command_exits, most_of}
use Rattle.mail_world.specs.History.{Actor, Life, State, MayRun, IsDelivery, IsInputOf, IsLiving, IsLocalSpawner, IsSender, IsStatusOf, ComesOf, IsEnding, TenantEnds, IsFed, next_of, latest, newborn, start_of, stopped, acted, begins, disk_after, holder_after, happens, called, finished, unless_by, shut_by}
use Rattle.mail_world.specs.History.Event.{Report, Moment, Halt}
use Rattle.mail_world.specs.History.Life.{Alive, Over, Stopped}
use Rattle.mail_world.specs.Inside.{Owns, RunsAt}
use Rattle.mail_world.specs.Acting.{MayMake}
use Rattle.mail_world.specs.Readiness.{found_in}
use Rattle.call_fs.proofs.Coming.{fits_answer}
use Rattle.mail_world.proofs.Opens.{opens_by, owns_backs, closes_own, own_stays, owns_after}
use Rattle.mail_world.specs.ByKind.{BearsIn, IsAlone, IsMail}
use Rattle.mail_world.specs.Anew.{IsSameButInput, idle}
use Rattle.mail_world.specs.Pipework.{Pipe, Pipework, Slot, Tenant, Yields, fresh, given, closed, is_member, is_writer, feeder, pipework_after, with_generation}
use Rattle.mail_world.specs.Pipework.Tenant.{Runs, Remote}
use Rattle.mail_world.specs.Wired.{seat}
use Rattle.mail_world.proofs.Anew.{none_put, none_some, runs_if, no_tenant, remote_tenant}
use Rattle.mail_world.proofs.Awaiting.{ran_before}
use Rattle.mail_world.proofs.Begun.{seated_apart}
use Rattle.mail_world.proofs.Members.{contained_member, other_than}
use Rattle.mail_world.proofs.Seats.{seat_none, seat_some, same_seat}
use Rattle.mail_world.proofs.Programs.{program_uses}
use Rattle.mail_world.proofs.Worlds.{may_make}
use Rattle.mail_world.proofs.Hands.{own_after}
use Rattle.queue_law.proofs.Tests.{text_cases}
use Rattle.scenario.specs.Steps.{status_told, status_of, status_in, comes}
use Rattle.scenario.specs.Turns.{first_alive, generation_at}
use Rattle.crash_fs.specs.Answers.{IsFinite}
use Rattle.crash_fs.proofs.FiniteDisks.{finite_after, fewer_open, finite_halted}
use Rattle.scenario.proofs.LastingFiles.{AreLasting, lasting_after, lasting_halted}
use Rattle.call_fs.specs.Choices.{contents_by}
use Rattle.mail_world.proofs.Halts.{never_alive}
use Rattle.mail_world.proofs.Looks.{mapped_some}
use Rattle.scenario.proofs.StepKinds.{IsNoFile, GivesNoMail, BearsNone}

-- What is kept

-- who runs in a slot is known, is no member, and was started there as its parent starts one
pub record IsTenant (actors : List ℕ → Option Actor) (a : List ℕ) (d : ℕ) (c : List ℕ) : Type 0 where
  pub child : Actor
  pub is : actors c ≡ Some child
  pub named : is_member c ≡ false
  pub parent : Actor
  pub there : actors a ≡ Some parent
  pub bears : BearsIn parent.program d child.program

abbrev pub AreTenants : (List ℕ → Option Actor) → (List ℕ → ℕ → Option Tenant) → Type 0
AreTenants actors programs = (a : List ℕ) (d : ℕ) (c : List ℕ) → programs a d ≡ Some (Runs c) → IsTenant actors a d c

-- who hasn't started is nobody's child, and was given nothing
abbrev pub AreNew : (List ℕ → Option Actor) → Pipework → Type 0
AreNew actors w = (b : List ℕ) → actors b ≡ None → is_member b ≡ false → (w.slots b ≡ None) × (w.pipes b port.Input ≡ fresh)

pub record Carries (s : State) : Type 0 where
  pub finite : IsFinite s.disk
  pub lasting : AreLasting s.disk
  pub owns : (a : List ℕ) (x : Actor) → s.actors a ≡ Some x → x.life ≡ Alive → Owns s.disk s.holder a (held x.past)
  pub runs : (a : List ℕ) (x : Actor) → s.actors a ≡ Some x → IsRunBy (next_of x.program) x.past
  pub in_order : (a : List ℕ) (x : Actor) → s.actors a ≡ Some x → latest x.program x.past ≤ s.now
  pub kinds : (a : List ℕ) (x : Actor) → s.actors a ≡ Some x → RunsAt (seat a) x.program
  pub names : (a : List ℕ) (x : Actor) → s.actors a ≡ Some x → IsDelivery x.program → (k : ℕ) × (a ≡ delivery_name k)
  pub children : AreTenants s.actors s.pipework.programs
  pub new : AreNew s.actors s.pipework

-- a delivery has a name of its kind
abbrev pub IsNamedAs : List ℕ → Actor → Type 0
IsNamedAs a x = IsDelivery x.program → (k : ℕ) × (a ≡ delivery_name k)

unless_was : {X : Type 0} (a : List ℕ) (o : Option (List ℕ)) (file : Option X) (x : X) → unless_by a o file ≡ Some x
    → file ≡ Some x
unless_was a None file x is = is
unless_was a (Some b) file x is =
    elim (bytes_eq b a) as (λ (t : Bool). (if t then None else file) ≡ Some x → file ≡ Some x) [
      | true ↦ λ e. absurd (cc)
      | false ↦ λ e. e
    ] is

-- an end leaves finitely many open
finite_shut : (a : List ℕ) (holder : ℕ → Option (List ℕ)) (d : Disk) → IsFinite d → IsFinite (shut_by a holder d)
finite_shut a holder d f =
    fewer_open d (λ fd. unless_by a (holder fd) (d.opens fd)) (λ fd o is. unless_was a (holder fd) (d.opens fd) o is) f

-- An actor that was put at a name, or another one.
pub put_actor : (actors : List ℕ → Option Actor) (a b : List ℕ) (x y : Actor) → put_at actors a (Some x) b ≡ Some y
    → ((b ≡ a) × (x ≡ y)) ⊎ ((b ≢ a) × (actors b ≡ Some y))
put_actor actors a b x y is = ⊎_elim
    (λ h. inl (h.0, let both : ◌≡◌ {A = Option Actor} (Some x) (Some y) = sym h.1 ∙ is in cc))
    (λ h. inr (h.0, sym h.1 ∙ is))
    (put_at_cases actors a (Some x) b)

-- what holds of each actor that was there, and of the one that took a place, holds of each
put_holds : (P : Actor → Type 0) (actors : List ℕ → Option Actor) (a b : List ℕ) (x y : Actor) → put_at actors a (Some x) b ≡ Some y → P x → (actors b ≡ Some y → P y) → P y
put_holds P actors a b x y here mine old = ⊎_elim (λ h. subst P h.1 mine) (λ h. old h.1) (put_actor actors a b x y here)

-- the same, of what holds of an actor with its name
put_named : (P : List ℕ → Actor → Type 0) (actors : List ℕ → Option Actor) (a b : List ℕ) (x y : Actor) → put_at actors a (Some x) b ≡ Some y → P a x → (actors b ≡ Some y → P b y) → P b y
put_named P actors a b x y here mine old = ⊎_elim
    (λ h. subst (λ (q : List ℕ). P q y) (sym h.0) (subst (P a) h.1 mine))
    (λ h. old h.1)
    (put_actor actors a b x y here)

-- Who runs in whose slots, as actors change

some_one : (x y : Actor) → ◌≡◌ {A = Option Actor} (Some x) (Some y) → x ≡ y
some_one x y e = cc

put_same : (actors : List ℕ → Option Actor) (a b : List ℕ) (x y z : Actor) → actors a ≡ Some x → y.program ≡ x.program → actors b ≡ Some z
    → (w : Actor) × (put_at actors a (Some y) b ≡ Some w) × (w.program ≡ z.program)
put_same actors a b x y z is same there = ⊎_elim
    (λ h. (y, h.1, same ∙ ap (λ (v : Actor). v.program) (some_one x z (sym is ∙ ap actors (sym h.0) ∙ there))))
    (λ h. (z, h.1 ∙ there, refl))
    (put_at_cases actors a (Some y) b)

-- one goes on with its program
tenants_put : (actors : List ℕ → Option Actor) (programs : List ℕ → ℕ → Option Tenant) (a : List ℕ) (x y : Actor) → actors a ≡ Some x → y.program ≡ x.program → AreTenants actors programs
    → AreTenants (put_at actors a (Some y)) programs
tenants_put actors programs a x y is same tenants b d c runs =
    let t = tenants b d c runs in
    let child = put_same actors a c x y t.child is same t.is in
    let parent = put_same actors a b x y t.parent is same t.there in
    record {
      child = child.0;
      is = child.1;
      named = t.named;
      parent = parent.0;
      there = parent.1;
      bears = subst (λ (p : Program). BearsIn p d child.0.program) (sym parent.2) (subst (BearsIn t.parent.program d) (sym child.2) t.bears);
    }

-- another one takes a name
pub tenants_far : (actors : List ℕ → Option Actor) (programs : List ℕ → ℕ → Option Tenant) (a : List ℕ) (y : Actor)
    → ((b : List ℕ) (d : ℕ) (c : List ℕ) → programs b d ≡ Some (Runs c) → (b ≢ a) × (c ≢ a)) → AreTenants actors programs → AreTenants (put_at actors a (Some y)) programs
tenants_far actors programs a y far tenants b d c runs =
    let t = tenants b d c runs in
    let other = far b d c runs in
    record {
      child = t.child;
      is = put_at_other actors a (Some y) c other.1 ∙ t.is;
      named = t.named;
      parent = t.parent;
      there = put_at_other actors a (Some y) b other.0 ∙ t.there;
      bears = t.bears;
    }

-- that nobody had
pub unknown_far : (actors : List ℕ → Option Actor) (programs : List ℕ → ℕ → Option Tenant) (a : List ℕ) → actors a ≡ None → AreTenants actors programs
    → (b : List ℕ) (d : ℕ) (c : List ℕ) → programs b d ≡ Some (Runs c) → (b ≢ a) × (c ≢ a)
unknown_far actors programs a none tenants b d c runs =
    let t = tenants b d c runs in
    (λ e. none_some (actors a) t.parent none (ap actors (sym e) ∙ t.there), λ e. none_some (actors a) t.child none (ap actors (sym e) ∙ t.is))

module _ (s : State) (a : List ℕ) (x : Actor) (carries : Carries s) (is : s.actors a ≡ Some x) where
  -- what is due uses what is held
  due_uses : UsesHeld (held x.past) (next_of x.program x.past s.now (found_in s a))
  due_uses = program_uses x.program x.past s.now (found_in s a) (carries.runs a x is)

  -- so it may be made
  pub due_may : x.life ≡ Alive → MayMake s.disk (next_of x.program x.past s.now (found_in s a))
  due_may alive =
      may_make s.disk (held x.past) (next_of x.program x.past s.now (found_in s a))
      (owns_backs s.disk s.holder a (held x.past) (carries.owns a x is alive)) due_uses

  pub called_carries : (c : CallData) (got : Told) → x.life ≡ Alive → next_of x.program x.past s.now (found_in s a) ≡ needs.File c
      → Fits s.disk c got.answer 0 → Carries (called s a s.now (found_in s a) c got 0 (Some x))
  called_carries c got alive due fits =
      let t = called s a s.now (found_in s a) c got 0 (Some x) in
      let own : Own = record { read = s.now; ready = found_in s a; due = needs.File c; came = Answered got } in
      let now : Actor = record { program = x.program; past = own ∷ x.past; life = x.life } in
      let opens = opens_by s.disk s.now c got.answer 0 s.holder a fits in
      let mine = carries.owns a x is alive in
      let closes = closes_own s.disk s.holder a (held x.past) c mine (subst (UsesHeld (held x.past)) due due_uses) in
      let owned : Owns t.disk t.holder a (held now.past) = owns_after s.disk t.disk s.holder t.holder a c got.answer (held x.past) opens mine in
      record {
        finite = finite_after s.disk s.now c got.answer 0 carries.finite;
        lasting = lasting_after s.disk s.now c got.answer carries.lasting;
        owns = λ b y here lives. ⊎_elim
            (λ h.
            subst (λ (q : List ℕ). Owns t.disk t.holder q (held y.past)) (sym h.0)
            (subst (λ (z : Actor). Owns t.disk t.holder a (held z.past)) h.1 owned))
            (λ h fd mode at. own_stays s.disk t.disk s.holder t.holder a b c got.answer fd mode opens closes h.0 (carries.owns b y h.1 lives fd mode at))
            (put_actor s.actors a b now y here);
        runs = λ b y here. put_holds (λ (z : Actor). IsRunBy (next_of z.program) z.past) s.actors a b now y here
            (carries.runs a x is, (due, fits_answer s.disk c got.answer 0 fits))
            (λ old. carries.runs b y old);
        in_order = λ b y here. put_holds (λ (z : Actor). latest z.program z.past ≤ s.now) s.actors a b now y here
            (omega arith)
            (λ old. carries.in_order b y old);
        kinds = λ b y here. put_named (λ (q : List ℕ) (z : Actor). RunsAt (seat q) z.program) s.actors a b now y here (carries.kinds a x is) (carries.kinds b y);
        names = λ b y here. put_named IsNamedAs s.actors a b now y here (carries.names a x is) (carries.names b y);
        children = tenants_put s.actors s.pipework.programs a x now is refl carries.children;
        new = λ b none. carries.new b (none_put s.actors a now b none);
      }

-- who is nobody's child has no writer
no_writer : (w : Pipework) (a b : List ℕ) → is_member b ≡ false → w.slots b ≡ None → is_writer a (feeder w b) ≡ false
no_writer w a b named none =
    ap (λ (t : Bool). is_writer a (if t then Some (codes "sender") else option_map (λ slot. slot.parent) (w.slots b))) named
    ∙ ap (λ (o : Option Slot). is_writer a (option_map (λ slot. slot.parent) o)) none

pub finished_carries : (s : State) (a : List ℕ) (x : Actor) (life : Life) → life ≢ Alive → Carries s → s.actors a ≡ Some x
    → Carries (finished s a life (Some x))
finished_carries s a x life over carries is =
    let gone : Actor = record { program = x.program; past = x.past; life = life } in
    record {
      finite = finite_shut a s.holder s.disk carries.finite;
      lasting = carries.lasting;
      owns = λ b y here lives. ⊎_elim
          (λ h. absurd (over (ap (λ (z : Actor). z.life) h.1 ∙ lives)))
          (λ h fd mode at. own_after s.disk s.holder a b fd mode h.0 (carries.owns b y h.1 lives fd mode at))
          (put_actor s.actors a b gone y here);
      runs = λ b y here. put_holds (λ (z : Actor). IsRunBy (next_of z.program) z.past) s.actors a b gone y here
          (carries.runs a x is)
          (λ old. carries.runs b y old);
      in_order = λ b y here. put_holds (λ (z : Actor). latest z.program z.past ≤ s.now) s.actors a b gone y here
          (carries.in_order a x is)
          (λ old. carries.in_order b y old);
      kinds = λ b y here. put_named (λ (q : List ℕ) (z : Actor). RunsAt (seat q) z.program) s.actors a b gone y here (carries.kinds a x is) (carries.kinds b y);
      names = λ b y here. put_named IsNamedAs s.actors a b gone y here (carries.names a x is) (carries.names b y);
      children = tenants_put s.actors s.pipework.programs a x gone is refl carries.children;
      new = λ b none named.
          let old = carries.new b (none_put s.actors a gone b none) named in
          (old.0, ap (λ (t : Bool). if t then closed (s.pipework.pipes b port.Input) else s.pipework.pipes b port.Input) (no_writer s.pipework a b named old.0) ∙ old.1);
    }

pub begins_carries : (s : State) (a : List ℕ) (program : Program) (pipework : Pipework) → start_of program ≤ s.now → RunsAt (seat a) program → IsNamedAs a (newborn program)
    → AreTenants (put_at s.actors a (Some (newborn program))) pipework.programs → AreNew (put_at s.actors a (Some (newborn program))) pipework → Carries s → Carries (begins s a program pipework)
begins_carries s a program pipework begun kind named children new carries =
    let one : Actor = record { program = program; past = []; life = Alive } in
    record {
      finite = carries.finite;
      lasting = carries.lasting;
      owns = λ b y here lives. ⊎_elim
          (λ h. subst (λ (z : Actor). Owns s.disk s.holder b (held z.past)) h.1 (λ fd mode at. absurd (cc)))
          (λ h. carries.owns b y h.1 lives)
          (put_actor s.actors a b one y here);
      runs = λ b y here. put_holds (λ (z : Actor). IsRunBy (next_of z.program) z.past) s.actors a b one y here
          tt
          (λ old. carries.runs b y old);
      in_order = λ b y here. put_holds (λ (z : Actor). latest z.program z.past ≤ s.now) s.actors a b one y here
          begun
          (λ old. carries.in_order b y old);
      kinds = λ b y here. put_named (λ (q : List ℕ) (z : Actor). RunsAt (seat q) z.program) s.actors a b one y here kind (carries.kinds b y);
      names = λ b y here. put_named IsNamedAs s.actors a b one y here named (carries.names b y);
      children = children;
      new = new;
    }

-- with the same pipes
pub starts_carries : (s : State) (a : List ℕ) (program : Program) → start_of program ≤ s.now → RunsAt (seat a) program → IsNamedAs a (newborn program)
    → ((b : List ℕ) (d : ℕ) (c : List ℕ) → s.pipework.programs b d ≡ Some (Runs c) → (b ≢ a) × (c ≢ a)) → Carries s → Carries (begins s a program s.pipework)
starts_carries s a program begun kind named far carries =
    begins_carries s a program s.pipework begun kind named (tenants_far s.actors s.pipework.programs a (newborn program) far carries.children)
    (λ b none. carries.new b (none_put s.actors a (newborn program) b none)) carries

-- A state in which one actor, who has done nothing, runs another injector

-- a mail runs alone, and is no delivery
pub mail_alone : (program : Program) → IsMail program → IsAlone program
mail_alone (Injector args) mail = tt
mail_alone other mail = absurd mail

pub mail_no_delivery : (program : Program) → IsMail program → IsDelivery program → ⊥
mail_no_delivery (Injector args) mail delivers = delivers
mail_no_delivery other mail delivers = mail

-- an injector bears none, and is borne as any other one
mail_bears_none : (p : Program) (d : ℕ) (child : Program) → IsMail p → BearsIn p d child → ⊥
mail_bears_none (Injector args) d child mail bears = bears
mail_bears_none other d child mail bears = absurd mail

bears_mail : (parent : Program) (d : ℕ) (p q : Program) → IsMail p → IsMail q → BearsIn parent d p → BearsIn parent d q
bears_mail (Sender start) d p q mail same bears = (bears.0, same)
bears_mail (Delivery start args) d p q mail same bears = (bears.0, same)
bears_mail (LocalSpawner start) d (Injector args) q mail same bears = absurd bears
bears_mail (LocalSpawner start) d other q mail same bears = absurd mail
bears_mail (Injector args) d p q mail same bears = absurd bears
bears_mail (Cleaner start) d p q mail same bears = absurd bears
bears_mail (RemoteSpawner start) d p q mail same bears = absurd bears

same_mail : (p q : Program) → IsSameButInput p q → IsMail p × IsMail q
same_mail (Injector args) (Injector other) same = (tt, tt)
same_mail p q same = absurd same

begun_then : (p q : Program) (now : ℕ) → IsSameButInput p q → start_of p ≤ now → start_of q ≤ now
begun_then (Injector args) (Injector other) now same begun = let at = same.start_is in omega (arith, at, begun)
begun_then p q now same begun = absurd same

module _ (s : State) (m : List ℕ → Option Actor) (c : List ℕ) (p q : Program) (life : Life) (same : IsSameButInput p q) (mail : IsMail q) (named : is_member c ≡ false)
    (others : (a : List ℕ) → a ≢ c → m a ≡ s.actors a) (was : s.actors c ≡ Some (idle p life)) (is : m c ≡ Some (idle q life)) (carries : Carries s) where
  -- what holds of that one, and of each other one, holds of each
  holds_but : (P : List ℕ → Actor → Type 0) (b : List ℕ) (x : Actor) → m b ≡ Some x → P c (idle q life) → (s.actors b ≡ Some x → P b x) → P b x
  holds_but P b x here mine old = ⊎_elim
      (λ (h : (b ≡ c) × (bytes_eq b c ≡ true)).
      let both : ◌≡◌ {A = Option Actor} (Some (idle q life)) (Some x) = sym is ∙ (sym (ap m h.0) ∙ here) in
      let one : idle q life ≡ x = cc in
      subst (λ (b : List ℕ). P b x) (sym h.0) (subst (P c) one mine))
      (λ (h : (b ≢ c) × (bytes_eq b c ≡ false)). old (sym (others b h.0) ∙ here))
      (text_cases b c)

  -- who runs in a slot runs there still
  other_tenant : (b : List ℕ) (d : ℕ) (e : List ℕ) → IsTenant s.actors b d e → IsTenant m b d e
  other_tenant b d e t =
      let both = same_mail p q same in
      let far : b ≢ c = λ f.
      let one : t.parent ≡ idle p life = some_one t.parent (idle p life) (sym t.there ∙ ap s.actors f ∙ was) in
      mail_bears_none p d t.child.program both.0 (subst (λ (z : Actor). BearsIn z.program d t.child.program) one t.bears) in
      ⊎_elim
      (λ (h : (e ≡ c) × (bytes_eq e c ≡ true)).
      let one : t.child ≡ idle p life = some_one t.child (idle p life) (sym t.is ∙ ap s.actors h.0 ∙ was) in
      record {
        child = idle q life;
        is = ap m h.0 ∙ is;
        named = t.named;
        parent = t.parent;
        there = others b far ∙ t.there;
        bears = bears_mail t.parent.program d p q both.0 mail (subst (λ (z : Actor). BearsIn t.parent.program d z.program) one t.bears);
      })
      (λ (h : (e ≢ c) × (bytes_eq e c ≡ false)).
      record { child = t.child; is = others e h.0 ∙ t.is; named = t.named; parent = t.parent; there = others b far ∙ t.there; bears = t.bears })
      (text_cases e c)

  pub other_carries : Carries (record { disk = s.disk; holder = s.holder; now = s.now; actors = m; books = s.books; pipework = s.pipework })
  other_carries = record {
    finite = carries.finite;
    lasting = carries.lasting;
    owns = λ b y here. holds_but (λ (b : List ℕ) (z : Actor). z.life ≡ Alive → Owns s.disk s.holder b (held z.past)) b y here (λ alive fd mode at. absurd (cc)) (carries.owns b y);
    runs = λ b y here. holds_but (λ (b : List ℕ) (z : Actor). IsRunBy (next_of z.program) z.past) b y here tt (carries.runs b y);
    in_order = λ b y here. holds_but (λ (b : List ℕ) (z : Actor). latest z.program z.past ≤ s.now) b y here (begun_then p q s.now same (carries.in_order c (idle p life) was)) (carries.in_order b y);
    kinds = λ b y here. holds_but (λ (b : List ℕ) (z : Actor). RunsAt (seat b) z.program) b y here (subst (λ (o : Option ℕ). RunsAt o q) (sym (seat_none c named)) (mail_alone q mail)) (carries.kinds b y);
    names = λ b y here. holds_but IsNamedAs b y here (λ delivers. absurd (mail_no_delivery q mail delivers)) (carries.names b y);
    children = λ b d e runs. other_tenant b d e (carries.children b d e runs);
    new = λ b none. carries.new b (⊎_elim
        (λ (h : (b ≡ c) × (bytes_eq b c ≡ true)). let both : ◌≡◌ {A = Option Actor} None (Some (idle q life)) = sym none ∙ (ap m h.0 ∙ is) in absurd (cc))
        (λ (h : (b ≢ c) × (bytes_eq b c ≡ false)). sym (others b h.0) ∙ none)
        (text_cases b c));
  }

-- What comes of a taking, a giving or a start

-- the first bytes of some are some
some_first : (most : ℕ) (bytes : List ℕ) → 0 < most → (length bytes == 0) ≡ false → take most bytes ≢ []
some_first zero bytes more some e = absurd (omega arith)
some_first (suc most) [] more some e = false≢true (sym some)
some_first (suc most) (b ∷ bytes) more some e = absurd (cc)

no_bytes : (bytes : List ℕ) → (length bytes == 0) ≡ true → bytes ≡ []
no_bytes [] e = refl
no_bytes (b ∷ bytes) e = (let empty = eqb-true (length (b ∷ bytes)) 0 e in absurd (omega (arith, empty)))

-- what is offered of a pipe, it yields
record IsOffered (p : Port) (pipe : Pipe) (came : GotData) : Type 0 where
  yields : Yields pipe came
  taken : IsTaken p came

end_offered : (p : Port) (pipe : Pipe) (came : GotData) (shut : Bool) → pipe.shut ≡ shut → pipe.bytes ≡ [] → end_of shut ≡ Some came → IsTaken p Ends → IsOffered p pipe came
end_offered p pipe came true is none e ends =
    let same : Ends ≡ came = cc in
    record { yields = subst (Yields pipe) same (none, is); taken = subst (IsTaken p) same ends }
end_offered p pipe came false is none e ends = absurd (cc)

bytes_offered : (p : Port) (most : ℕ) (pipe : Pipe) (came : GotData) (none : Bool) → 0 < most → (length pipe.bytes == 0) ≡ none
    → (if none then end_of pipe.shut else Some (Took (take most pipe.bytes))) ≡ Some came → ((bytes : List ℕ) → IsTaken p (Took bytes)) → IsTaken p Ends → IsOffered p pipe came
bytes_offered p most pipe came true more is e took ends = end_offered p pipe came pipe.shut refl (no_bytes pipe.bytes is) e ends
bytes_offered p most pipe came false more is e took ends =
    let first = take most pipe.bytes in
    let same : Took first ≡ came = cc in
    record {
      yields = subst (Yields pipe) same (some_first most pipe.bytes more is, (drop most pipe.bytes, sym (take-append-drop most pipe.bytes)));
      taken = subst (IsTaken p) same (took first);
    }

all_offered : (p : Port) (most : ℕ) (pipe : Pipe) (came : GotData) → 0 < most → offered most pipe ≡ Some came → ((bytes : List ℕ) → IsTaken p (Took bytes)) → IsTaken p Ends → IsOffered p pipe came
all_offered p most pipe came more e took ends = bytes_offered p most pipe came (length pipe.bytes == 0) more refl e took ends

some_most : (program : Program) → 0 < most_of program
some_most (Cleaner start) = omega arith
some_most other = omega arith

-- so it may come, and is of the kind of what was due
pub record Comes (s : State) (a : List ℕ) (due : NeedData) (came : GotData) : Type 0 where
  pub of : ComesOf s a due came 0
  pub may : MayCome due came

status_life : (slot : ℕ) (life : Life) (came : GotData) → status_told life ≡ Some came → IsStatusOf life came × IsTaken (port.Status slot) came
status_life slot Alive came e = absurd (cc)
status_life slot (Over status) came e = let same : Ended status ≡ came = cc in (sym same, subst (IsTaken (port.Status slot)) same tt)
status_life slot Stopped came e = let same : Crashed ≡ came = cc in (sym same, subst (IsTaken (port.Status slot)) same tt)

status_actor : (s : State) (slot : ℕ) (b : List ℕ) (o : Option Actor) (came : GotData) → s.actors b ≡ o → status_of o ≡ Some came → TenantEnds s (Some (Runs b)) came × IsTaken (port.Status slot) came
status_actor s slot b None came is e = absurd (cc)
status_actor s slot b (Some x) came is e = let o = status_life slot x.life came e in ((x, is, o.0), o.1)

status_comes : (s : State) (slot : ℕ) (o : Option Tenant) (came : GotData) → status_in s o ≡ Some came → TenantEnds s o came × IsTaken (port.Status slot) came
status_comes s slot None came e = absurd (cc)
status_comes s slot (Some (Runs b)) came e = status_actor s slot b (s.actors b) came refl e
status_comes s slot (Some (Remote true)) came e = let same : Ended 0 ≡ came = cc in (subst IsEnding same (omega arith), subst (IsTaken (port.Status slot)) same tt)
status_comes s slot (Some (Remote false)) came e = absurd (cc)

-- what is given to a slot is the input of who runs there
abbrev pub IsFedBy : State → List ℕ → NeedData → Type 0
IsFedBy s a (needs.Give (port.Program d) bytes) = IsFed s (s.pipework.programs a d) bytes
IsFedBy s a due = Unit {0}

takes_any : (program : Program) (bytes : List ℕ) → IsAlone program → (IsMail program → ⊥) → IsInputOf program bytes
takes_any (Injector args) bytes alone never = absurd (never tt)
takes_any (Delivery start args) bytes alone never = tt
takes_any other bytes alone never = absurd alone

fed_slot : (s : State) (a bytes : List ℕ) (d : ℕ) (o : Option Tenant) → s.pipework.programs a d ≡ o → Carries s → GivesNoMail s a (needs.Give (port.Program d) bytes) → IsFed s o bytes
fed_slot s a bytes d None is carries never = tt
fed_slot s a bytes d (Some (Remote reported)) is carries never = tt
fed_slot s a bytes d (Some (Runs c)) is carries never = λ y there.
    let t = carries.children a d c is in
    takes_any y.program bytes (subst (λ (o : Option ℕ). RunsAt o y.program) (seat_none c t.named) (carries.kinds c y there)) (never c y is there)

pub fed_by : (s : State) (a : List ℕ) (due : NeedData) → Carries s → GivesNoMail s a due → IsFedBy s a due
fed_by s a (needs.Give (port.Program d) bytes) carries never = fed_slot s a bytes d (s.pipework.programs a d) refl carries never
fed_by s a due carries never = tt

module _ (s : State) (pid : ℕ) (a : List ℕ) (program : Program) where
  took : (p : Port) (came : GotData) → offered (most_of program) (s.pipework.pipes a p) ≡ Some came → ((bytes : List ℕ) → IsTaken p (Took bytes)) → IsTaken p Ends
      → IsOffered p (s.pipework.pipes a p) came
  took p came e bytes ends = all_offered p (most_of program) (s.pipework.pipes a p) came (some_most program) e bytes ends

  pub comes_may : (due : NeedData) (came : GotData) → comes s pid a program due ≡ Some came → BearsNone due → IsFedBy s a due → Comes s a due came
  comes_may (needs.Take port.Input) came e none fed = let o = took port.Input came e (λ bytes. tt) tt in record { of = o.yields; may = o.taken }
  comes_may (needs.Take port.Output) came e none fed = let o = took port.Output came e (λ bytes. tt) tt in record { of = o.yields; may = o.taken }
  comes_may (needs.Take port.Clean) came e none fed = let o = took port.Clean came e (λ bytes. tt) tt in record { of = o.yields; may = o.taken }
  comes_may (needs.Take port.Lspawn) came e none fed = let o = took port.Lspawn came e (λ bytes. tt) tt in record { of = o.yields; may = o.taken }
  comes_may (needs.Take port.Rspawn) came e none fed = let o = took port.Rspawn came e (λ bytes. tt) tt in record { of = o.yields; may = o.taken }
  comes_may (needs.Take port.Todo) came e none fed = let o = took port.Todo came e (λ bytes. tt) tt in record { of = o.yields; may = o.taken }
  comes_may (needs.Take (port.Program d)) came e none fed = let o = took (port.Program d) came e (λ bytes. tt) tt in record { of = o.yields; may = o.taken }
  comes_may (needs.Take (port.Status d)) came e none fed =
      let o = status_comes s d (s.pipework.programs a d) came e in record { of = inr o.0; may = o.1 }
  comes_may (needs.Give (port.Program d) bytes) came e none fed =
      let same : Gave ≡ came = cc in
      subst (Comes s a (needs.Give (port.Program d) bytes)) same (record { of = fed; may = tt })
  comes_may (needs.Give port.Input bytes) came e none fed = let same : Gave ≡ came = cc in subst (Comes s a (needs.Give port.Input bytes)) same (record { of = tt; may = tt })
  comes_may (needs.Give port.Output bytes) came e none fed = let same : Gave ≡ came = cc in subst (Comes s a (needs.Give port.Output bytes)) same (record { of = tt; may = tt })
  comes_may (needs.Give port.Clean bytes) came e none fed = let same : Gave ≡ came = cc in subst (Comes s a (needs.Give port.Clean bytes)) same (record { of = tt; may = tt })
  comes_may (needs.Give port.Lspawn bytes) came e none fed = let same : Gave ≡ came = cc in subst (Comes s a (needs.Give port.Lspawn bytes)) same (record { of = tt; may = tt })
  comes_may (needs.Give port.Rspawn bytes) came e none fed = let same : Gave ≡ came = cc in subst (Comes s a (needs.Give port.Rspawn bytes)) same (record { of = tt; may = tt })
  comes_may (needs.Give port.Todo bytes) came e none fed = let same : Gave ≡ came = cc in subst (Comes s a (needs.Give port.Todo bytes)) same (record { of = tt; may = tt })
  comes_may (needs.Give (port.Status d) bytes) came e none fed = let same : Gave ≡ came = cc in subst (Comes s a (needs.Give (port.Status d) bytes)) same (record { of = tt; may = tt })
  comes_may (needs.Start (child.Remote slot domain sender recipient)) came e none fed =
      let same : Started pid ≡ came = cc in
      subst (Comes s a (needs.Start (child.Remote slot domain sender recipient))) same (record { of = tt; may = tt })
  comes_may (needs.Start (child.Bounce room)) came e none fed = absurd none
  comes_may (needs.Start (child.Forward uid room)) came e none fed = absurd none
  comes_may (needs.Start (child.Local slot words uid)) came e none fed = absurd none
  comes_may (needs.File call) came e none fed = absurd (cc)
  comes_may (needs.Command bytes) came e none fed = let same : Ended (command_exits bytes) ≡ came = cc in subst (Comes s a (needs.Command bytes)) same (record { of = tt; may = tt })
  comes_may needs.Wait came e none fed = absurd (cc)
  comes_may (needs.Ended status) came e none fed = absurd (cc)

-- What it leaves

pub no_file_disk : (d : Disk) (read : ℕ) (due : NeedData) (came : GotData) (wrote : ℕ) → IsNoFile due → disk_after d read due came wrote ≡ d
no_file_disk d read (needs.File call) came wrote none = absurd none
no_file_disk d read due came wrote none = refl

no_file_holder : (holder : ℕ → Option (List ℕ)) (a : List ℕ) (due : NeedData) (came : GotData) → IsNoFile due → holder_after holder a due came ≡ holder
no_file_holder holder a (needs.File call) came none = absurd none
no_file_holder holder a due came none = refl

no_file_held : (before : ℕ → Option Mode) (due : NeedData) (came : GotData) → IsNoFile due → held_by before due came ≡ before
no_file_held before (needs.File call) came none = absurd none
no_file_held before due came none = refl

-- an event of an actor that calls no file and leaves the input of who hasn't started
pub passed_carries : (s : State) (a : List ℕ) (x : Actor) (ready : Ready) (due : NeedData) (came : GotData) → IsNoFile due → Carries s → s.actors a ≡ Some x → x.life ≡ Alive
    → next_of x.program x.past s.now ready ≡ due → MayCome due came
    → ((b : List ℕ) → s.actors b ≡ None → is_member b ≡ false → (pipework_after s.pipework a due came 0).pipes b port.Input ≡ s.pipework.pipes b port.Input)
    → Carries (acted s a (record { read = s.now; ready = ready; due = due; came = came }) 0 (Some x))
passed_carries s a x ready due came unfiled carries is alive next may still =
    let own : Own = record { read = s.now; ready = ready; due = due; came = came } in
    let now : Actor = record { program = x.program; past = own ∷ x.past; life = x.life } in
    let t = acted s a own 0 (Some x) in
    let disk : t.disk ≡ s.disk = no_file_disk s.disk s.now due came 0 unfiled in
    let holder : t.holder ≡ s.holder = no_file_holder s.holder a due came unfiled in
    let holds : held now.past ≡ held x.past = no_file_held (held x.past) due came unfiled in
    let stays : (b : List ℕ) (past : ℕ → Option Mode) → Owns s.disk s.holder b past → Owns t.disk t.holder b past =
    λ b past owned. subst (λ (e : Disk). Owns e t.holder b past) (sym disk) (subst (λ (g : ℕ → Option (List ℕ)). Owns s.disk g b past) (sym holder) owned) in
    record {
      finite = subst IsFinite (sym disk) carries.finite;
      lasting = subst AreLasting (sym disk) carries.lasting;
      owns = λ b y here lives. ⊎_elim
          (λ h.
          subst (λ (q : List ℕ). Owns t.disk t.holder q (held y.past)) (sym h.0)
          (subst (λ (z : Actor). Owns t.disk t.holder a (held z.past)) h.1
          (subst (λ (m : ℕ → Option Mode). Owns t.disk t.holder a m) (sym holds) (stays a (held x.past) (carries.owns a x is alive)))))
          (λ h. stays b (held y.past) (carries.owns b y h.1 lives))
          (put_actor s.actors a b now y here);
      runs = λ b y here. put_holds (λ (z : Actor). IsRunBy (next_of z.program) z.past) s.actors a b now y here
          (carries.runs a x is, (next, may))
          (λ old. carries.runs b y old);
      in_order = λ b y here. put_holds (λ (z : Actor). latest z.program z.past ≤ s.now) s.actors a b now y here
          (omega arith)
          (λ old. carries.in_order b y old);
      kinds = λ b y here. put_named (λ (q : List ℕ) (z : Actor). RunsAt (seat q) z.program) s.actors a b now y here (carries.kinds a x is) (carries.kinds b y);
      names = λ b y here. put_named IsNamedAs s.actors a b now y here (carries.names a x is) (carries.names b y);
      children = λ b d c runs. tenants_put s.actors s.pipework.programs a x now is refl carries.children b d c (ran_before s.pipework a due came b d c runs);
      new = λ b none named.
          let unknown = none_put s.actors a now b none in
          let old = carries.new b unknown named in
          (old.0, still b unknown named ∙ old.1);
    }

-- a moment
pub moment_carries : (s : State) (m : ℕ) → s.now ≤ m → Carries s → Carries (happens s (Moment m))
moment_carries s m later carries = record {
  finite = carries.finite;
  lasting = carries.lasting;
  owns = carries.owns;
  runs = carries.runs;
  in_order = λ a x is. let before = carries.in_order a x is in omega arith;
  kinds = carries.kinds;
  names = carries.names;
  children = carries.children;
  new = carries.new;
}

-- a machine stop that leaves what its name says
pub halted_carries : (s : State) (how : Survival) (named : List ℕ) → Carries s → Carries (happens s (Halt how (contents_by how s.disk named)))
halted_carries s how named carries = record {
  finite = finite_halted (contents_by how s.disk named) s.disk carries.finite;
  lasting = lasting_halted (contents_by how s.disk named) s.disk;
  owns = λ a x is lives.
      let w = mapped_some stopped (s.actors a) x is in
      absurd (never_alive w.0.life (ap (λ (x : Actor). x.life) w.2 ∙ lives));
  runs = λ a x is.
      let w = mapped_some stopped (s.actors a) x is in
      subst (λ (x : Actor). IsRunBy (next_of x.program) x.past) w.2 (carries.runs a w.0 w.1);
  in_order = λ a x is.
      let w = mapped_some stopped (s.actors a) x is in
      subst (λ (x : Actor). latest x.program x.past ≤ s.now) w.2 (carries.in_order a w.0 w.1);
  kinds = λ a x is.
      let w = mapped_some stopped (s.actors a) x is in
      subst (λ (x : Actor). RunsAt (seat a) x.program) w.2 (carries.kinds a w.0 w.1);
  names = λ a x is.
      let w = mapped_some stopped (s.actors a) x is in
      subst (IsNamedAs a) w.2 (carries.names a w.0 w.1);
  children = λ a d c is. absurd (no_tenant c is);
  new = λ b none named. (refl, refl);
}

-- a generation
unless_member : (t : Bool) (o : Option Tenant) (c : List ℕ) → (if t then None else o) ≡ Some (Runs c) → t ≡ false
unless_member true o c is = absurd (no_tenant c is)
unless_member false o c is = refl

pub generation_carries : (s : State) → Carries s → Carries (happens s (generation_at s.now))
generation_carries s carries =
    let pipework = with_generation s.pipework in
    let one = begins s (codes "sender") (Sender s.now) pipework in
    let two = begins one (codes "clean") (Cleaner s.now) pipework in
    let three = begins two (codes "lspawn") (LocalSpawner s.now) pipework in
    let old : (a : List ℕ) (d : ℕ) (c : List ℕ) → pipework.programs a d ≡ Some (Runs c) → s.pipework.programs a d ≡ Some (Runs c) = λ a d c is. runs_if (is_member a) None (s.pipework.programs a d) c (no_tenant c) is in
    let far : (m : List ℕ) → is_member m ≡ true → (a : List ℕ) (d : ℕ) (c : List ℕ) → pipework.programs a d ≡ Some (Runs c) → (a ≢ m) × (c ≢ m) = λ m member a d c is. (
      other_than a m (unless_member (is_member a) (s.pipework.programs a d) c is) member,
      other_than c m (carries.children a d c (old a d c is)).named member,
    ) in
    let children : AreTenants one.actors pipework.programs = tenants_far s.actors pipework.programs (codes "sender") (newborn (Sender s.now)) (far (codes "sender") refl) (λ a d c is. carries.children a d c (old a d c is)) in
    let new : AreNew one.actors pipework = λ b none named.
    let old = carries.new b (none_put s.actors (codes "sender") (newborn (Sender s.now)) b none) named in
    (old.0, ap (λ (t : Bool). if t then fresh else s.pipework.pipes b port.Input) named ∙ old.1) in
    starts_carries three (codes "rspawn") (RemoteSpawner s.now) (omega arith) tt (λ no. absurd no) (far (codes "rspawn") refl)
    (starts_carries two (codes "lspawn") (LocalSpawner s.now) (omega arith) tt (λ no. absurd no) (far (codes "lspawn") refl)
    (starts_carries one (codes "clean") (Cleaner s.now) (omega arith) tt (λ no. absurd no) (far (codes "clean") refl)
    (begins_carries s (codes "sender") (Sender s.now) pipework (omega arith) tt (λ no. absurd no) children new carries)))

-- the report of a remote program
pub report_carries : (s : State) (slot : ℕ) (output : List ℕ) → Carries s → Carries (happens s (Report slot output))
report_carries s slot output carries = record {
  finite = carries.finite;
  lasting = carries.lasting;
  owns = carries.owns;
  runs = carries.runs;
  in_order = carries.in_order;
  kinds = carries.kinds;
  names = carries.names;
  children = λ a d c is. carries.children a d c (runs_if (bytes_eq a (codes "rspawn") && (d == slot)) (Some (Remote true)) (s.pipework.programs a d) c (remote_tenant true c) is);
  new = λ b none named.
      let old = carries.new b none named in (
        old.0,
        ap (λ (t : Bool). if t then closed (given output (s.pipework.pipes b port.Input)) else s.pipework.pipes b port.Input) (and-false (bytes_eq b (codes "rspawn"))) ∙ old.1,
      );
}

-- Members

-- a member doesn't start alone
pub member_apart : (a : List ℕ) (program : Program) → RunsAt (seat a) program → Contains members a → MayRun program → ⊥
member_apart a program runs member alone =
    let at = seat_some a (contained_member a member) in
    seated_apart at.at program (subst (λ (o : Option ℕ). RunsAt o program) at.is runs) alone

-- a sender has its name
seated_sender : (a : List ℕ) (o : Option ℕ) (program : Program) → seat a ≡ o → RunsAt o program → IsSender program → a ≡ codes "sender"
seated_sender a None (Sender start) at runs sends = absurd runs
seated_sender a (Some zero) program at runs sends = same_seat (codes "sender") a 0 refl at
seated_sender a (Some (suc zero)) (Sender start) at runs sends = absurd runs
seated_sender a (Some (suc (suc zero))) (Sender start) at runs sends = absurd runs
seated_sender a (Some (suc (suc (suc zero)))) (Sender start) at runs sends = absurd runs
seated_sender a (Some (suc (suc (suc (suc i))))) (Sender start) at runs sends = absurd runs
seated_sender a o other at runs sends = absurd sends

pub sender_named : (a : List ℕ) (program : Program) → RunsAt (seat a) program → IsSender program → a ≡ codes "sender"
sender_named a program runs sends = seated_sender a (seat a) program refl runs sends

-- and so has a local spawner
seated_spawner : (a : List ℕ) (o : Option ℕ) (program : Program) → seat a ≡ o → RunsAt o program → IsLocalSpawner program → a ≡ codes "lspawn"
seated_spawner a None (LocalSpawner start) at runs spawns = absurd runs
seated_spawner a (Some zero) (LocalSpawner start) at runs spawns = absurd runs
seated_spawner a (Some (suc zero)) (LocalSpawner start) at runs spawns = absurd runs
seated_spawner a (Some (suc (suc zero))) program at runs spawns = same_seat (codes "lspawn") a 2 refl at
seated_spawner a (Some (suc (suc (suc zero)))) (LocalSpawner start) at runs spawns = absurd runs
seated_spawner a (Some (suc (suc (suc (suc i))))) (LocalSpawner start) at runs spawns = absurd runs
seated_spawner a o other at runs spawns = absurd spawns

pub spawner_named : (a : List ℕ) (program : Program) → RunsAt (seat a) program → IsLocalSpawner program → a ≡ codes "lspawn"
spawner_named a program runs spawns = seated_spawner a (seat a) program refl runs spawns

-- a mail has no member's name
pub not_member : (a : List ℕ) → IsMailName a → ¬ (Contains members a)
not_member [] named = absurd named
not_member (first ∷ rest) named = named.3

lives_life : (program : Program) (past : List Own) (life : Life) → life ≡ Alive → lives_in (Some (record { program = program; past = past; life = life })) ≡ true
lives_life program past Alive is = refl
lives_life program past (Over status) is = absurd (cc)
lives_life program past Stopped is = absurd (cc)

pub lives_actor : (x : Actor) → x.life ≡ Alive → lives_in (Some x) ≡ true
lives_actor x is = lives_life x.program x.past x.life is

dead_life : (program : Program) (past : List Own) (life : Life) → life ≢ Alive → lives_in (Some (record { program = program; past = past; life = life })) ≡ false
dead_life program past Alive over = absurd (over refl)
dead_life program past (Over status) over = refl
dead_life program past Stopped over = refl

pub dead_actor : (x : Actor) → x.life ≢ Alive → lives_in (Some x) ≡ false
dead_actor x over = dead_life x.program x.past x.life over

pub none_alive : (s : State) (names : List (List ℕ)) → first_alive s names ≡ None → All (λ a. lives_in (s.actors a) ≡ false) names
none_alive s [] none = All-nil (λ a. lives_in (s.actors a) ≡ false)
none_alive s (a ∷ names) none = by (lives_in (s.actors a)) refl none (none_alive s names)
  where
    by : (t : Bool) → lives_in (s.actors a) ≡ t → (if t then Some a else first_alive s names) ≡ None
        → (first_alive s names ≡ None → All (λ b. lives_in (s.actors b) ≡ false) names) → All (λ b. lives_in (s.actors b) ≡ false) (a ∷ names)
    by true is none later = absurd (cc)
    by false is none later = All-cons (λ b. lives_in (s.actors b) ≡ false) a names is (later none)

pub living_in : (s : State) (a : List ℕ) (o : Option Actor) → s.actors a ≡ o → lives_in o ≡ true → IsLiving s a
living_in s a None is lives = absurd (cc)
living_in s a (Some x) is lives = by x.life refl lives
  where
    by : (life : Life) → x.life ≡ life → lives_in (Some (record { program = x.program; past = x.past; life = life })) ≡ true → IsLiving s a
    by Alive alive lives = record { actor = x; is = is; alive = alive }
    by (Over status) over lives = absurd (cc)
    by Stopped over lives = absurd (cc)

pub unreported_is : (o : Option Tenant) → is_unreported o ≡ true → o ≡ Some (Remote false)
unreported_is None e = absurd (cc)
unreported_is (Some (Runs a)) e = absurd (cc)
unreported_is (Some (Remote true)) e = absurd (cc)
unreported_is (Some (Remote false)) e = refl
