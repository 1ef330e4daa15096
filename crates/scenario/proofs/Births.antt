-- Actors that have just started an injector, and who started since then.
use Rattle.std.proofs.Common.{◌≡◌, ◌≢◌, ⊎_elim, ℕ, List, [], ◌∷◌, ◌++◌, Bool, true, false, ◌&&◌, not, if◌then◌else◌, codes, Option, Some, None, is_some, refl, sym, ap, ◌∙◌, subst, bytes_eq}
use Rattle.std.specs.Prelude.{option_map, ◌==◌}
use Rattle.std.proofs.Math.Bool.{and-false}
use Rattle.std.proofs.lemmas.Bool.{and_parts, eqb-true, false≢true}
use Rattle.call_fs.specs.Disk.{Disk}
use Rattle.call_fs.specs.declared.crash_file_system.Survival.{Survival}
use Rattle.call_fs.specs.Maps.{put_at}
use Rattle.call_fs.proofs.Maps.{put_at_same, put_at_other}
use Rattle.call_fs.specs.declared.past.NeedData.TheVariants as needs
use Rattle.call_fs.specs.declared.past.Own.{Own}
use Rattle.call_fs.specs.declared.program.Port.TheVariants as port
use Rattle.call_fs.specs.declared.program.TheConstants.{INPUT_READY}
use Rattle.call_fs.specs.declared.program.Ready.{Ready}
use Rattle.world_events.specs.Inputs.{with_texts}
use Rattle.world_events.specs.declared.event.Program.{Program}
use Rattle.world_events.specs.declared.event.Program.TheVariants.{Injector}
use Rattle.mail_world.specs.Anew.{IsSameButInput, IsApart, AreApart, idle, AreAlikeBut}
use Rattle.mail_world.specs.ByKind.{IsMail}
use Rattle.mail_world.specs.History.{Event, Actor, Life, State, Legal, acted, bears, finished, happens, newborn, next_of, slot_by, stopped}
use Rattle.mail_world.specs.History.{after as after_events}
use Rattle.mail_world.specs.History.Event.{Start, Act, Child, Generation, Report, End, Stop, Moment, Halt}
use Rattle.mail_world.specs.History.Life.{Alive, Over, Stopped}
use Rattle.mail_world.specs.Inside.{IsBirth, HasBorneLast}
use Rattle.mail_world.specs.Pipework.{Pipe, Pipework, Slot, Tenant, fresh, closed, is_member, is_ready, is_writer, feeder, pipework_after, with_child}
use Rattle.mail_world.specs.Pipework.Tenant.{Runs, Remote}
use Rattle.mail_world.specs.Readiness.{input_alone, is_awaiting, found_at, found_by, found_in}
use Rattle.mail_world.specs.World.{begun_with}
use Rattle.mail_world.proofs.Anew.{some_is, none_some, begin_anew, remote_tenant}
use Rattle.mail_world.proofs.Awaiting.{awaits_same, report_awaits, runs_still}
use Rattle.mail_world.proofs.Halts.{never_alive}
use Rattle.mail_world.proofs.Histories.{legal_by, legal_opens, legal_allowed}
use Rattle.mail_world.proofs.Looks.{mapped_some}
use Rattle.mail_world.proofs.Members.{whether, crew_other, four_new, four_other}
use Rattle.queue_law.proofs.Tests.{same_text, other_text, text_cases}
use Rattle.scenario.proofs.Carried.{put_actor}
use Rattle.scenario.proofs.GivenInputs.{GivesNot, input_not}

-- Who hasn't started

-- an event starts no actor of this name
abbrev pub StartsNot : List ℕ → Event → Type 0
StartsNot b (Start a program) = b ≢ a
StartsNot b (Child parent own a program) = b ≢ a
StartsNot b (Generation crew) = is_member b ≡ false
StartsNot b other = Unit {0}

put_not : (actors : List ℕ → Option Actor) (a b : List ℕ) (x y : Actor) → actors a ≡ Some x → actors b ≡ None → put_at actors a (Some y) b ≡ None
put_not actors a b x y is none = put_at_other actors a (Some y) b (λ e. none_some (actors b) x none (ap actors e ∙ is)) ∙ none

acted_not : (s : State) (a : List ℕ) (own : Own) (wrote : ℕ) (o : Option Actor) (b : List ℕ) → s.actors a ≡ o → s.actors b ≡ None → (acted s a own wrote o).actors b ≡ None
acted_not s a own wrote None b is none = none
acted_not s a own wrote (Some x) b is none = put_not s.actors a b x (record { program = x.program; past = own ∷ x.past; life = x.life }) is none

finished_not : (s : State) (a : List ℕ) (life : Life) (o : Option Actor) (b : List ℕ) → s.actors a ≡ o → s.actors b ≡ None → (finished s a life o).actors b ≡ None
finished_not s a life None b is none = none
finished_not s a life (Some x) b is none = put_not s.actors a b x (record { program = x.program; past = x.past; life = life }) is none

-- so nobody has it still
pub still_none : (s : State) (e : Event) (b : List ℕ) → StartsNot b e → s.actors b ≡ None → (happens s e).actors b ≡ None
still_none s (Start a program) b other none = put_at_other s.actors a (Some (newborn program)) b other ∙ none
still_none s (Act a own wrote) b other none = acted_not s a own wrote (s.actors a) b refl none
still_none s (Child parent own a program) b other none =
    let before = acted s parent own 0 (s.actors parent) in
    put_at_other before.actors a (Some (newborn program)) b other ∙ acted_not s parent own 0 (s.actors parent) b refl none
still_none s (Generation crew) b other none = crew_other s.actors crew b other ∙ none
still_none s (Report slot output) b other none = none
still_none s (End a read ready status) b other none = finished_not s a (Over status) (s.actors a) b refl none
still_none s (Stop a) b other none = finished_not s a Stopped (s.actors a) b refl none
still_none s (Moment m) b other none = none
still_none s (Halt how contents) b other none = ap (option_map stopped) none

-- A parent's child, to which it has given nothing

-- an event that is neither the parent's own nor its child's
abbrev pub IsBeside : List ℕ → List ℕ → Event → Type 0
IsBeside p c (Act a own wrote) = (a ≢ p) × (a ≢ c)
IsBeside p c (Child a own b program) = (a ≢ p) × ((a ≢ c) × (b ≢ c))
IsBeside p c (End a read ready status) = a ≢ c
IsBeside p c other = Unit {0}

abbrev pub AreBeside : List ℕ → List ℕ → List Event → Type 0
AreBeside p c [] = Unit {0}
AreBeside p c (e ∷ later) = IsBeside p c e × AreBeside p c later

-- the child of that parent has just started, and awaits its input
pub record HasBegun (s : State) (h : List Event) (p : List ℕ) : Type 0 where
  pub child : List ℕ
  pub own : Own
  pub program : Program
  pub later : List Event
  pub before : List Event
  pub are : h ≡ later ++ Child p own child program ∷ before
  pub beside : AreBeside p child later
  pub mail : IsMail program
  pub named : is_member child ≡ false
  pub runs : s.pipework.programs p 0 ≡ Some (Runs child)
  pub slot : s.pipework.slots child ≡ Some (record { parent = p; number = 0 })
  pub awaits : is_awaiting s child ≡ true

-- each living actor that has just started one has such a child
abbrev pub BegunIf : State → List Event → Type 0
BegunIf s h = (p : List ℕ) (x : Actor) → s.actors p ≡ Some x → x.life ≡ Alive → HasBorneLast x.past → HasBegun s h p

-- another input in its start

one_apart : (p c : List ℕ) (e : Event) → IsBeside p c e → IsApart p c e
one_apart p c (Act a own wrote) beside = beside
one_apart p c (Child a own b program) beside = (beside.0, beside.1.0)
one_apart p c (End a read ready status) beside = beside
one_apart p c (Start a program) beside = tt
one_apart p c (Generation crew) beside = tt
one_apart p c (Report slot output) beside = tt
one_apart p c (Stop a) beside = tt
one_apart p c (Moment m) beside = tt
one_apart p c (Halt how contents) beside = tt

are_apart : (p c : List ℕ) (later : List Event) → AreBeside p c later → AreApart p c later
are_apart p c [] beside = tt
are_apart p c (e ∷ later) beside = (one_apart p c e beside.0, are_apart p c later beside.1)

module _ (c message envelope : List ℕ) where
  begun_other : (a : List ℕ) (own : Own) (b : List ℕ) (program : Program) (h : List Event) → b ≢ c → begun_with c message envelope (Child a own b program ∷ h) ≡ Child a own b program ∷ begun_with c message envelope h
  begun_other a own b program h far =
      ap (λ (t : Bool). if t then (Child a own b (with_texts message envelope program)) ∷ h else (Child a own b program ∷ begun_with c message envelope h)) (other_text b c far)

  begun_one : (p : List ℕ) (e : Event) (h : List Event) → IsBeside p c e → begun_with c message envelope (e ∷ h) ≡ e ∷ begun_with c message envelope h
  begun_one p (Child a own b program) h beside = begun_other a own b program h beside.1.1
  begun_one p other h beside = refl

  begun_beside : (p : List ℕ) (own : Own) (program : Program) (later before : List Event) → AreBeside p c later
      → begun_with c message envelope (later ++ Child p own c program ∷ before) ≡ later ++ Child p own c (with_texts message envelope program) ∷ before
  begun_beside p own program [] before beside =
      ap (λ (t : Bool). if t then (Child p own c (with_texts message envelope program)) ∷ before else (Child p own c program ∷ begun_with c message envelope before)) (same_text c)
  begun_beside p own program (e ∷ later) before beside =
      begun_one p e (later ++ Child p own c program ∷ before) beside.0 ∙ ap (λ (h : List Event). e ∷ h) (begun_beside p own program later before beside.1)

pub texts_same : (message envelope : List ℕ) (program : Program) → IsMail program → IsSameButInput program (with_texts message envelope program)
texts_same message envelope (Injector args) mail = record { uid_is = refl; pid_is = refl; invoked_is = refl; start_is = refl }
texts_same message envelope other mail = absurd mail

-- each event might happen when it did all the same
pub begins_so : (d : Disk) (h : List Event) (p message envelope : List ℕ) → Legal d h → (b : HasBegun (after_events d h) h p)
    → Legal d (begun_with b.child message envelope h)
    × AreAlikeBut b.child b.program (with_texts message envelope b.program) (after_events d h) (after_events d (begun_with b.child message envelope h))
begins_so d h p message envelope legal b =
    let c = b.child in
    let other = with_texts message envelope b.program in
    let old : List Event = b.later ++ Child p b.own c b.program ∷ b.before in
    let new : List Event = b.later ++ Child p b.own c other ∷ b.before in
    let is : begun_with c message envelope h ≡ new = ap (begun_with c message envelope) b.are ∙ begun_beside c message envelope p b.own b.program b.later b.before b.beside in
    let all = begin_anew d b.later b.before p c b.own b.program other (texts_same message envelope b.program b.mail) (are_apart p c b.later b.beside)
    (legal_allowed d old (subst (Legal d) b.are legal)) in (
      subst (Legal d) (sym is) (legal_by d new (legal_opens d h legal) all.0),
      subst (λ (l : List Event). AreAlikeBut c b.program other (after_events d h) (after_events d l)) (sym is)
          (subst (λ (l : List Event). AreAlikeBut c b.program other (after_events d l) (after_events d new)) (sym b.are) all.1),
    )

-- It waits

waits_idle : (s : State) (c : List ℕ) (program : Program) (now : ℕ) → IsMail program → is_awaiting s c ≡ true → next_of program [] now (found_by s c program) ≡ needs.Wait
waits_idle s c (Injector args) now mail awaits = ap (λ (t : Bool). next_of (Injector args) [] now (if t then input_alone false else INPUT_READY)) awaits
waits_idle s c other now mail awaits = absurd mail

-- so who does something is another actor
pub not_child : (d : Disk) (h : List Event) (a : List ℕ) (x : Actor) → Legal d h → (after_events d h).actors a ≡ Some x
    → (next_of x.program x.past (after_events d h).now (found_in (after_events d h) a) ≡ needs.Wait → ⊥) → (p : List ℕ) (b : HasBegun (after_events d h) h p) → a ≢ b.child
not_child d h a x legal is acts p b same =
    let s = after_events d h in
    let alike = (begins_so d h p [] [] legal b).1 in
    let there : s.actors a ≡ Some (idle b.program alike.life) = ap s.actors same ∙ alike.was in
    let one : x ≡ idle b.program alike.life = some_is x (idle b.program alike.life) (sym is ∙ there) in
    let found : found_in s a ≡ found_by s a b.program = ap (found_at s a) there in
    acts
    (ap (λ (x : Actor). next_of x.program x.past s.now (found_in s a)) one
    ∙ (ap (λ (ready : Ready). next_of b.program [] s.now ready) found
    ∙ waits_idle s a b.program s.now b.mail (ap (is_awaiting s) same ∙ b.awaits)))

-- two parents have two children
one_slot : (x y : Slot) → ◌≡◌ {A = Option Slot} (Some x) (Some y) → x ≡ y
one_slot x y e = cc

pub apart_children : (s : State) (h : List Event) (p q : List ℕ) (b : HasBegun s h p) (e : HasBegun s h q) → q ≢ p → e.child ≢ b.child
apart_children s h p q b e far same =
    let one : ◌≡◌ {A = Option Slot} (Some (record { parent = q; number = 0 })) (Some (record { parent = p; number = 0 })) = sym e.slot ∙ ap s.pipework.slots same ∙ b.slot in
    far (ap (λ (slot : Slot). slot.parent) (one_slot (record { parent = q; number = 0 }) (record { parent = p; number = 0 }) one))

-- It stands so after one event more that is neither its own nor its parent's

begun_more : (s t : State) (h : List Event) (e : Event) (p : List ℕ) (b : HasBegun s h p) → IsBeside p b.child e → t.pipework.programs p 0 ≡ s.pipework.programs p 0
    → t.pipework.slots b.child ≡ s.pipework.slots b.child → is_awaiting t b.child ≡ is_awaiting s b.child → HasBegun t (e ∷ h) p
begun_more s t h e p b beside runs slot awaits = record {
  child = b.child;
  own = b.own;
  program = b.program;
  later = e ∷ b.later;
  before = b.before;
  are = ap (λ (h : List Event). e ∷ h) b.are;
  beside = (beside, b.beside);
  mail = b.mail;
  named = b.named;
  runs = runs ∙ b.runs;
  slot = slot ∙ b.slot;
  awaits = awaits ∙ b.awaits;
}

-- an event of an actor that starts no injector, and gives nothing to one
pub acted_begun : (s : State) (h : List Event) (a : List ℕ) (x : Actor) (own : Own) → BegunIf s h → s.actors a ≡ Some x → (IsBirth own.due own.came → ⊥)
    → ((p : List ℕ) (b : HasBegun s h p) → (a ≢ b.child) × GivesNot s.pipework a own.due b.child) → BegunIf (acted s a own 0 (Some x)) (Act a own 0 ∷ h)
acted_begun s h a x own begun is unborn far p y here alive borne =
    let now : Actor = record { program = x.program; past = own ∷ x.past; life = x.life } in
    let t = acted s a own 0 (Some x) in
    ⊎_elim
    (λ f. absurd (unborn (subst (λ (z : Actor). HasBorneLast z.past) (sym f.1) borne)))
    (λ f.
    let b = begun p y f.1 alive borne in
    let other = far p b in
    begun_more s t h (Act a own 0) p b ((λ e. f.0 (sym e)), other.0) (runs_still s.pipework a own.due own.came p 0 f.0) refl
    (awaits_same s t b.child refl (input_not s.pipework a b.child own.due own.came b.named (λ e. other.0 (sym e)) other.1)))
    (put_actor s.actors a p now y here)

-- an end or a stop
pub finished_begun : (s : State) (h : List Event) (a : List ℕ) (x : Actor) (life : Life) (e : Event) → life ≢ Alive → BegunIf s h → ((p : List ℕ) (b : HasBegun s h p) → IsBeside p b.child e)
    → BegunIf (finished s a life (Some x)) (e ∷ h)
finished_begun s h a x life e over begun beside p y here alive borne =
    let gone : Actor = record { program = x.program; past = x.past; life = life } in
    let t = finished s a life (Some x) in
    ⊎_elim
    (λ f. absurd (over (ap (λ (z : Actor). z.life) f.1 ∙ alive)))
    (λ f.
    let b = begun p y f.1 alive borne in
    let input = s.pipework.pipes b.child port.Input in
    let by : is_writer a (feeder s.pipework b.child) ≡ false =
    ap (λ (t : Bool). is_writer a (if t then Some (codes "sender") else option_map (λ slot. slot.parent) (s.pipework.slots b.child))) b.named
    ∙ (ap (λ (o : Option Slot). is_writer a (option_map (λ slot. slot.parent) o)) b.slot ∙ other_text a p (λ e. f.0 (sym e))) in
    begun_more s t h e p b (beside p b) refl refl (awaits_same s t b.child refl (ap (λ (t : Bool). if t then closed input else input) by)))
    (put_actor s.actors a p gone y here)

-- the start of a mail
pub started_begun : (s : State) (h : List Event) (a : List ℕ) (program : Program) → BegunIf s h → BegunIf (happens s (Start a program)) (Start a program ∷ h)
started_begun s h a program begun p y here alive borne =
    ⊎_elim
    (λ f. absurd (subst (λ (z : Actor). HasBorneLast z.past) (sym f.1) borne))
    (λ f.
    let b = begun p y f.1 alive borne in
    begun_more s (happens s (Start a program)) h (Start a program) p b tt refl refl refl)
    (put_actor s.actors a p (newborn program) y here)

-- the start of a child, which awaits its input if it is an injector: its name is new
module _ (s : State) (h : List Event) (a : List ℕ) (x : Actor) (own : Own) (c : List ℕ) (program : Program) (begun : BegunIf s h) (named : is_member c ≡ false) (empty : s.pipework.pipes c port.Input ≡ fresh)
    (mail : IsBirth own.due own.came → IsMail program × (slot_by own.due ≡ 0))
    (far : (p : List ℕ) (b : HasBegun s h p) → (a ≢ b.child) × (c ≢ b.child)) (pipes : (acted s a own 0 (Some x)).pipework ≡ s.pipework) where
  abbrev parted : State
  parted = acted s a own 0 (Some x)

  abbrev borne_now : State
  borne_now = bears parted a own c program

  abbrev borne_event : Event
  borne_event = Child a own c program

  -- who starts in a slot changes no input
  borne_input : (w : Pipework) (b : List ℕ) → (with_child w a (slot_by own.due) c).pipes b port.Input ≡ w.pipes b port.Input
  borne_input w b = ap (λ (t : Bool). if t then fresh else w.pipes b port.Input) (and-false (bytes_eq b a))

  fresh_child : IsBirth own.due own.came → HasBegun borne_now (borne_event ∷ h) a
  fresh_child birth =
      let it = mail birth in
      let w = parted.pipework in
      let slot : borne_now.pipework.slots c ≡ Some (record { parent = a; number = 0 }) =
      put_at_same w.slots c (Some (record { parent = a; number = slot_by own.due })) ∙ ap (λ (n : ℕ). Some (slot_at n)) it.1 in
      let input : borne_now.pipework.pipes c port.Input ≡ fresh = borne_input w c ∙ ap (λ (w : Pipework). w.pipes c port.Input) pipes ∙ empty in
      record {
        child = c;
        own = own;
        program = program;
        later = [];
        before = h;
        are = refl;
        beside = tt;
        mail = it.0;
        named = named;
        runs = ap (λ (t : Bool). if t && (0 == slot_by own.due) then Some (Runs c) else w.programs a 0) (same_text a)
            ∙ ap (λ (n : ℕ). if 0 == n then Some (Runs c) else w.programs a 0) it.1;
        slot = slot;
        awaits = ap (λ (o : Option Slot). is_some o && not (is_ready (borne_now.pipework.pipes c port.Input))) slot ∙ ap (λ (pipe : Pipe). not (is_ready pipe)) input;
      }
    where
      slot_at : ℕ → Slot
      slot_at n = record { parent = a; number = n }

  old_child : (p : List ℕ) → p ≢ a → HasBegun s h p → HasBegun borne_now (borne_event ∷ h) p
  old_child p apart b =
      let other = far p b in
      let w = parted.pipework in
      let slot : borne_now.pipework.slots b.child ≡ s.pipework.slots b.child =
      put_at_other w.slots c (Some (record { parent = a; number = slot_by own.due })) b.child (λ e. other.1 (sym e)) ∙ ap (λ (w : Pipework). w.slots b.child) pipes in
      begun_more s borne_now h borne_event p b ((λ e. apart (sym e)), (other.0, other.1))
      (ap (λ (t : Bool). if t && (0 == slot_by own.due) then Some (Runs c) else w.programs p 0) (other_text p a apart) ∙ ap (λ (w : Pipework). w.programs p 0) pipes)
      slot
      (awaits_same s borne_now b.child slot (borne_input w b.child ∙ ap (λ (w : Pipework). w.pipes b.child port.Input) pipes))

  pub borne_begun : BegunIf borne_now (borne_event ∷ h)
  borne_begun p y here alive borne =
      ⊎_elim
      (λ f. absurd (subst (λ (z : Actor). HasBorneLast z.past) (sym f.1) borne))
      (λ f. ⊎_elim
      (λ g. subst (HasBegun borne_now (borne_event ∷ h)) (sym g.0) (fresh_child (subst (λ (z : Actor). HasBorneLast z.past) (sym g.1) borne)))
      (λ g. old_child p g.0 (begun p y g.1 alive borne))
      (put_actor s.actors a p (record { program = x.program; past = own ∷ x.past; life = x.life }) y f.1))
      (put_actor parted.actors c p (newborn program) y here)

-- a generation
pub generation_begun : (s : State) (h : List Event) (sender clean lspawn rspawn : Program) → BegunIf s h → BegunIf (happens s (Generation (sender ∷ clean ∷ lspawn ∷ rspawn ∷ []))) (Generation (sender ∷ clean ∷ lspawn ∷ rspawn ∷ []) ∷ h)
generation_begun s h sender clean lspawn rspawn begun p y here alive borne =
    let t = happens s (Generation (sender ∷ clean ∷ lspawn ∷ rspawn ∷ [])) in
    ⊎_elim
    (λ member.
    let it = four_new s.actors sender clean lspawn rspawn p member in
    let one : newborn it.0 ≡ y = some_is (newborn it.0) y (sym it.1 ∙ here) in
    absurd (subst (λ (z : Actor). HasBorneLast z.past) (sym one) borne))
    (λ named.
    let b = begun p y (sym (four_other s.actors sender clean lspawn rspawn p named) ∙ here) alive borne in
    begun_more s t h (Generation (sender ∷ clean ∷ lspawn ∷ rspawn ∷ [])) p b tt
    (ap (λ (t : Bool). if t then None else s.pipework.programs p 0) named) refl
    (awaits_same s t b.child refl (ap (λ (t : Bool). if t then fresh else s.pipework.pipes b.child port.Input) b.named)))
    (whether (is_member p))

-- a report
not_put : (t : Bool) (o v : Option Tenant) → (t ≡ true → ⊥) → (if t then v else o) ≡ o
not_put true o v never = absurd (never refl)
not_put false o v never = refl

pub report_begun : (s : State) (h : List Event) (slot : ℕ) (output : List ℕ) → s.pipework.programs (codes "rspawn") slot ≡ Some (Remote false) → BegunIf s h
    → BegunIf (happens s (Report slot output)) (Report slot output ∷ h)
report_begun s h slot output runs begun p y here alive borne =
    let b = begun p y here alive borne in
    begun_more s (happens s (Report slot output)) h (Report slot output) p b tt
    (not_put (bytes_eq p (codes "rspawn") && (0 == slot)) (s.pipework.programs p 0) (Some (Remote true)) (λ e. clash b (and_parts (bytes_eq p (codes "rspawn")) (0 == slot) e)))
    refl (report_awaits s slot output b.child)
  where
    clash : (b : HasBegun s h p) → (bytes_eq p (codes "rspawn") ≡ true) × ((0 == slot) ≡ true) → ⊥
    clash b tests =
        let number : 0 ≡ slot = eqb-true 0 slot tests.1 in
        ⊎_elim
        (λ (f : (p ≡ codes "rspawn") × (bytes_eq p (codes "rspawn") ≡ true)).
        let at : s.pipework.programs p 0 ≡ s.pipework.programs (codes "rspawn") slot = ap (λ (q : List ℕ). s.pipework.programs q 0) f.0 ∙ ap (s.pipework.programs (codes "rspawn")) number in
        remote_tenant false b.child (sym runs ∙ (sym at ∙ b.runs)))
        (λ (f : (p ≢ codes "rspawn") × (bytes_eq p (codes "rspawn") ≡ false)). false≢true (sym f.1 ∙ tests.0))
        (text_cases p (codes "rspawn"))

-- a moment
pub moment_begun : (s : State) (h : List Event) (m : ℕ) → BegunIf s h → BegunIf (happens s (Moment m)) (Moment m ∷ h)
moment_begun s h m begun p y here alive borne = begun_more s (happens s (Moment m)) h (Moment m) p (begun p y here alive borne) tt refl refl refl

-- a machine stop
pub halted_begun : (s : State) (h : List Event) (how : Survival) (contents : ℕ → List ℕ) → BegunIf (happens s (Halt how contents)) (Halt how contents ∷ h)
halted_begun s h how contents p y here alive borne =
    let w = mapped_some stopped (s.actors p) y here in
    absurd (never_alive w.0.life (ap (λ (x : Actor). x.life) w.2 ∙ alive))

-- Another child is given its input

-- its start is told anew, and this one's is as it was
record IsStill (p c : List ℕ) (own : Own) (program : Program) (h : List Event) : Type 0 where
  later : List Event
  before : List Event
  are : h ≡ later ++ Child p own c program ∷ before
  beside : AreBeside p c later

pushed : (p c : List ℕ) (own : Own) (program : Program) (e : Event) (h g : List Event) → g ≡ e ∷ h → IsBeside p c e → IsStill p c own program h → IsStill p c own program g
pushed p c own program e h g is beside still =
    record { later = e ∷ still.later; before = still.before; are = is ∙ ap (λ (l : List Event). e ∷ l) still.are; beside = (beside, still.beside) }

module _ (given message envelope p c : List ℕ) (own : Own) (program : Program) (far : c ≢ given) where
  further : (e : Event) (later before : List Event) → begun_with given message envelope (e ∷ (later ++ Child p own c program ∷ before)) ≡ e ∷ begun_with given message envelope (later ++ Child p own c program ∷ before)
      → AreBeside p c (e ∷ later) → IsStill p c own program (begun_with given message envelope (later ++ Child p own c program ∷ before))
      → IsStill p c own program (begun_with given message envelope (e ∷ (later ++ Child p own c program ∷ before)))
  further e later before is beside still =
      let rest = later ++ Child p own c program ∷ before in
      pushed p c own program e (begun_with given message envelope rest) (begun_with given message envelope (e ∷ rest)) is beside.0 still

  told_anew : (later before : List Event) → AreBeside p c later → IsStill p c own program (begun_with given message envelope (later ++ Child p own c program ∷ before))
  told_anew [] before beside = record {
    later = [];
    before = begun_with given message envelope before;
    are = begun_other given message envelope p own c program before far;
    beside = tt;
  }
  told_anew ((Child a other b started) ∷ later) before beside = by (bytes_eq b given) (told_anew later before beside.1) where
    rest : List Event
    rest = later ++ Child p own c program ∷ before

    by : (t : Bool) → IsStill p c own program (begun_with given message envelope rest)
        → IsStill p c own program (if t then (Child a other b (with_texts message envelope started)) ∷ rest else (Child a other b started ∷ begun_with given message envelope rest))
    by true still = record { later = Child a other b (with_texts message envelope started) ∷ later; before = before; are = refl; beside = beside }
    by false still = pushed p c own program (Child a other b started) (begun_with given message envelope rest) (Child a other b started ∷ begun_with given message envelope rest) refl beside.0 still
  told_anew ((Start a started) ∷ later) before beside = further (Start a started) later before refl beside (told_anew later before beside.1)
  told_anew ((Act a other wrote) ∷ later) before beside = further (Act a other wrote) later before refl beside (told_anew later before beside.1)
  told_anew ((Generation crew) ∷ later) before beside = further (Generation crew) later before refl beside (told_anew later before beside.1)
  told_anew ((Report slot output) ∷ later) before beside = further (Report slot output) later before refl beside (told_anew later before beside.1)
  told_anew ((End a read ready status) ∷ later) before beside = further (End a read ready status) later before refl beside (told_anew later before beside.1)
  told_anew ((Stop a) ∷ later) before beside = further (Stop a) later before refl beside (told_anew later before beside.1)
  told_anew ((Moment m) ∷ later) before beside = further (Moment m) later before refl beside (told_anew later before beside.1)
  told_anew ((Halt how contents) ∷ later) before beside = further (Halt how contents) later before refl beside (told_anew later before beside.1)

-- what a parent gave to its child is its newest event: each other child stands as it stood
pub fed_begun : (s t : State) (h : List Event) (a : List ℕ) (x : Actor) (own : Own) (given message envelope : List ℕ) → BegunIf s h → t.pipework ≡ s.pipework → ((p : List ℕ) → p ≢ given → t.actors p ≡ s.actors p)
    → ((y : Actor) → t.actors given ≡ Some y → HasBorneLast y.past → ⊥) → (IsBirth own.due own.came → ⊥)
    → ((p : List ℕ) (b : HasBegun s h p) → p ≢ a → (a ≢ b.child) × ((b.child ≢ given) × GivesNot s.pipework a own.due b.child))
    → BegunIf (acted t a own 0 (Some x)) (Act a own 0 ∷ begun_with given message envelope h)
fed_begun s t h a x own given message envelope begun pipes others idle_child unborn far p y here alive borne =
    let now : Actor = record { program = x.program; past = own ∷ x.past; life = x.life } in
    let u = acted t a own 0 (Some x) in
    ⊎_elim
    (λ f. absurd (unborn (subst (λ (z : Actor). HasBorneLast z.past) (sym f.1) borne)))
    (λ f.
    let apart : p ≢ given = λ e. idle_child y (sym (ap t.actors e) ∙ f.1) borne in
    let b = begun p y (sym (others p apart) ∙ f.1) alive borne in
    let other = far p b f.0 in
    let still = subst (IsStill p b.child b.own b.program) (sym (ap (begun_with given message envelope) b.are)) (told_anew given message envelope p b.child b.own b.program other.1.0 b.later b.before b.beside) in
    let w = s.pipework in
    let piped : u.pipework ≡ pipework_after w a own.due own.came 0 = ap (λ (w : Pipework). pipework_after w a own.due own.came 0) pipes in
    let slots : u.pipework.slots b.child ≡ w.slots b.child = ap (λ (w : Pipework). w.slots b.child) piped in
    record {
      child = b.child;
      own = b.own;
      program = b.program;
      later = Act a own 0 ∷ still.later;
      before = still.before;
      are = ap (λ (l : List Event). Act a own 0 ∷ l) still.are;
      beside = (((λ e. f.0 (sym e)), other.0), still.beside);
      mail = b.mail;
      named = b.named;
      runs = ap (λ (w : Pipework). w.programs p 0) piped ∙ runs_still w a own.due own.came p 0 f.0 ∙ b.runs;
      slot = slots ∙ b.slot;
      awaits = awaits_same s u b.child slots (ap (λ (w : Pipework). w.pipes b.child port.Input) piped
          ∙ input_not w a b.child own.due own.came b.named (λ e. other.0 (sym e)) other.1.1) ∙ b.awaits;
    })
    (put_actor t.actors a p now y here)
