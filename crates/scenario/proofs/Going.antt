-- A play goes on with each deed: its history is legal, and what it keeps is kept.
use Rattle.std.proofs.Common.{◌≡◌, ◌≢◌, ⊎_elim, ℕ, ◌≤◌, List, [], ◌∷◌, ◌++◌, Bool, true, false, ◌&&◌, if◌then◌else◌, bytes_eq, codes, Option, Some, None, refl, sym, ap, ◌∙◌, subst, arith}
use Rattle.std.specs.Prelude.{◌==◌}
use Rattle.std.proofs.Math.Bool.{and-false}
use Rattle.std.proofs.lemmas.Bool.{and_parts, eqb-true, false≢true}
use Rattle.std.proofs.lemmas.List.Elements.{All-contains}
use Rattle.call_fs.specs.declared.crash_file_system.Survival.{Survival}
use Rattle.call_fs.specs.declared.past.ChildData.{ChildData}
use Rattle.call_fs.specs.declared.past.GotData.{GotData}
use Rattle.call_fs.specs.declared.past.GotData.TheVariants.{Answered, Gave, Started}
use Rattle.call_fs.specs.declared.past.NeedData.{NeedData}
use Rattle.call_fs.specs.declared.past.NeedData.TheVariants as needs
use Rattle.call_fs.specs.declared.past.Own.{Own}
use Rattle.call_fs.specs.declared.program.Port.TheVariants as port
use Rattle.call_fs.specs.Choices.{contents_by}
use Rattle.call_fs.specs.Disk.{Disk}
use Rattle.call_fs.specs.Maps.{put_at}
use Rattle.call_fs.proofs.Maps.{put_at_same, put_at_other}
use Rattle.call_fs.specs.Plan.{Plan}
use Rattle.mail_bytes.specs.Moments.{IsMoment}
use Rattle.actor_names.specs.ChildNames.{bounce_name, delivery_name, forward_of}
use Rattle.actor_names.specs.MailNames.{IsMailName, members}
use Rattle.actor_names.proofs.Children.{no_mail}
use Rattle.local_deliver.specs.Deeds.{starts}
use Rattle.queue_inject.specs.declared.injection.Arguments.{Arguments}
use Rattle.world_events.specs.Children.{child_of}
use Rattle.world_events.specs.Inputs.{with_texts}
use Rattle.world_events.specs.declared.event.Program.{Program}
use Rattle.world_events.specs.declared.event.Program.TheVariants.{Injector, Sender, Cleaner, LocalSpawner, RemoteSpawner, Delivery}
use Rattle.mail_world.specs.Anew.{AreAlikeBut, idle}
use Rattle.mail_world.specs.ByKind.{BearsIn, IsMail}
use Rattle.mail_world.specs.Generations.{lives_in, is_unreported}
use Rattle.mail_world.specs.History.{Event, Actor, State, Legal, MayRead, MayFind, ComesOf, IsInputOf, acted, bears, finished, netstring, newborn, next_of, program_of, start_of, stopped}
use Rattle.mail_world.specs.History.{after as after_events}
use Rattle.mail_world.specs.History.Event.{Start, Act, Child, Report, End, Stop, Moment, Halt}
use Rattle.mail_world.specs.History.Life.{Alive, Over, Stopped}
use Rattle.mail_world.specs.Inside.{RunsAt, IsBirth, HasBorneLast}
use Rattle.mail_world.specs.Pipework.{Pipework, Slot, Tenant, fresh, is_member, pipework_after, slot_of, with_child}
use Rattle.mail_world.specs.Pipework.Tenant.{Runs}
use Rattle.mail_world.specs.Readiness.{found_at, found_in}
use Rattle.mail_world.specs.World.{begun_with}
use Rattle.mail_world.proofs.Anew.{none_put, none_some, some_is, with_actors, other_state}
use Rattle.mail_world.proofs.Feeders.{IsFeeder, Starts, feeder_gives, starter}
use Rattle.mail_world.proofs.Histories.{is_fed}
use Rattle.mail_world.proofs.Looks.{mapped_some}
use Rattle.mail_world.proofs.Members.{four_other, mail_is_none}
use Rattle.mail_world.proofs.Programs.{mail_runs, found_finds}
use Rattle.mail_world.proofs.Seats.{seat_none}
use Rattle.queue_law.proofs.Tests.{text_cases}
use Rattle.scenario.specs.Deeds.{Deed, history_of, after, next_pid, is_bounce_birth, is_delivery_birth, counts_in}
use Rattle.scenario.specs.Deeds.Deed.{Came, Fed}
use Rattle.scenario.specs.Steps.{StepsTo, comes, own_by}
use Rattle.scenario.specs.Steps.Outcome.{Happens}
use Rattle.scenario.specs.Turns.{first_alive, generation_at, awaits_report}
use Rattle.scenario.proofs.Births.{still_none, HasBegun, BegunIf, apart_children, begins_so, texts_same, not_child, acted_begun, fed_begun, finished_begun, started_begun, borne_begun, generation_begun, report_begun, moment_begun, halted_begun}
use Rattle.scenario.proofs.Carried.{AreTenants, Carries, IsTenant, called_carries, fed_by, finished_carries, begins_carries, starts_carries, other_carries, comes_may, passed_carries, moment_carries, halted_carries, generation_carries, report_carries, mail_alone, mail_no_delivery, member_apart, lives_actor, none_alive, living_in, tenants_far, unknown_far, unreported_is}
use Rattle.scenario.proofs.StepKinds.{GivesNoMail, HasDone, has_stepped, no_birth}
use Rattle.scenario.proofs.Deeds.{texts_mail}
use Rattle.scenario.proofs.GivenInputs.{GivesNot, input_not}
use Rattle.scenario.proofs.StepKinds.HasDone.{Calls, Finishes, Passes, Bears, Feeds}
use Rattle.scenario.proofs.LastingFiles.{halt_survives}
use Rattle.scenario.proofs.FreeNames.{Goes, no_fewer, acted_started, finished_started, still_unborn, starts_none, IsBornAs, born_as, borne_unborn, delivery_single}

-- What an actor may do

may_read : (s : State) (a : List ℕ) (x : Actor) → Carries s → s.actors a ≡ Some x → x.life ≡ Alive → MayRead s a x s.now
may_read s a x carries is alive = record {
  is = is;
  alive = alive;
  no_earlier = carries.in_order a x is;
  no_later = omega arith;
  no_stall = omega arith;
}

may_find : (s t : State) (a : List ℕ) (x : Actor) → s.actors a ≡ Some x → t.pipework ≡ s.pipework → MayFind t a x.program x.past (found_in s a)
may_find s t a x is same = subst (MayFind t a x.program x.past) (sym (ap (found_at s a) is)) (found_finds s t a x.program x.past same)

-- what is given to no injector isn't given to who awaits its input
gives_not_to : (d : Disk) (h : List Event) (a : List ℕ) (due : NeedData) → Legal d h → GivesNoMail (after_events d h) a due → (p : List ℕ) (b : HasBegun (after_events d h) h p)
    → GivesNot (after_events d h).pipework a due b.child
gives_not_to d h a (needs.Give (port.Program slot) bytes) legal never p b = λ runs.
    let alike = (begins_so d h p [] [] legal b).1 in
    never b.child (idle b.program alike.life) runs alike.was b.mail
gives_not_to d h a due legal never p b = tt

-- an event of an actor that starts no injector, and gives nothing to one
goes_acted : (d : Disk) (h : List Deed) (a : List ℕ) (x : Actor) (due : NeedData) (came : GotData) → Goes d h → (after d h).actors a ≡ Some x → x.life ≡ Alive
    → next_of x.program x.past (after d h).now (found_in (after d h) a) ≡ due → due ≢ needs.Wait → (IsBirth due came → ⊥) → GivesNoMail (after d h) a due → ComesOf (after d h) a due came 0
    → Carries (acted (after d h) a (own_by (after d h) a due came) 0 (Some x)) → Goes d (Came (Act a (own_by (after d h) a due came) 0) ∷ h)
goes_acted d h a x due came so is alive next busy unborn no_mail of carries =
    let s = after d h in
    let own = own_by s a due came in
    record {
      legal = (
        so.legal,
        record {
          actor = x;
          reads = may_read s a x so.carries is alive;
          finds = may_find s s a x is refl;
          due = next;
          came = of;
        },
      );
      carries = subst (λ (o : Option Actor). Carries (acted s a own 0 o)) (sym is) carries;
      unborn = still_unborn d h (Act a own 0) so (starts_none (Act a own 0) (λ b. tt)) (acted_started s a own 0 (s.actors a) refl);
      begun = subst (λ (o : Option Actor). BegunIf (acted s a own 0 o) (Act a own 0 ∷ history_of h)) (sym is)
          (acted_begun s (history_of h) a x own so.begun is unborn (λ p b. (
            not_child d (history_of h) a x so.legal is (λ wait. busy (sym next ∙ wait)) p b,
            gives_not_to d (history_of h) a due so.legal no_mail p b,
          )));
    }

-- an end or a stop
goes_ended : (d : Disk) (h : List Deed) (a : List ℕ) (x : Actor) (status : ℕ) → Goes d h → (after d h).actors a ≡ Some x → x.life ≡ Alive
    → next_of x.program x.past (after d h).now (found_in (after d h) a) ≡ needs.Ended status → Goes d (Came (End a (after d h).now (found_in (after d h) a) status) ∷ h)
goes_ended d h a x status so is alive next =
    let s = after d h in
    let e = End a s.now (found_in s a) status in
    record {
      legal = (
        so.legal,
        record {
          actor = x;
          reads = may_read s a x so.carries is alive;
          finds = may_find s s a x is refl;
          due = next;
        },
      );
      carries = subst (λ (o : Option Actor). Carries (finished s a (Over status) o)) (sym is) (finished_carries s a x (Over status) (λ e. absurd (cc)) so.carries is);
      unborn = still_unborn d h e so (starts_none e (λ b. tt)) (finished_started s a (Over status) (s.actors a) refl);
      begun = subst (λ (o : Option Actor). BegunIf (finished s a (Over status) o) (e ∷ history_of h)) (sym is)
          (finished_begun s (history_of h) a x (Over status) e (λ e. absurd (cc)) so.begun
          (not_child d (history_of h) a x so.legal is (λ wait. let both : needs.Ended status ≡ needs.Wait = sym next ∙ wait in absurd (cc))));
    }

pub goes_stopped : (d : Disk) (h : List Deed) (a : List ℕ) (x : Actor) → Goes d h → (after d h).actors a ≡ Some x
    → x.life ≡ Alive → Goes d (Came (Stop a) ∷ h)
goes_stopped d h a x so is alive =
    let s = after d h in
    record {
      legal = (so.legal, record { actor = x; is = is; alive = alive });
      carries = subst (λ (o : Option Actor). Carries (finished s a Stopped o)) (sym is) (finished_carries s a x Stopped (λ e. absurd (cc)) so.carries is);
      unborn = still_unborn d h (Stop a) so (starts_none (Stop a) (λ b. tt)) (finished_started s a Stopped (s.actors a) refl);
      begun = subst (λ (o : Option Actor). BegunIf (finished s a Stopped o) (Stop a ∷ history_of h)) (sym is)
          (finished_begun s (history_of h) a x Stopped (Stop a) (λ e. absurd (cc)) so.begun (λ p b. tt));
    }

-- The start of a child

module _ (d : Disk) (h : List Deed) (a : List ℕ) (x : Actor) (asked : ChildData) (pid : ℕ) (c : List ℕ × Program) (so : Goes d h) (is : (after d h).actors a ≡ Some x) (alive : x.life ≡ Alive)
    (next : next_of x.program x.past (after d h).now (found_in (after d h) a) ≡ needs.Start asked) (of : child_of (counts_in h) a asked pid (after d h).now ≡ Some c) where
  abbrev birth : State
  birth = after d h

  abbrev birth_own : Own
  birth_own = own_by birth a (needs.Start asked) (Started pid)

  -- the state after its parent's event
  abbrev born_of : State
  born_of = acted birth a birth_own 0 (Some x)

  abbrev birth_pipes : Pipework
  birth_pipes = with_child born_of.pipework a (slot_of asked) c.0

  starts_so : Starts x.program asked
  starts_so = starter x.program x.past birth.now (found_in birth a) asked (so.carries.runs a x is) next

  kind : IsBornAs birth.actors x.program asked a pid birth.now c
  kind = born_as birth.actors (counts_in h) a x pid birth.now so.unborn is (so.carries.names a x is)
      (delivery_single x.program x.past birth.now (found_in birth a) asked (so.carries.runs a x is) next) asked c starts_so of

  birth_slot : birth.pipework.slots c.0 ≡ None
  birth_slot = (so.carries.new c.0 kind.new kind.named).0

  born_carries : Carries born_of
  born_carries = passed_carries birth a x (found_in birth a) (needs.Start asked) (Started pid) tt so.carries is alive next tt
      (λ b none named. ap (λ (w : Pipework). w.pipes b port.Input) (kind.still birth.pipework))

  born_new : born_of.actors c.0 ≡ None
  born_new = put_at_other birth.actors a (Some (record { program = x.program; past = birth_own ∷ x.past; life = x.life })) c.0 (λ e. none_some (birth.actors c.0) x kind.new (ap birth.actors e ∙ is)) ∙ kind.new

  -- it runs in its parent's slot
  born_tenants : AreTenants (put_at born_of.actors c.0 (Some (newborn c.1))) birth_pipes.programs
  born_tenants b e f runs = by (bytes_eq b a && (e == slot_of asked)) refl runs
    where
      known : AreTenants (put_at born_of.actors c.0 (Some (newborn c.1))) born_of.pipework.programs
      known = tenants_far born_of.actors born_of.pipework.programs c.0 (newborn c.1) (unknown_far born_of.actors born_of.pipework.programs c.0 born_new born_carries.children) born_carries.children

      parent : Actor
      parent = record { program = x.program; past = birth_own ∷ x.past; life = x.life }

      mine : IsTenant (put_at born_of.actors c.0 (Some (newborn c.1))) a (slot_of asked) c.0
      mine = record {
        child = newborn c.1;
        is = put_at_same born_of.actors c.0 (Some (newborn c.1));
        named = kind.named;
        parent = parent;
        there = put_at_other born_of.actors c.0 (Some (newborn c.1)) a (λ e. none_some (birth.actors c.0) x kind.new (ap birth.actors (sym e) ∙ is)) ∙ put_at_same birth.actors a (Some parent);
        bears = kind.bears;
      }

      by : (t : Bool) → (bytes_eq b a && (e == slot_of asked)) ≡ t → (if t then Some (Runs c.0) else born_of.pipework.programs b e) ≡ Some (Runs f)
          → IsTenant (put_at born_of.actors c.0 (Some (newborn c.1))) b e f
      by true tests runs =
          let both = and_parts (bytes_eq b a) (e == slot_of asked) tests in
          let same : b ≡ a = ⊎_elim (λ (g : (b ≡ a) × (bytes_eq b a ≡ true)). g.0) (λ (g : (b ≢ a) × (bytes_eq b a ≡ false)). absurd (false≢true (sym g.1 ∙ both.0))) (text_cases b a) in
          let slot : e ≡ slot_of asked = eqb-true e (slot_of asked) both.1 in
          let name : c.0 ≡ f = cc in
          subst (λ (b : List ℕ). IsTenant (put_at born_of.actors c.0 (Some (newborn c.1))) b e f) (sym same)
          (subst (λ (e : ℕ). IsTenant (put_at born_of.actors c.0 (Some (newborn c.1))) a e f) (sym slot)
          (subst (IsTenant (put_at born_of.actors c.0 (Some (newborn c.1))) a (slot_of asked)) name mine))
      by false tests runs = known b e f runs

  borne_carries : Carries (bears born_of a birth_own c.0 c.1)
  borne_carries =
      let at = kind.begun in
      begins_carries born_of c.0 c.1 birth_pipes (omega (arith, at)) (subst (λ (o : Option ℕ). RunsAt o c.1) (sym (seat_none c.0 kind.named)) kind.alone) kind.called born_tenants
      (λ b none named.
      let old = born_carries.new b (none_put born_of.actors c.0 (newborn c.1) b none) named in
      let far : b ≢ c.0 = λ e.
      none_some (put_at born_of.actors c.0 (Some (newborn c.1)) b) (newborn c.1) none
      (ap (put_at born_of.actors c.0 (Some (newborn c.1))) e ∙ put_at_same born_of.actors c.0 (Some (newborn c.1))) in (
        put_at_other born_of.pipework.slots c.0 (Some (record { parent = a; number = slot_of asked })) b far ∙ old.0,
        ap (λ (t : Bool). if t then fresh else born_of.pipework.pipes b port.Input) (and-false (bytes_eq b a)) ∙ old.1,
      ))
      born_carries

  pub goes_borne : Goes d (Came (Child a birth_own c.0 c.1) ∷ h)
  goes_borne =
      let at = kind.begun in
      let e : Event = Child a birth_own c.0 c.1 in
      record {
        legal = (
          so.legal,
          record {
            actor = x;
            reads = may_read birth a x so.carries is alive;
            finds = may_find birth birth a x is refl;
            due = next;
            asked = asked;
            starts = refl;
            pid = pid;
            came = refl;
            new = kind.new;
            is = kind.of;
            no_earlier = omega (arith, at);
            no_later = omega (arith, at);
          },
        );
        carries = subst (λ (o : Option Actor). Carries (bears (acted birth a birth_own 0 o) a birth_own c.0 c.1)) (sym is) borne_carries;
        unborn = borne_unborn d h a x so is (so.carries.names a x is) asked birth_own pid birth.now c refl refl starts_so of;
        begun = subst (λ (o : Option Actor). BegunIf (bears (acted birth a birth_own 0 o) a birth_own c.0 c.1) (e ∷ history_of h)) (sym is)
            (borne_begun birth (history_of h) a x birth_own c.0 c.1 so.begun kind.named (so.carries.new c.0 kind.new kind.named).1 kind.fed
            (λ p b. (
              not_child d (history_of h) a x so.legal is (λ wait. let both : needs.Start asked ≡ needs.Wait = sym next ∙ wait in absurd (cc)) p b,
              λ e. let both : ◌≡◌ {A = Option Slot} None (Some (record { parent = p; number = 0 })) = sym birth_slot ∙ ap birth.pipework.slots e ∙ b.slot in absurd (cc),
            ))
            (kind.still birth.pipework));
      }

-- A parent gives its child its input

texts_input : (message envelope : List ℕ) (program : Program) → IsMail program → IsInputOf (with_texts message envelope program) (netstring message ++ netstring envelope)
texts_input message envelope (Injector args) mail = (refl, refl, refl)
texts_input message envelope other mail = absurd mail

module _ (d : Disk) (h : List Deed) (a : List ℕ) (x : Actor) (message envelope : List ℕ) (so : Goes d h) (is : (after d h).actors a ≡ Some x) (alive : x.life ≡ Alive)
    (b : HasBegun (after d h) (history_of h) a) (borne : HasBorneLast x.past)
    (next : next_of x.program x.past (after d h).now (found_in (after d h) a) ≡ needs.Give (port.Program 0) (netstring message ++ netstring envelope)) where
  abbrev fed_before : State
  fed_before = after d h

  abbrev fed_child : List ℕ
  fed_child = b.child

  abbrev fed_bytes : List ℕ
  fed_bytes = netstring message ++ netstring envelope

  abbrev fed_due : NeedData
  fed_due = needs.Give (port.Program 0) fed_bytes

  abbrev fed_own : Own
  fed_own = own_by fed_before a fed_due Gave

  -- the history with that input, and the state after it
  abbrev fed_history : List Event
  fed_history = begun_with fed_child message envelope (history_of h)

  abbrev anew : State
  anew = after_events d fed_history

  abbrev fed_program : Program
  fed_program = with_texts message envelope b.program

  fed_alike : AreAlikeBut fed_child b.program fed_program fed_before anew
  fed_alike = (begins_so d (history_of h) a message envelope so.legal b).1

  fed_apart : a ≢ fed_child
  fed_apart e =
      let one : x ≡ idle b.program fed_alike.life = some_is x (idle b.program fed_alike.life) (sym is ∙ ap fed_before.actors e ∙ fed_alike.was) in
      subst (λ (z : Actor). HasBorneLast z.past) one borne

  fed_there : anew.actors a ≡ Some x
  fed_there = fed_alike.others a fed_apart ∙ is

  -- who isn't there is another one
  fed_far : (q : List ℕ) → anew.actors q ≡ None → q ≢ fed_child
  fed_far q none e = none_some (anew.actors q) (record { program = fed_program; past = []; life = fed_alike.life }) none (ap anew.actors e ∙ fed_alike.is)

  -- the same state with the other actors
  abbrev anew_with : State
  anew_with = with_actors fed_before anew.actors

  anew_is : anew ≡ anew_with
  anew_is = other_state a fed_child b.program fed_program (texts_same message envelope b.program b.mail) fed_before anew fed_alike

  anew_carries : Carries anew_with
  anew_carries =
      other_carries fed_before anew.actors fed_child b.program fed_program fed_alike.life (texts_same message envelope b.program b.mail) (texts_mail message envelope b.program b.mail) b.named fed_alike.others fed_alike.was fed_alike.is so.carries

  fed_not : (q : List ℕ) → q ≢ fed_child → GivesNot fed_before.pipework a fed_due q
  fed_not q far runs = let one : ◌≡◌ {A = Option Tenant} (Some (Runs fed_child)) (Some (Runs q)) = sym b.runs ∙ runs in far (cc)

  fed_still : (q : List ℕ) → anew.actors q ≡ None → is_member q ≡ false → (pipework_after fed_before.pipework a fed_due Gave 0).pipes q port.Input ≡ fed_before.pipework.pipes q port.Input
  fed_still q none named =
      input_not fed_before.pipework a q fed_due Gave named (λ e. none_some (anew.actors q) x none (ap anew.actors e ∙ fed_there)) (fed_not q (fed_far q none))

  -- a later child isn't this one, and has no actor still
  fed_none : (q : List ℕ) → fed_before.actors q ≡ None → (acted anew a fed_own 0 (anew.actors a)).actors q ≡ None
  fed_none q none =
      let unlike : q ≢ fed_child = λ e. none_some (fed_before.actors q) (idle b.program fed_alike.life) none (ap fed_before.actors e ∙ fed_alike.was) in
      still_none anew (Act a fed_own 0) q tt (fed_alike.others q unlike ∙ none)

  fed_unforwarded : (k : ℕ) (y : Actor) → (acted anew a fed_own 0 (anew.actors a)).actors (delivery_name k) ≡ Some y → starts y.past ≡ []
      → (acted anew a fed_own 0 (anew.actors a)).actors (forward_of (delivery_name k)) ≡ None
  fed_unforwarded k y here none =
      let w = acted_started anew a fed_own 0 (anew.actors a) refl k y here none in
      ⊎_elim
      (λ (f : (delivery_name k ≡ fed_child) × (bytes_eq (delivery_name k) fed_child ≡ true)).
      fed_none (forward_of (delivery_name k)) (so.unborn.unforwarded k (idle b.program fed_alike.life) (ap fed_before.actors f.0 ∙ fed_alike.was) refl))
      (λ (f : (delivery_name k ≢ fed_child) × (bytes_eq (delivery_name k) fed_child ≡ false)).
      fed_none (forward_of (delivery_name k)) (so.unborn.unforwarded k w.0 (sym (fed_alike.others (delivery_name k) f.0) ∙ w.1) w.2))
      (text_cases (delivery_name k) fed_child)

  fed_carries : Carries (acted anew a fed_own 0 (Some x))
  fed_carries =
      subst (λ (v : State). Carries (acted v a fed_own 0 (Some x))) (sym anew_is)
      (passed_carries anew_with a x (found_in fed_before a) fed_due Gave tt anew_carries fed_there alive next tt fed_still)

  pub goes_fed : Goes d (Fed a fed_own fed_child message envelope ∷ h)
  goes_fed =
      let now = fed_alike.now in
      let order = so.carries.in_order a x is in
      record {
        legal = (
          (begins_so d (history_of h) a message envelope so.legal b).0,
          record {
            actor = x;
            reads = record { is = fed_there; alive = alive; no_earlier = order; no_later = omega (arith, now); no_stall = omega (arith, now) };
            finds = may_find fed_before anew a x is fed_alike.pipework;
            due = next;
            came = is_fed anew fed_child fed_program fed_alike.life fed_bytes (anew.pipework.programs a 0) (ap (λ (w : Pipework). w.programs a 0) fed_alike.pipework ∙ b.runs) fed_alike.is
                (texts_input message envelope b.program b.mail);
          },
        );
        carries = subst (λ (o : Option Actor). Carries (acted anew a fed_own 0 o)) (sym fed_there) fed_carries;
        unborn =
            let bounces = no_fewer is_bounce_birth (Fed a fed_own fed_child message envelope) h in
            let deliveries = no_fewer is_delivery_birth (Fed a fed_own fed_child message envelope) h in
            record {
              bounces = λ k later. fed_none (bounce_name k) (so.unborn.bounces k (omega (arith, bounces, later)));
              deliveries = λ k later. fed_none (delivery_name k) (so.unborn.deliveries k (omega (arith, deliveries, later)));
              forwards = λ k later. fed_none (forward_of (delivery_name k)) (so.unborn.forwards k (omega (arith, deliveries, later)));
              unforwarded = fed_unforwarded;
            };
        begun = subst (λ (o : Option Actor). BegunIf (acted anew a fed_own 0 o) (Act a fed_own 0 ∷ fed_history)) (sym fed_there)
            (fed_begun fed_before anew (history_of h) a x fed_own fed_child message envelope so.begun fed_alike.pipework (λ p far. fed_alike.others p far)
            (λ y there born.
            let one : y ≡ idle fed_program fed_alike.life = some_is y (idle fed_program fed_alike.life) (sym there ∙ fed_alike.is) in
            subst (λ (z : Actor). HasBorneLast z.past) one born)
            (λ w. w)
            (λ p e far.
            let apart = apart_children fed_before (history_of h) a p b e far in (
              not_child d (history_of h) a x so.legal is (λ wait. let both : fed_due ≡ needs.Wait = sym next ∙ wait in absurd (cc)) p e,
              (apart, fed_not e.child apart),
            )));
      }

-- Each step

-- who runs in a slot and is fed has a parent that feeds
mail_fed : (parent : Program) (d : ℕ) (child : Program) → BearsIn parent d child → IsMail child → IsFeeder parent
mail_fed (Sender start) d child bears mail = tt
mail_fed (Delivery start args) d child bears mail = tt
mail_fed (LocalSpawner start) d (Injector args) bears mail = bears
mail_fed (LocalSpawner start) d other bears mail = absurd mail
mail_fed (Injector args) d child bears mail = absurd bears
mail_fed (Cleaner start) d child bears mail = absurd bears
mail_fed (RemoteSpawner start) d child bears mail = absurd bears

of_program : (o : Option Actor) (x : Actor) (args : Arguments) → o ≡ Some x → program_of o ≡ Some (Injector args) → IsMail x.program
of_program o x args is of =
    let both : ◌≡◌ {A = Option Program} (Some x.program) (Some (Injector args)) = sym (ap program_of is) ∙ of in
    let one : x.program ≡ Injector args = cc in
    subst IsMail (sym one) tt

-- so its parent feeds
pub feeds_so : (s : State) (a : List ℕ) (x : Actor) (slot : ℕ) (c : List ℕ) (args : Arguments) → Carries s → s.actors a ≡ Some x → s.pipework.programs a slot ≡ Some (Runs c)
    → program_of (s.actors c) ≡ Some (Injector args) → IsFeeder x.program
feeds_so s a x slot c args carries is runs mail =
    let t = carries.children a slot c runs in
    let one : t.parent ≡ x = some_is t.parent x (sym t.there ∙ is) in
    subst (λ (z : Actor). IsFeeder z.program) one (mail_fed t.parent.program slot t.child.program t.bears (of_program (s.actors c) t.child args t.is mail))

-- a giving of the whole input
fed_step : (d : Disk) (h : List Deed) (a : List ℕ) (x : Actor) (slot : ℕ) (c message envelope : List ℕ) (args : Arguments) → Goes d h → (after d h).actors a ≡ Some x → x.life ≡ Alive
    → next_of x.program x.past (after d h).now (found_in (after d h) a) ≡ needs.Give (port.Program slot) (netstring message ++ netstring envelope)
    → (after d h).pipework.programs a slot ≡ Some (Runs c) → program_of ((after d h).actors c) ≡ Some (Injector args)
    → Goes d (Fed a (own_by (after d h) a (needs.Give (port.Program slot) (netstring message ++ netstring envelope)) Gave) c message envelope ∷ h)
fed_step d h a x slot c message envelope args so is alive next runs mail =
    let s = after d h in
    let bytes = netstring message ++ netstring envelope in
    let gives = feeder_gives x.program x.past s.now (found_in s a) slot bytes (feeds_so s a x slot c args so.carries is runs mail) (so.carries.runs a x is) next in
    let b = so.begun a x is alive gives.borne in
    let one : ◌≡◌ {A = Option Tenant} (Some (Runs b.child)) (Some (Runs c)) = sym b.runs ∙ (ap (s.pipework.programs a) (sym gives.first) ∙ runs) in
    let same : b.child ≡ c = cc in
    subst (λ (k : ℕ). Goes d (Fed a (own_by s a (needs.Give (port.Program k) bytes) Gave) c message envelope ∷ h)) (sym gives.first)
    (subst (λ (c : List ℕ). Goes d (Fed a (own_by s a (needs.Give (port.Program 0) bytes) Gave) c message envelope ∷ h)) same
    (goes_fed d h a x message envelope so is alive b gives.borne (next ∙ ap (λ (k : ℕ). needs.Give (port.Program k) bytes) gives.first)))

-- who isn't known isn't given anything
unknown_not : (s : State) (a b : List ℕ) (due : NeedData) → Carries s → s.actors b ≡ None → GivesNot s.pipework a due b
unknown_not s a b (needs.Give (port.Program d) bytes) carries none = λ runs. let t = carries.children a d b runs in none_some (s.actors b) t.child none t.is
unknown_not s a b due carries none = tt

goes_step : (d : Disk) (h : List Deed) (plan : Plan) (a : List ℕ) (deed : Deed) (x : Actor) → Goes d h
    → (after d h).actors a ≡ Some x → x.life ≡ Alive → HasDone plan (after d h) (next_pid h) (counts_in h) a x deed → Goes d (deed ∷ h)
goes_step d h plan a deed x so is alive (Calls (c, got, due, given, same)) =
    subst (λ (deed : Deed). Goes d (deed ∷ h)) (sym same)
    (goes_acted d h a x (needs.File c) (Answered got) so is alive due (λ e. absurd (cc)) (λ w. w) tt (given.fits, given.bytes)
    (called_carries (after d h) a x so.carries is c got alive due given.fits))
goes_step d h plan a deed x so is alive (Finishes (status, due, same)) =
    subst (λ (deed : Deed). Goes d (deed ∷ h)) (sym same) (goes_ended d h a x status so is alive due)
goes_step d h plan a deed x so is alive (Passes p) =
    let s = after d h in
    let may = comes_may s (next_pid h) a x.program p.due p.came p.comes_so p.none (fed_by s a p.due so.carries p.no_mail) in
    subst (λ (deed : Deed). Goes d (deed ∷ h)) (sym p.is)
    (goes_acted d h a x p.due p.came so is alive p.next
    (λ e. let none : ◌≡◌ {A = Option GotData} None (Some p.came) = subst (λ (due : NeedData). comes s (next_pid h) a x.program due ≡ Some p.came) e p.comes_so in absurd (cc))
    (no_birth p.due p.came p.none) p.no_mail may.of
    (passed_carries s a x (found_in s a) p.due p.came p.no_file so.carries is alive p.next may.may
    (λ b none named. input_not s.pipework a b p.due p.came named (λ e. none_some (s.actors b) x none (ap s.actors e ∙ is)) (unknown_not s a b p.due so.carries none))))
goes_step d h plan a deed x so is alive (Bears p) =
    subst (λ (deed : Deed). Goes d (deed ∷ h)) (sym p.is) (goes_borne d h a x p.asked (next_pid h) p.child so is alive p.next p.of)
goes_step d h plan a deed x so is alive (Feeds p) =
    subst (λ (deed : Deed). Goes d (deed ∷ h)) (sym p.is) (fed_step d h a x p.slot p.child p.message p.envelope p.args so is alive p.next p.runs p.mail)

pub goes_on : (d : Disk) (h : List Deed) (plan : Plan) (a : List ℕ) (deed : Deed) → Goes d h → StepsTo d h plan a (Happens deed)
    → Goes d (deed ∷ h)
goes_on d h plan a deed so steps =
    let one = has_stepped d h plan a deed steps in
    goes_step d h plan a deed one.actor so one.is one.alive one.did

-- and each start
pub goes_started : (d : Disk) (h : List Deed) (a : List ℕ) (program : Program) → IsMail program → IsMailName a → Goes d h
    → (after d h).actors a ≡ None → start_of program ≤ (after d h).now → Goes d (Came (Start a program) ∷ h)
goes_started d h a program mail named so new begun =
    let other = mail_is_none a named in
    record {
      legal = (so.legal, record { new = new; runs = mail_runs program mail });
      carries = starts_carries (after d h) a program begun (subst (λ (o : Option ℕ). RunsAt o program) (sym (seat_none a other)) (mail_alone program mail)) (λ delivers. absurd (mail_no_delivery program mail delivers))
          (unknown_far (after d h).actors (after d h).pipework.programs a new so.carries.children) so.carries;
      unborn = still_unborn d h (Start a program) so (λ k. record { bounce = no_mail 98 k a named; delivery = no_mail 108 k a named; forward = no_mail 102 k a named })
          (λ k x here none. (x, sym (put_at_other (after d h).actors a (Some (newborn program)) (delivery_name k) (no_mail 108 k a named)) ∙ here, none));
      begun = started_begun (after d h) (history_of h) a program so.begun;
    }

-- and each moment
pub goes_moment : (d : Disk) (h : List Deed) (m : ℕ) → Goes d h → IsMoment m → (after d h).now ≤ m → Goes d (Came (Moment m) ∷ h)
goes_moment d h m so moment later = record {
  legal = (so.legal, record { moment = moment; no_earlier = later });
  carries = moment_carries (after d h) m later so.carries;
  unborn = still_unborn d h (Moment m) so (starts_none (Moment m) (λ b. tt)) (λ k x here none. (x, here, none));
  begun = moment_begun (after d h) (history_of h) m so.begun;
}

-- and each machine stop that leaves what its name says
pub goes_halted : (d : Disk) (h : List Deed) (how : Survival) (named : List ℕ) → Goes d h → Goes d (Came (Halt how (contents_by how (after d h).disk named)) ∷ h)
goes_halted d h how named so =
    let s = after d h in
    let contents = contents_by how s.disk named in
    record {
      legal = (so.legal, halt_survives s.disk how named so.carries.lasting);
      carries = halted_carries s how named so.carries;
      unborn = still_unborn d h (Halt how contents) so (starts_none (Halt how contents) (λ b. tt))
          (λ k x here none. let w = mapped_some stopped (s.actors (delivery_name k)) x here in (w.0, w.1, subst (λ (z : Actor). starts z.past ≡ []) (sym w.2) none));
      begun = halted_begun s (history_of h) how contents;
    }

-- and the start of a generation, if no member of the one before lives
pub goes_generation : (d : Disk) (h : List Deed) → Goes d h → first_alive (after d h) members ≡ None → Goes d (Came (generation_at (after d h).now) ∷ h)
goes_generation d h so none =
    let s = after d h in
    record {
      legal = (
        so.legal,
        record {
          over = λ a x member is alive.
              let dead = All-contains (λ b. lives_in (s.actors b) ≡ false) members a (none_alive s members none) member in
              false≢true (sym dead ∙ ap lives_in is ∙ lives_actor x alive);
          apart = λ a x member is. member_apart a x.program (so.carries.kinds a x is) member;
          kinds = (tt, (tt, (tt, (tt, tt))));
        },
      );
      carries = generation_carries s so.carries;
      unborn = still_unborn d h (generation_at s.now) so (λ k. record { bounce = refl; delivery = refl; forward = refl })
          (λ k x here none. (x, sym (four_other s.actors (Sender s.now) (Cleaner s.now) (LocalSpawner s.now) (RemoteSpawner s.now) (delivery_name k) refl) ∙ here, none));
      begun = generation_begun s (history_of h) (Sender s.now) (Cleaner s.now) (LocalSpawner s.now) (RemoteSpawner s.now) so.begun;
    }

-- and a report
pub goes_report : (d : Disk) (h : List Deed) (slot : ℕ) (output : List ℕ) → Goes d h → awaits_report (after d h) slot ≡ true → Goes d (Came (Report slot output) ∷ h)
goes_report d h slot output so awaits =
    let s = after d h in
    let tests = and_parts (lives_in (s.actors (codes "rspawn"))) (is_unreported (s.pipework.programs (codes "rspawn") slot)) awaits in
    record {
      legal = (
        so.legal,
        record {
          lives = living_in s (codes "rspawn") (s.actors (codes "rspawn")) refl tests.0;
          runs = unreported_is (s.pipework.programs (codes "rspawn") slot) tests.1;
        },
      );
      carries = report_carries s slot output so.carries;
      unborn = still_unborn d h (Report slot output) so (starts_none (Report slot output) (λ b. tt)) (λ k x here none. (x, here, none));
      begun = report_begun s (history_of h) slot output (unreported_is (s.pipework.programs (codes "rspawn") slot) tests.1) so.begun;
    }
