-- What a play keeps, and the names of later children: nobody has one of them yet.
use Rattle.std.proofs.Common.{◌≡◌, ◌≢◌, ⊎_elim, ℕ, ◌+◌, ◌<◌, ◌≤◌, List, [], ◌∷◌, ◌++◌, Bool, true, false, bytes_eq, Option, Some, None, refl, sym, ap, ◌∙◌, subst, arith}
use Rattle.std.specs.Prelude.{cond, count_by}
use Rattle.std.proofs.lemmas.List.Sums.{sum_by-cons}
use Rattle.call_fs.specs.declared.past.ChildData.{ChildData}
use Rattle.call_fs.specs.declared.past.ChildData.TheVariants as child
use Rattle.call_fs.specs.declared.past.DeliveryWordsData.{DeliveryWordsData}
use Rattle.call_fs.specs.declared.past.GotData.{GotData}
use Rattle.call_fs.specs.declared.past.GotData.TheVariants.{Started}
use Rattle.call_fs.specs.declared.past.NeedData.{NeedData}
use Rattle.call_fs.specs.declared.past.NeedData.TheVariants as needs
use Rattle.call_fs.specs.declared.past.Own.{Own}
use Rattle.call_fs.specs.declared.program.Ready.{Ready}
use Rattle.call_fs.specs.Disk.{Disk}
use Rattle.call_fs.proofs.Maps.{put_at_same, put_at_other}
use Rattle.call_fs.specs.Past.{IsRunBy}
use Rattle.actor_names.specs.ChildNames.{bounce_name, delivery_name, forward_of}
use Rattle.actor_names.proofs.Children.{same_letter, same_number}
use Rattle.local_deliver.proofs.Forwards.{single}
use Rattle.local_deliver.specs.Deeds.{starts, starts_by}
use Rattle.local_parts.specs.Arguments.{local_args}
use Rattle.world_events.specs.Children.{Counts, child_of}
use Rattle.world_events.specs.Inputs.{bounce, forward}
use Rattle.world_events.specs.declared.event.Program.{Program}
use Rattle.world_events.specs.declared.event.Program.TheVariants.{Injector, Sender, LocalSpawner, Delivery}
use Rattle.mail_world.specs.ByKind.{BearsIn, IsAlone, IsMail}
use Rattle.mail_world.specs.History.{Event, Actor, Life, State, Legal, IsDelivery, IsProgramOf, acted, finished, happens, newborn, next_of, start_of}
use Rattle.mail_world.specs.History.Event.{Child}
use Rattle.mail_world.specs.Inside.{IsBirth}
use Rattle.mail_world.specs.Pipework.{Pipework, is_member, pipework_after, slot_of}
use Rattle.mail_world.proofs.Anew.{none_some, some_is}
use Rattle.mail_world.proofs.Feeders.{Starts}
use Rattle.queue_law.proofs.Tests.{text_cases}
use Rattle.scenario.specs.Deeds.{Deed, history_of, after, is_bounce_birth, is_delivery_birth, counts_in}
use Rattle.scenario.specs.Deeds.Deed.{Came}
use Rattle.scenario.proofs.Births.{StartsNot, still_none, BegunIf}
use Rattle.scenario.proofs.Carried.{Carries, put_actor}

-- no actor has the name of a later child, and none that of the forward of a delivery that has started nothing
pub record AreUnborn (actors : List ℕ → Option Actor) (n : Counts) : Type 0 where
  pub bounces : (k : ℕ) → n.bounces < k → actors (bounce_name k) ≡ None
  pub deliveries : (k : ℕ) → n.deliveries < k → actors (delivery_name k) ≡ None
  pub forwards : (k : ℕ) → n.deliveries < k → actors (forward_of (delivery_name k)) ≡ None
  pub unforwarded : (k : ℕ) (x : Actor) → actors (delivery_name k) ≡ Some x → starts x.past ≡ [] → actors (forward_of (delivery_name k)) ≡ None

pub record Goes (d : Disk) (h : List Deed) : Type 0 where
  pub legal : Legal d (history_of h)
  pub carries : Carries (after d h)
  pub unborn : AreUnborn (after d h).actors (counts_in h)
  pub begun : BegunIf (after d h) (history_of h)

-- Children, as deeds come

pub no_fewer : (is_such : Deed → Bool) (x : Deed) (h : List Deed) → count_by is_such h ≤ count_by is_such (x ∷ h)
no_fewer is_such x h = let one = sum_by-cons (λ (y : Deed). cond (is_such y) 1 0) x h in omega (arith, one)

-- an event starts no child of this number
pub record StartsNone (k : ℕ) (e : Event) : Type 0 where
  pub bounce : StartsNot (bounce_name k) e
  pub delivery : StartsNot (delivery_name k) e
  pub forward : StartsNot (forward_of (delivery_name k)) e

-- a delivery that has started nothing had started nothing before
abbrev pub StartedNone : State → State → Type 0
StartedNone s t = (k : ℕ) (x : Actor) → t.actors (delivery_name k) ≡ Some x → starts x.past ≡ [] → (y : Actor) × (s.actors (delivery_name k) ≡ Some y) × (starts y.past ≡ [])

none_more : (old : List ChildData) (child : ChildData) → old ++ child ∷ [] ≡ [] → ⊥
none_more [] child e = absurd (cc)
none_more (first ∷ old) child e = absurd (cc)

starts_less : (past : List Own) (own : Own) → starts (own ∷ past) ≡ [] → starts past ≡ []
starts_less past own none = by own.due own.came none where
  by : (due : NeedData) (came : GotData) → starts_by (starts past) due came ≡ [] → starts past ≡ []
  by (needs.Start child) (Started pid) none = absurd (none_more (starts past) child none)
  by due came none = none

pub acted_started : (s : State) (a : List ℕ) (own : Own) (wrote : ℕ) (o : Option Actor) → s.actors a ≡ o → StartedNone s (acted s a own wrote o)
acted_started s a own wrote None is k x here none = (x, here, none)
acted_started s a own wrote (Some x) is k y here none = ⊎_elim
    (λ f. (x, ap s.actors f.0 ∙ is, starts_less x.past own (subst (λ (z : Actor). starts z.past ≡ []) (sym f.1) none)))
    (λ f. (y, f.1, none))
    (put_actor s.actors a (delivery_name k) (record { program = x.program; past = own ∷ x.past; life = x.life }) y here)

pub finished_started : (s : State) (a : List ℕ) (life : Life) (o : Option Actor) → s.actors a ≡ o → StartedNone s (finished s a life o)
finished_started s a life None is k x here none = (x, here, none)
finished_started s a life (Some x) is k y here none = ⊎_elim
    (λ f. (x, ap s.actors f.0 ∙ is, subst (λ (z : Actor). starts z.past ≡ []) (sym f.1) none))
    (λ f. (y, f.1, none))
    (put_actor s.actors a (delivery_name k) (record { program = x.program; past = x.past; life = life }) y here)

pub still_unborn : (d : Disk) (h : List Deed) (e : Event) → Goes d h → ((k : ℕ) → StartsNone k e) → StartedNone (after d h) (after d (Came e ∷ h)) → AreUnborn (after d (Came e ∷ h)).actors (counts_in (Came e ∷ h))
still_unborn d h e so none started =
    let s = after d h in
    let bounces = no_fewer is_bounce_birth (Came e) h in
    let deliveries = no_fewer is_delivery_birth (Came e) h in
    record {
      bounces = λ k later. still_none s e (bounce_name k) (none k).bounce (so.unborn.bounces k (omega (arith, bounces, later)));
      deliveries = λ k later. still_none s e (delivery_name k) (none k).delivery (so.unborn.deliveries k (omega (arith, deliveries, later)));
      forwards = λ k later. still_none s e (forward_of (delivery_name k)) (none k).forward (so.unborn.forwards k (omega (arith, deliveries, later)));
      unforwarded = λ k x here past.
          let w = started k x here past in
          still_none s e (forward_of (delivery_name k)) (none k).forward (so.unborn.unforwarded k w.0 w.1 w.2);
    }

-- an event that starts none
pub starts_none : (e : Event) → ((b : List ℕ) → StartsNot b e) → (k : ℕ) → StartsNone k e
starts_none e none k = record { bounce = none (bounce_name k); delivery = none (delivery_name k); forward = none (forward_of (delivery_name k)) }

-- The start of a child

-- who starts so, and under which name
pub record IsBornAs (actors : List ℕ → Option Actor) (parent : Program) (asked : ChildData) (a : List ℕ) (pid now : ℕ) (c : List ℕ × Program) : Type 0 where
  pub named : is_member c.0 ≡ false
  pub alone : IsAlone c.1
  pub called : IsDelivery c.1 → (k : ℕ) × (c.0 ≡ delivery_name k)
  pub bears : BearsIn parent (slot_of asked) c.1
  pub of : IsProgramOf asked pid c.1
  pub begun : start_of c.1 ≡ now
  pub fed : IsBirth (needs.Start asked) (Started pid) → IsMail c.1 × (slot_of asked ≡ 0)
  pub new : actors c.0 ≡ None
  pub still : (w : Pipework) → pipework_after w a (needs.Start asked) (Started pid) 0 ≡ w

bounce_bears : (parent : Program) (room : ℕ) (p : Program) → Starts parent (child.Bounce room) → IsMail p → BearsIn parent 0 p
bounce_bears (Sender start) room p starts mail = (refl, mail)
bounce_bears other room p starts mail = absurd starts

forward_bears : (parent : Program) (uid room : ℕ) (p : Program) → Starts parent (child.Forward uid room) → IsMail p → BearsIn parent 0 p
forward_bears (Delivery start args) uid room p starts mail = (refl, mail)
forward_bears other uid room p starts mail = absurd starts

forward_delivers : (parent : Program) (uid room : ℕ) → Starts parent (child.Forward uid room) → IsDelivery parent
forward_delivers (Delivery start args) uid room starts = tt
forward_delivers other uid room starts = absurd starts

local_bears : (parent : Program) (slot : ℕ) (words : DeliveryWordsData) (uid : ℕ) (p : Program) → Starts parent (child.Local slot words uid) → IsDelivery p → BearsIn parent slot p
local_bears (LocalSpawner start) slot words uid p starts delivers = delivers
local_bears other slot words uid p starts delivers = absurd starts

same_pair : (x y : List ℕ × Program) → ◌≡◌ {A = Option (List ℕ × Program)} (Some x) (Some y) → x ≡ y
same_pair x y e = cc

module _ (actors : List ℕ → Option Actor) (n : Counts) (a : List ℕ) (x : Actor) (pid now : ℕ) (unborn : AreUnborn actors n) (is : actors a ≡ Some x)
    (named : IsDelivery x.program → (k : ℕ) × (a ≡ delivery_name k)) (single : IsDelivery x.program → starts x.past ≡ []) where
  pub born_as : (asked : ChildData) (c : List ℕ × Program) → Starts x.program asked → child_of n a asked pid now ≡ Some c → IsBornAs actors x.program asked a pid now c
  born_as (child.Bounce room) c by of =
      let p = Injector (bounce pid now) in
      subst (IsBornAs actors x.program (child.Bounce room) a pid now) (same_pair (bounce_name (n.bounces + 1), p) c of) (record {
        named = refl;
        alone = tt;
        called = λ no. absurd no;
        bears = bounce_bears x.program room p by tt;
        of = (refl, refl, refl);
        begun = refl;
        fed = λ birth. (tt, refl);
        new = unborn.bounces (n.bounces + 1) (omega arith);
        still = λ w. refl;
      })
  born_as (child.Forward uid room) c by of =
      let p = Injector (forward uid pid now) in
      let delivers = forward_delivers x.program uid room by in
      let at = named delivers in
      subst (IsBornAs actors x.program (child.Forward uid room) a pid now) (same_pair (forward_of a, p) c of) (record {
        named = ap (λ (b : List ℕ). is_member (forward_of b)) at.1;
        alone = tt;
        called = λ no. absurd no;
        bears = forward_bears x.program uid room p by tt;
        of = (refl, refl, refl);
        begun = refl;
        fed = λ birth. (tt, refl);
        new = ap (λ (b : List ℕ). actors (forward_of b)) at.1 ∙ unborn.unforwarded at.0 x (ap actors (sym at.1) ∙ is) (single delivers);
        still = λ w. refl;
      })
  born_as (child.Local slot words uid) c by of =
      let p = Delivery now (local_args words uid pid) in
      subst (IsBornAs actors x.program (child.Local slot words uid) a pid now) (same_pair (delivery_name (n.deliveries + 1), p) c of) (record {
        named = refl;
        alone = tt;
        called = λ yes. (n.deliveries + 1, refl);
        bears = local_bears x.program slot words uid p by tt;
        of = refl;
        begun = refl;
        fed = λ birth. absurd birth;
        new = unborn.deliveries (n.deliveries + 1) (omega arith);
        still = λ w. refl;
      })
  born_as (child.Remote slot domain sender recipient) c by of = absurd (cc)

-- the names of other kinds
delivery_bounce : (m n : ℕ) → delivery_name m ≢ bounce_name n
delivery_bounce m n e = let letter = same_letter 108 98 m n e in absurd (omega (arith, letter))

forward_bounce : (m n : ℕ) → forward_of (delivery_name m) ≢ bounce_name n
forward_bounce m n e = let letter = same_letter 102 98 m n e in absurd (omega (arith, letter))

forward_delivery : (m n : ℕ) → forward_of (delivery_name m) ≢ delivery_name n
forward_delivery m n e = let letter = same_letter 102 108 m n e in absurd (omega (arith, letter))

-- no other one has a name that is left
module _ (d : Disk) (h : List Deed) (a : List ℕ) (x : Actor) (so : Goes d h) (is : (after d h).actors a ≡ Some x)
    (named : IsDelivery x.program → (k : ℕ) × (a ≡ delivery_name k)) where
  abbrev before : State
  before = after d h

  abbrev number : Counts
  number = counts_in h

  abbrev IsUnbornWith : Own → List ℕ → Program → Type 0
  IsUnbornWith own c p = AreUnborn (happens before (Child a own c p)).actors (counts_in (Came (Child a own c p) ∷ h))

  -- who is there beside the new one was there before
  was_started : (own : Own) (c : List ℕ) (p : Program) (k : ℕ) (y : Actor) → delivery_name k ≢ c → (happens before (Child a own c p)).actors (delivery_name k) ≡ Some y → starts y.past ≡ []
      → (z : Actor) × (before.actors (delivery_name k) ≡ Some z) × (starts z.past ≡ [])
  was_started own c p k y far here none =
      acted_started before a own 0 (before.actors a) refl k y (sym (put_at_other (acted before a own 0 (before.actors a)).actors c (Some (newborn p)) (delivery_name k) far) ∙ here) none

  unborn_bounce : (own : Own) (room pid now : ℕ) → IsUnbornWith own (bounce_name (number.bounces + 1)) (Injector (bounce pid now))
  unborn_bounce own room pid now =
      let c = bounce_name (number.bounces + 1) in
      let p = Injector (bounce pid now) in
      let e : Event = Child a own c p in
      let more : (counts_in (Came e ∷ h)).bounces ≡ 1 + number.bounces = sum_by-cons (λ (y : Deed). cond (is_bounce_birth y) 1 0) (Came e) h in
      let same = no_fewer is_delivery_birth (Came e) h in
      record {
        bounces = λ k later. still_none before e (bounce_name k)
            (λ f. let one = same_number 98 k (number.bounces + 1) f in absurd (omega (arith, more, one, later)))
            (so.unborn.bounces k (omega (arith, more, later)));
        deliveries = λ k later. still_none before e (delivery_name k) (delivery_bounce k (number.bounces + 1)) (so.unborn.deliveries k (omega (arith, same, later)));
        forwards = λ k later. still_none before e (forward_of (delivery_name k)) (forward_bounce k (number.bounces + 1)) (so.unborn.forwards k (omega (arith, same, later)));
        unforwarded = λ k y here none.
            let w = was_started own c p k y (delivery_bounce k (number.bounces + 1)) here none in
            still_none before e (forward_of (delivery_name k)) (forward_bounce k (number.bounces + 1)) (so.unborn.unforwarded k w.0 w.1 w.2);
      }

  unborn_delivery : (own : Own) (words : DeliveryWordsData) (uid pid now : ℕ) → IsUnbornWith own (delivery_name (number.deliveries + 1)) (Delivery now (local_args words uid pid))
  unborn_delivery own words uid pid now =
      let c = delivery_name (number.deliveries + 1) in
      let p = Delivery now (local_args words uid pid) in
      let e : Event = Child a own c p in
      let more : (counts_in (Came e ∷ h)).deliveries ≡ 1 + number.deliveries = sum_by-cons (λ (y : Deed). cond (is_delivery_birth y) 1 0) (Came e) h in
      let same = no_fewer is_bounce_birth (Came e) h in
      record {
        bounces = λ k later. still_none before e (bounce_name k) (λ f. delivery_bounce (number.deliveries + 1) k (sym f)) (so.unborn.bounces k (omega (arith, same, later)));
        deliveries = λ k later. still_none before e (delivery_name k)
            (λ f. let one = same_number 108 k (number.deliveries + 1) f in absurd (omega (arith, more, one, later)))
            (so.unborn.deliveries k (omega (arith, more, later)));
        forwards = λ k later. still_none before e (forward_of (delivery_name k)) (forward_delivery k (number.deliveries + 1)) (so.unborn.forwards k (omega (arith, more, later)));
        unforwarded = λ k y here none. ⊎_elim
            (λ (f : (delivery_name k ≡ c) × (bytes_eq (delivery_name k) c ≡ true)).
            let one = same_number 108 k (number.deliveries + 1) f.0 in
            still_none before e (forward_of (delivery_name k)) (forward_delivery k (number.deliveries + 1)) (so.unborn.forwards k (omega (arith, one))))
            (λ (f : (delivery_name k ≢ c) × (bytes_eq (delivery_name k) c ≡ false)).
            let w = was_started own c p k y f.0 here none in
            still_none before e (forward_of (delivery_name k)) (forward_delivery k (number.deliveries + 1)) (so.unborn.unforwarded k w.0 w.1 w.2))
            (text_cases (delivery_name k) c);
      }

  unborn_forward : (own : Own) (uid room pid now : ℕ) → own.due ≡ needs.Start (child.Forward uid room) → own.came ≡ Started pid → (at : (k : ℕ) × (a ≡ delivery_name k))
      → IsUnbornWith own (forward_of a) (Injector (forward uid pid now))
  unborn_forward own uid room pid now due came at =
      let c = forward_of a in
      let p = Injector (forward uid pid now) in
      let e : Event = Child a own c p in
      let name : c ≡ forward_of (delivery_name at.0) = ap forward_of at.1 in
      let bounces = no_fewer is_bounce_birth (Came e) h in
      let deliveries = no_fewer is_delivery_birth (Came e) h in
      let there : before.actors (delivery_name at.0) ≡ Some x = ap before.actors (sym at.1) ∙ is in
      let number_of : (k : ℕ) → forward_of (delivery_name k) ≡ c → k ≡ at.0 = λ k f. same_number 102 k at.0 (f ∙ name) in
      record {
        bounces = λ k later. still_none before e (bounce_name k) (λ f. forward_bounce at.0 k (sym (f ∙ name))) (so.unborn.bounces k (omega (arith, bounces, later)));
        deliveries = λ k later. still_none before e (delivery_name k) (λ f. forward_delivery at.0 k (sym (f ∙ name)))
            (so.unborn.deliveries k (omega (arith, deliveries, later)));
        forwards = λ k later.
            let low : number.deliveries < k = omega (arith, deliveries, later) in
            still_none before e (forward_of (delivery_name k))
            (λ f. none_some (before.actors (delivery_name k)) x (so.unborn.deliveries k low) (ap (λ (q : ℕ). before.actors (delivery_name q)) (number_of k f) ∙ there))
            (so.unborn.forwards k low);
        unforwarded = λ k y here none.
            let apart : delivery_name k ≢ c = λ f. forward_delivery at.0 k (sym (f ∙ name)) in
            let w = was_started own c p k y apart here none in
            let held : (acted before a own 0 (before.actors a)).actors (delivery_name k) ≡ Some y =
            sym (put_at_other (acted before a own 0 (before.actors a)).actors c (Some (newborn p)) (delivery_name k) apart) ∙ here in
            still_none before e (forward_of (delivery_name k))
            (λ f. started_one k y (number_of k f) held none)
            (so.unborn.unforwarded k w.0 w.1 w.2);
      }
    where
      -- it has started one now
      started_one : (k : ℕ) (y : Actor) → k ≡ at.0 → (acted before a own 0 (before.actors a)).actors (delivery_name k) ≡ Some y → starts y.past ≡ [] → ⊥
      started_one k y same held none =
          let now_is : Actor = record { program = x.program; past = own ∷ x.past; life = x.life } in
          let of : (acted before a own 0 (Some x)).actors a ≡ Some y =
          ap (λ (o : Option Actor). (acted before a own 0 o).actors a) (sym is) ∙ ap (acted before a own 0 (before.actors a)).actors (at.1 ∙ ap delivery_name (sym same)) ∙ held in
          let one : now_is ≡ y = some_is now_is y (sym (put_at_same before.actors a (Some now_is)) ∙ of) in
          let past : starts_by (starts x.past) own.due own.came ≡ [] = subst (λ (z : Actor). starts z.past ≡ []) (sym one) none in
          none_more (starts x.past) (child.Forward uid room)
          (sym (ap (λ (due : NeedData). starts_by (starts x.past) due own.came) due ∙ ap (starts_by (starts x.past) (needs.Start (child.Forward uid room))) came) ∙ past)

  pub borne_unborn : (asked : ChildData) (own : Own) (pid now : ℕ) (c : List ℕ × Program) → own.due ≡ needs.Start asked → own.came ≡ Started pid → Starts x.program asked
      → child_of number a asked pid now ≡ Some c → IsUnbornWith own c.0 c.1
  borne_unborn (child.Bounce room) own pid now c due came by of =
      subst (λ (c : List ℕ × Program). IsUnbornWith own c.0 c.1) (same_pair (bounce_name (number.bounces + 1), Injector (bounce pid now)) c of) (unborn_bounce own room pid now)
  borne_unborn (child.Forward uid room) own pid now c due came by of =
      subst (λ (c : List ℕ × Program). IsUnbornWith own c.0 c.1) (same_pair (forward_of a, Injector (forward uid pid now)) c of)
      (unborn_forward own uid room pid now due came (named (forward_delivers x.program uid room by)))
  borne_unborn (child.Local slot words uid) own pid now c due came by of =
      subst (λ (c : List ℕ × Program). IsUnbornWith own c.0 c.1) (same_pair (delivery_name (number.deliveries + 1), Delivery now (local_args words uid pid)) c of) (unborn_delivery own words uid pid now)
  borne_unborn (child.Remote slot domain sender recipient) own pid now c due came by of = absurd (cc)

pub delivery_single : (program : Program) (past : List Own) (now : ℕ) (ready : Ready) (asked : ChildData) → IsRunBy (next_of program) past → next_of program past now ready ≡ needs.Start asked → IsDelivery program
    → starts past ≡ []
delivery_single (Delivery start args) past now ready asked run next delivers = (single args past now ready asked run next).1
delivery_single other past now ready asked run next delivers = absurd delivers
