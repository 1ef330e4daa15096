-- A child that is to start: its name, which nobody has, and how many there are with it.
use Rattle.std.proofs.Common.{◌≡◌, ◌≢◌, ℕ, ◌+◌, ◌<◌, ◌≤◌, List, [], ◌∷◌, ◌++◌, length, Bool, true, false, if◌then◌else◌, Option, Some, None, refl, sym, ap, ◌∙◌, subst, ⊎_elim, arith, bytes_eq}
use Rattle.std.specs.Prelude.{count_by}
use Rattle.std.specs.List.{slice_get}
use Rattle.std.proofs.lemmas.List.Sums.{count_by-le-length}
use Rattle.actor_names.specs.ChildNames.{bounce_name, delivery_name, forward_of}
use Rattle.call_fs.specs.Past.{IsRunBy}
use Rattle.call_fs.specs.Maps.{put_at}
use Rattle.call_fs.proofs.Maps.{put_at_other}
use Rattle.call_fs.specs.declared.past.ChildData.{ChildData}
use Rattle.call_fs.specs.declared.past.ChildData.TheVariants as child
use Rattle.call_fs.specs.declared.past.GotData.TheVariants as got
use Rattle.call_fs.specs.declared.past.NeedData.{NeedData}
use Rattle.call_fs.specs.declared.past.NeedData.TheVariants as needs
use Rattle.call_fs.specs.declared.past.Own.{Own}
use Rattle.call_fs.specs.declared.program.Ready.{Ready}
use Rattle.local_deliver.specs.Deeds.{starts, starts_by}
use Rattle.local_parts.specs.Arguments.{local_args}
use Rattle.world_events.specs.Children.{counts_with}
use Rattle.world_events.specs.Inputs.{bounce, forward}
use Rattle.world_events.specs.declared.event.Event.{Event as Kept}
use Rattle.world_events.specs.declared.event.Event.TheVariants as kept
use Rattle.world_events.specs.declared.event.Program.{Program}
use Rattle.world_events.specs.declared.event.Program.TheVariants.{Injector, Delivery}
use Rattle.mail_world.specs.declared.actor.Actor.{Actor as Held}
use Rattle.mail_world.specs.ByKind.{IsAlone}
use Rattle.mail_world.specs.History.{Actor, State, IsDelivery, IsProgramOf, newborn, next_of, start_of}
use Rattle.mail_world.specs.Inside.{IsNumbered, AreActors}
use Rattle.mail_world.specs.Pipework.{is_member}
use Rattle.mail_world.specs.World.{Counts, counted, is_bounce_start, is_delivery_start, counts_in, child_of}
use Rattle.mail_world.proofs.Bounces.{bounce_other, delivery_other, forward_other, bounce_delivery, bounce_forward, delivery_forward, bounce_mail, delivery_mail, forward_mail}
use Rattle.mail_world.proofs.Feeders.{Starts, forward_by, delivery_starts}
use Rattle.mail_world.proofs.Lists.{some_at}
use Rattle.mail_world.proofs.Numbered.{count_push}
use Rattle.queue_law.proofs.Tests.{text_cases}

-- as many of a kind as there are events at most
pub bounces_within : (events : List Kept) → (counts_in events).bounces ≤ length events
bounces_within events = count_by-le-length is_bounce_start events

pub deliveries_within : (events : List Kept) → (counts_in events).deliveries ≤ length events
deliveries_within events = count_by-le-length is_delivery_start events

-- who is unknown has no place
pub unplaced : (places : List ℕ → Option ℕ) (actors : List Held) (s : State) (events : List Kept) (p : ℕ) (c : List ℕ) → AreActors places actors s events p → s.actors c ≡ None → places c ≡ None
unplaced places actors s events p c kept none = by_place (places c) refl where
  by_place : (o : Option ℕ) → places c ≡ o → o ≡ None
  by_place None at = refl
  by_place (Some j) at =
      let x = some_at (λ (x : Held). x.name ≡ c) (slice_get actors j) (kept.named c j at) in
      let m = kept.members j x.0 x.1 in
      let both : ◌≡◌ {A = Option Actor} (Some m.actor) None = sym m.is ∙ ap s.actors x.2 ∙ none in absurd (cc)

-- the two parts of who is born
pub born_parts : (q : List ℕ × Program) (c : List ℕ) (program : Program) → ◌≡◌ {A = Option (List ℕ × Program)} (Some q) (Some (c, program)) → (q.0 ≡ c) × (q.1 ≡ program)
born_parts q c program born =
    let one : q ≡ (c, program) = cc in
    (ap (λ (q : List ℕ × Program). q.0) one, ap (λ (q : List ℕ × Program). q.1) one)

-- What is new

-- nobody has the name of that child, and its program is the one that was asked for
pub record IsNewChild (places : List ℕ → Option ℕ) (a : List ℕ) (asked : ChildData) (pid p : ℕ) (c : List ℕ) (program : Program) : Type 0 where
  pub named : is_member c ≡ false
  pub new : places c ≡ None
  pub is : IsProgramOf asked pid program
  pub began : start_of program ≡ p
  pub alone : IsAlone program

-- the names that are still to come, and those that deliveries have
pub record HasNames (places : List ℕ → Option ℕ) (s : State) (b : Counts) : Type 0 where
  pub unborn : (n : ℕ) → b.bounces < n → places (bounce_name n) ≡ None
  pub undelivered : (n : ℕ) → b.deliveries < n → (places (delivery_name n) ≡ None) × (places (forward_of (delivery_name n)) ≡ None)
  pub numbered : (a : List ℕ) (x : Actor) → s.actors a ≡ Some x → IsDelivery x.program → IsNumbered s a x

module _ (places : List ℕ → Option ℕ) (actors : List Held) (s : State) (events : List Kept) (now : ℕ) (b : Counts) (a : List ℕ) (parent : Actor) (kept : AreActors places actors s events now) (names : HasNames places s b)
    (is : s.actors a ≡ Some parent) (run : IsRunBy (next_of parent.program) parent.past) (ready : Ready) (pid p : ℕ) where
  pub new_child : (asked : ChildData) → next_of parent.program parent.past p ready ≡ needs.Start asked → Starts parent.program asked → (c : List ℕ) (program : Program)
      → child_of b a asked pid p ≡ Some (c, program) → IsNewChild places a asked pid p c program
  new_child (child.Bounce room) due may c program born =
      let same : ◌≡◌ {A = List ℕ × Program} (bounce_name (b.bounces + 1), Injector (bounce pid p)) (c, program) = cc in
      subst (λ (q : List ℕ × Program). IsNewChild places a (child.Bounce room) pid p q.0 q.1) same
      (record { named = bounce_mail (b.bounces + 1); new = names.unborn (b.bounces + 1) (omega arith); is = (refl, refl, refl); began = refl; alone = tt })
  new_child (child.Local slot words uid) due may c program born =
      let same : ◌≡◌ {A = List ℕ × Program} (delivery_name (b.deliveries + 1), Delivery p (local_args words uid pid)) (c, program) = cc in
      subst (λ (q : List ℕ × Program). IsNewChild places a (child.Local slot words uid) pid p q.0 q.1) same
      (record { named = delivery_mail (b.deliveries + 1); new = (names.undelivered (b.deliveries + 1) (omega arith)).0; is = refl; began = refl; alone = tt })
  new_child (child.Forward uid room) due may c program born =
      let same : ◌≡◌ {A = List ℕ × Program} (forward_of a, Injector (forward uid pid p)) (c, program) = cc in
      let delivers = forward_by parent.program uid room may in
      let number = names.numbered a parent is delivers in
      let none = delivery_starts parent.program parent.past p ready (child.Forward uid room) delivers run due in
      subst (λ (q : List ℕ × Program). IsNewChild places a (child.Forward uid room) pid p q.0 q.1) same
      (record {
        named = ap (λ (a : List ℕ). is_member (forward_of a)) number.named ∙ forward_mail number.number;
        new = unplaced places actors s events now (forward_of a) kept (number.unborn none);
        is = (refl, refl, refl);
        began = refl;
        alone = tt;
      })
  new_child (child.Remote slot domain sender recipient) due may c program born = absurd (cc)

-- How many there are then

one_more : (f : Kept → Bool) (events : List Kept) (k : Kept) → f k ≡ true → count_by f (events ++ k ∷ []) ≡ count_by f events + 1
one_more f events k holds =
    let one = count_push f events k in
    let more : count_by f (k ∷ []) ≡ 1 = ap (λ (t : Bool). 0 + (if t then 1 else 0)) holds in omega (arith, one, more)

as_many : (f : Kept → Bool) (events : List Kept) (k : Kept) → f k ≡ false → count_by f (events ++ k ∷ []) ≡ count_by f events
as_many f events k fails =
    let one = count_push f events k in
    let none : count_by f (k ∷ []) ≡ 0 = ap (λ (t : Bool). 0 + (if t then 1 else 0)) fails in omega (arith, one, none)

both_counts : (m n i j : ℕ) → m ≡ i → n ≡ j → counted m n ≡ counted i j
both_counts m n i j one two = ap (λ (m : ℕ). counted m n) one ∙ ap (counted i) two

pub count_then : (events : List Kept) (b : Counts) (a : List ℕ) (own : Own) (asked : ChildData) (pid p : ℕ) (c : List ℕ) (program : Program) → b ≡ counts_in events → child_of b a asked pid p ≡ Some (c, program)
    → counts_with b asked ≡ counts_in (events ++ kept.Child a own c program ∷ [])
count_then events b a own (child.Bounce room) pid p c program count born =
    let same : Injector (bounce pid p) ≡ program = (born_parts (bounce_name (b.bounces + 1), Injector (bounce pid p)) c program born).1 in
    let k = kept.Child a own c program in
    both_counts (b.bounces + 1) b.deliveries (count_by is_bounce_start (events ++ k ∷ [])) (count_by is_delivery_start (events ++ k ∷ []))
    (ap (λ (b : Counts). b.bounces + 1) count ∙ sym (one_more is_bounce_start events k (ap (λ (program : Program). is_bounce_start (kept.Child a own c program)) (sym same))))
    (ap (λ (b : Counts). b.deliveries) count ∙ sym (as_many is_delivery_start events k (ap (λ (program : Program). is_delivery_start (kept.Child a own c program)) (sym same))))
count_then events b a own (child.Local slot words uid) pid p c program count born =
    let same : Delivery p (local_args words uid pid) ≡ program = (born_parts (delivery_name (b.deliveries + 1), Delivery p (local_args words uid pid)) c program born).1 in
    let k = kept.Child a own c program in
    both_counts b.bounces (b.deliveries + 1) (count_by is_bounce_start (events ++ k ∷ [])) (count_by is_delivery_start (events ++ k ∷ []))
    (ap (λ (b : Counts). b.bounces) count ∙ sym (as_many is_bounce_start events k (ap (λ (program : Program). is_bounce_start (kept.Child a own c program)) (sym same))))
    (ap (λ (b : Counts). b.deliveries + 1) count ∙ sym (one_more is_delivery_start events k (ap (λ (program : Program). is_delivery_start (kept.Child a own c program)) (sym same))))
count_then events b a own (child.Forward uid room) pid p c program count born =
    let same : Injector (forward uid pid p) ≡ program = (born_parts (forward_of a, Injector (forward uid pid p)) c program born).1 in
    let k = kept.Child a own c program in
    both_counts b.bounces b.deliveries (count_by is_bounce_start (events ++ k ∷ [])) (count_by is_delivery_start (events ++ k ∷ []))
    (ap (λ (b : Counts). b.bounces) count ∙ sym (as_many is_bounce_start events k (ap (λ (program : Program). is_bounce_start (kept.Child a own c program)) (sym same))))
    (ap (λ (b : Counts). b.deliveries) count ∙ sym (as_many is_delivery_start events k (ap (λ (program : Program). is_delivery_start (kept.Child a own c program)) (sym same))))
count_then events b a own (child.Remote slot domain sender recipient) pid p c program count born = absurd (cc)

-- Which names are still to come then

module _ (places next : List ℕ → Option ℕ) (s : State) (b : Counts) (a : List ℕ) (asked : ChildData) (pid p at i : ℕ) (c : List ℕ) (program : Program) (names : HasNames places s b)
    (parent : Actor) (is : s.actors a ≡ Some parent) (placed : places a ≡ Some at) (may : Starts parent.program asked)
    (born : child_of b a asked pid p ≡ Some (c, program)) (put : (q : List ℕ) → next q ≡ put_at places c (Some i) q) where
  -- it has no other name
  away : (q : List ℕ) → q ≢ c → places q ≡ None → next q ≡ None
  away q far none = put q ∙ put_at_other places c (Some i) q far ∙ none

  -- the name of a bounce to come
  bounce_far : (asked : ChildData) → Starts parent.program asked → child_of b a asked pid p ≡ Some (c, program) → (m : ℕ) → (counts_with b asked).bounces < m → bounce_name m ≢ c
  bounce_far (child.Bounce room) may born m more same =
      let name : bounce_name (b.bounces + 1) ≡ c = (born_parts (bounce_name (b.bounces + 1), Injector (bounce pid p)) c program born).0 in
      let one = bounce_other m (b.bounces + 1) (same ∙ sym name) in omega (arith, one, more)
  bounce_far (child.Local slot words uid) may born m more same =
      let name : delivery_name (b.deliveries + 1) ≡ c = (born_parts (delivery_name (b.deliveries + 1), Delivery p (local_args words uid pid)) c program born).0 in bounce_delivery m (b.deliveries + 1) (same ∙ sym name)
  bounce_far (child.Forward uid room) may born m more same =
      let name : forward_of a ≡ c = (born_parts (forward_of a, Injector (forward uid pid p)) c program born).0 in
      let number = names.numbered a parent is (forward_by parent.program uid room may) in
      bounce_forward m number.number (same ∙ sym name ∙ ap forward_of number.named)
  bounce_far (child.Remote slot domain sender recipient) may born m more same = cc

  fewer : (asked : ChildData) (m : ℕ) → (counts_with b asked).bounces < m → b.bounces < m
  fewer (child.Bounce room) m more = omega (arith, more)
  fewer (child.Local slot words uid) m more = more
  fewer (child.Forward uid room) m more = more
  fewer (child.Remote slot domain sender recipient) m more = more

  pub unborn_then : (m : ℕ) → (counts_with b asked).bounces < m → next (bounce_name m) ≡ None
  unborn_then m more = away (bounce_name m) (bounce_far asked may born m more) (names.unborn m (fewer asked m more))

  -- and those of a delivery, and of its forward
  delivery_far : (asked : ChildData) → Starts parent.program asked → child_of b a asked pid p ≡ Some (c, program) → (m : ℕ) → (counts_with b asked).deliveries < m → delivery_name m ≢ c
  delivery_far (child.Bounce room) may born m more same =
      let name : bounce_name (b.bounces + 1) ≡ c = (born_parts (bounce_name (b.bounces + 1), Injector (bounce pid p)) c program born).0 in bounce_delivery (b.bounces + 1) m (name ∙ sym same)
  delivery_far (child.Local slot words uid) may born m more same =
      let name : delivery_name (b.deliveries + 1) ≡ c = (born_parts (delivery_name (b.deliveries + 1), Delivery p (local_args words uid pid)) c program born).0 in
      let one = delivery_other m (b.deliveries + 1) (same ∙ sym name) in omega (arith, one, more)
  delivery_far (child.Forward uid room) may born m more same =
      let name : forward_of a ≡ c = (born_parts (forward_of a, Injector (forward uid pid p)) c program born).0 in
      let number = names.numbered a parent is (forward_by parent.program uid room may) in
      delivery_forward m number.number (same ∙ sym name ∙ ap forward_of number.named)
  delivery_far (child.Remote slot domain sender recipient) may born m more same = cc

  forward_far : (asked : ChildData) → Starts parent.program asked → child_of b a asked pid p ≡ Some (c, program) → (m : ℕ) → (counts_with b asked).deliveries < m → forward_of (delivery_name m) ≢ c
  forward_far (child.Bounce room) may born m more same =
      let name : bounce_name (b.bounces + 1) ≡ c = (born_parts (bounce_name (b.bounces + 1), Injector (bounce pid p)) c program born).0 in bounce_forward (b.bounces + 1) m (name ∙ sym same)
  forward_far (child.Local slot words uid) may born m more same =
      let name : delivery_name (b.deliveries + 1) ≡ c = (born_parts (delivery_name (b.deliveries + 1), Delivery p (local_args words uid pid)) c program born).0 in delivery_forward (b.deliveries + 1) m (name ∙ sym same)
  forward_far (child.Forward uid room) may born m more same =
      let name : forward_of a ≡ c = (born_parts (forward_of a, Injector (forward uid pid p)) c program born).0 in
      let number = names.numbered a parent is (forward_by parent.program uid room may) in
      let one = forward_other m number.number (same ∙ sym name ∙ ap forward_of number.named) in
      let both : ◌≡◌ {A = Option ℕ} None (Some at) = sym (names.undelivered m more).0 ∙ ap (λ (n : ℕ). places (delivery_name n)) one ∙ ap places (sym number.named) ∙ placed in cc
  forward_far (child.Remote slot domain sender recipient) may born m more same = cc

  less : (asked : ChildData) (m : ℕ) → (counts_with b asked).deliveries < m → b.deliveries < m
  less (child.Bounce room) m more = more
  less (child.Local slot words uid) m more = omega (arith, more)
  less (child.Forward uid room) m more = more
  less (child.Remote slot domain sender recipient) m more = more

  pub undelivered_then : (m : ℕ) → (counts_with b asked).deliveries < m → (next (delivery_name m) ≡ None) × (next (forward_of (delivery_name m)) ≡ None)
  undelivered_then m more =
      let old = names.undelivered m (less asked m more) in (
        away (delivery_name m) (delivery_far asked may born m more) old.0,
        away (forward_of (delivery_name m)) (forward_far asked may born m more) old.1,
      )

-- The numbers of deliveries then

module _ (places : List ℕ → Option ℕ) (actors : List Held) (s t : State) (events : List Kept) (now : ℕ) (b : Counts) (a : List ℕ) (parent : Actor) (own : Own) (pid p : ℕ) (c : List ℕ) (program : Program)
    (kept : AreActors places actors s events now) (names : HasNames places s b) (is : s.actors a ≡ Some parent) (new : s.actors c ≡ None) (came : own.came ≡ got.Started pid)
    (acts : t.actors a ≡ Some (record { program = parent.program; past = own ∷ parent.past; life = parent.life })) (born_is : t.actors c ≡ Some (newborn program))
    (beside : (q : List ℕ) → q ≢ a → q ≢ c → t.actors q ≡ s.actors q) where
  -- who was unknown and isn't that child is unknown
  unknown_then : (q : List ℕ) → q ≢ c → s.actors q ≡ None → t.actors q ≡ None
  unknown_then q far none = beside q (λ same. let both : ◌≡◌ {A = Option Actor} None (Some parent) = sym none ∙ ap s.actors same ∙ is in cc) far ∙ none

  starts_some : (l : List ChildData) (asked : ChildData) → l ++ asked ∷ [] ≡ [] → ⊥
  starts_some [] asked none = cc
  starts_some (x ∷ l) asked none = cc

  started : (asked : ChildData) → own.due ≡ needs.Start asked → starts (own ∷ parent.past) ≡ [] → ⊥
  started asked due none = starts_some (starts parent.past) asked
      (sym (ap (λ (due : NeedData). starts_by (starts parent.past) due own.came) due ∙ ap (starts_by (starts parent.past) (needs.Start asked)) came) ∙ none)

  -- the forward of another delivery is another one
  forward_apart : (asked : ChildData) → Starts parent.program asked → child_of b a asked pid p ≡ Some (c, program) → (q : List ℕ) (n : ℕ) → q ≡ delivery_name n → q ≢ a → forward_of q ≢ c
  forward_apart (child.Bounce room) may born q n named far same =
      let name : bounce_name (b.bounces + 1) ≡ c = (born_parts (bounce_name (b.bounces + 1), Injector (bounce pid p)) c program born).0 in bounce_forward (b.bounces + 1) n (name ∙ sym same ∙ ap forward_of named)
  forward_apart (child.Local slot words uid) may born q n named far same =
      let name : delivery_name (b.deliveries + 1) ≡ c = (born_parts (delivery_name (b.deliveries + 1), Delivery p (local_args words uid pid)) c program born).0 in delivery_forward (b.deliveries + 1) n (name ∙ sym same ∙ ap forward_of named)
  forward_apart (child.Forward uid room) may born q n named far same =
      let name : forward_of a ≡ c = (born_parts (forward_of a, Injector (forward uid pid p)) c program born).0 in
      let number = names.numbered a parent is (forward_by parent.program uid room may) in
      let one = forward_other n number.number (ap forward_of (sym named) ∙ same ∙ sym name ∙ ap forward_of number.named) in
      far (named ∙ ap delivery_name one ∙ sym number.named)
  forward_apart (child.Remote slot domain sender recipient) may born q n named far same = cc

  -- the child itself, if it is one
  its_number : (asked : ChildData) → child_of b a asked pid p ≡ Some (c, program) → IsDelivery program → (n : ℕ) × (c ≡ delivery_name n) × (s.actors (forward_of c) ≡ None)
  its_number (child.Local slot words uid) born delivers =
      let name : delivery_name (b.deliveries + 1) ≡ c = (born_parts (delivery_name (b.deliveries + 1), Delivery p (local_args words uid pid)) c program born).0 in (
        b.deliveries + 1,
        sym name,
        ap (λ (c : List ℕ). s.actors (forward_of c)) (sym name) ∙ (kept.strangers (forward_of (delivery_name (b.deliveries + 1))) (names.undelivered (b.deliveries + 1) (omega arith)).1).unknown,
      )
  its_number (child.Bounce room) born delivers = let same : Injector (bounce pid p) ≡ program = (born_parts (bounce_name (b.bounces + 1), Injector (bounce pid p)) c program born).1 in absurd (subst IsDelivery (sym same) delivers)
  its_number (child.Forward uid room) born delivers = let same : Injector (forward uid pid p) ≡ program = (born_parts (forward_of a, Injector (forward uid pid p)) c program born).1 in absurd (subst IsDelivery (sym same) delivers)
  its_number (child.Remote slot domain sender recipient) born delivers = absurd (cc)

  pub numbered_then : (asked : ChildData) → own.due ≡ needs.Start asked → Starts parent.program asked → child_of b a asked pid p ≡ Some (c, program)
      → (q : List ℕ) (x : Actor) → t.actors q ≡ Some x → IsDelivery x.program → IsNumbered t q x
  numbered_then asked due may born q x there delivers = ⊎_elim
      (λ (f : (q ≡ c) × (bytes_eq q c ≡ true)).
      let both : ◌≡◌ {A = Option Actor} (Some (newborn program)) (Some x) = sym born_is ∙ ap t.actors (sym f.0) ∙ there in
      let same : newborn program ≡ x = cc in
      let number = its_number asked born (subst (λ (x : Actor). IsDelivery x.program) (sym same) delivers) in
      record {
        number = number.0;
        named = f.0 ∙ number.1;
        unborn = λ none. ap (λ (q : List ℕ). t.actors (forward_of q)) f.0
            ∙ unknown_then (forward_of c) (λ e. delivery_forward number.0 number.0 (sym number.1 ∙ sym e ∙ ap forward_of number.1)) number.2;
      })
      (λ (f : (q ≢ c) × (bytes_eq q c ≡ false)). ⊎_elim
      (λ (g : (q ≡ a) × (bytes_eq q a ≡ true)).
      let both : ◌≡◌ {A = Option Actor} (Some (record { program = parent.program; past = own ∷ parent.past; life = parent.life })) (Some x) = sym acts ∙ ap t.actors (sym g.0) ∙ there in
      let same : record { program = parent.program; past = own ∷ parent.past; life = parent.life } ≡ x = cc in
      let number = names.numbered a parent is (subst (λ (x : Actor). IsDelivery x.program) (sym same) delivers) in
      record {
        number = number.number;
        named = g.0 ∙ number.named;
        unborn = λ none. absurd (started asked due (subst (λ (x : Actor). starts x.past ≡ []) (sym same) none));
      })
      (λ (g : (q ≢ a) × (bytes_eq q a ≡ false)).
      let number = names.numbered q x (sym (beside q g.0 f.0) ∙ there) delivers in
      record {
        number = number.number;
        named = number.named;
        unborn = λ none. unknown_then (forward_of q) (forward_apart asked may born q number.number number.named g.0) (number.unborn none);
      })
      (text_cases q a))
      (text_cases q c)
