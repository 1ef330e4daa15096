-- How the actors that a world keeps change as one is over: its child is given no input any more.
use Rattle.std.proofs.Common.{◌≡◌, ◌≢◌, ◌⊎◌, inl, inr, ℕ, ◌+◌, List, set, Bool, true, false, Option, Some, None, refl, sym, ap, ◌∙◌, subst, ⊎_elim}
use Rattle.std.specs.Prelude.{option_map, IsSome}
use Rattle.std.specs.List.{slice_get}
use Rattle.world_events.specs.declared.event.Event.{Event as Kept}
use Rattle.world_pipes.specs.declared.mouths.Mouths.{Mouths}
use Rattle.world_pipes.specs.Mouths.{actor_of}
use Rattle.world_pipes.specs.Pipework.{Tenant, Slot, is_member}
use Rattle.world_pipes.specs.Pipework.Tenant.{Runs, Remote}
use Rattle.mail_world.specs.declared.actor.Actor.{Actor as Held}
use Rattle.mail_world.specs.Children.{place_by_name, child_place, IsCut, HasLeft, HasLeftIf}
use Rattle.mail_world.specs.History.{Actor, Life, State, finished}
use Rattle.mail_world.specs.Readiness.{is_awaiting}
use Rattle.mail_world.specs.Wired.{tenant_in, kept_at, AreWired}
use Rattle.mail_world.specs.Inside.{place_by, among_all, AreActors, ArePiped}
use Rattle.world_events.specs.declared.event.Program.{Program}
use Rattle.world_events.specs.declared.event.Program.TheVariants.{Sender, LocalSpawner, Delivery}
use Rattle.mail_world.specs.ByKind.{BearsIn, IsMail}
use Rattle.mail_world.proofs.Awaiting.{IsChildOf, finish_none, finish_other, finish_parent}
use Rattle.mail_world.proofs.Crew.{apart_by}
use Rattle.mail_world.proofs.Lists.{get_set, some_at}
use Rattle.mail_world.proofs.Members.{whether}
use Rattle.mail_world.proofs.Seats.{seat_none}

-- with the one that is over another one is cut, which awaits nothing then; each other injector awaits what it awaited
pub record IsCutWith (actors stood : List Held) (s t : State) (i : ℕ) (x y : Held) : Type 0 where
  pub place : ℕ
  pub old : Held
  pub new : Held
  pub there : slice_get actors place ≡ Some old
  pub mid : slice_get (set actors i y) place ≡ Some old
  pub other : place ≢ i
  pub apart : old.name ≢ x.name
  pub is : stood ≡ set (set actors i y) place new
  pub cut : IsCut old new
  pub none : is_awaiting t old.name ≡ false
  pub rest : (b : List ℕ) (u : Actor) → s.actors b ≡ Some u → IsMail u.program → b ≢ old.name → is_awaiting t b ≡ is_awaiting s b

-- or only that one changes, and each injector awaits what it awaited
abbrev pub Leaves : List Held → List Held → State → State → ℕ → Held → Held → Type 0
Leaves actors stood s t i x y =
    ((stood ≡ set actors i y) × ((b : List ℕ) (u : Actor) → s.actors b ≡ Some u → IsMail u.program → is_awaiting t b ≡ is_awaiting s b)) ⊎ IsCutWith actors stood s t i x y

-- The child in a slot of an actor

-- it is no member
pub child_named : (crew : ℕ) (mouths : List Mouths) (actors : List Held) (s : State) (events : List Kept) → ArePiped crew mouths actors s events → (a b : List ℕ) {d : ℕ}
    → s.pipework.programs a d ≡ Some (Runs b) → is_member b ≡ false
child_named crew mouths actors s events piped a b {d} runs = ⊎_elim
    (λ member. let both : ◌≡◌ {A = Option Slot} None (Some (record { parent = a; number = d })) = sym (piped.wired.members b member) ∙ piped.wired.children a d b runs in absurd (cc))
    (λ named. named)
    (whether (is_member b))

pub child_of : (crew : ℕ) (mouths : List Mouths) (actors : List Held) (s : State) (events : List Kept) → ArePiped crew mouths actors s events → (a b : List ℕ) {d : ℕ}
    → s.pipework.programs a d ≡ Some (Runs b) → IsChildOf s a b
child_of crew mouths actors s events piped a b {d} runs = record { named = child_named crew mouths actors s events piped a b runs; number = d; slot = piped.wired.children a d b runs }

-- no program runs in a slot of its own kind
no_own_kind : (program : Program) (d : ℕ) → BearsIn program d program → ⊥
no_own_kind (Sender start) d bears = bears.1
no_own_kind (Delivery start args) d bears = bears.1
no_own_kind (LocalSpawner start) d bears = bears
no_own_kind program d bears = absurd bears

-- so nobody runs in a slot of its own
pub child_apart : (crew : ℕ) (places : List ℕ → Option ℕ) (mouths : List Mouths) (actors : List Held) (s : State) (events : List Kept) (p i : ℕ) (x : Held) → AreActors places actors s events p
    → ArePiped crew mouths actors s events → slice_get actors i ≡ Some x → (b : List ℕ) {d : ℕ} → s.pipework.programs x.name d ≡ Some (Runs b) → b ≢ x.name
child_apart crew places mouths actors s events p i x kept piped is b {d} runs = λ same.
    let m = kept.members i x is in
    let born = piped.born x.name d b runs in
    let both : ◌≡◌ {A = Option Actor} (Some born.child) (Some m.actor) = sym born.is ∙ ap s.actors same ∙ m.is in
    let one : born.child ≡ m.actor = cc in
    no_own_kind m.actor.program d (subst (λ (a : Actor). BearsIn m.actor.program d a.program) one (born.bears m.actor m.is))

-- who is known has a place
pub has_place : (places : List ℕ → Option ℕ) (actors : List Held) (s : State) (events : List Kept) (p : ℕ) (b : List ℕ) → AreActors places actors s events p → IsSome (s.actors b) → (j : ℕ) × (places b ≡ Some j)
has_place places actors s events p b kept some = by_place (places b) refl where
  by_place : (o : Option ℕ) → places b ≡ o → (j : ℕ) × (places b ≡ Some j)
  by_place None is = absurd (cc (subst IsSome (kept.strangers b is).unknown some))
  by_place (Some j) is = (j, is)

so_placed : (crew : ℕ) (b : List ℕ) (o : Option ℕ) → place_by_name crew (λ _. o) (Some b) ≡ option_map (λ i. crew + i) o
so_placed crew b None = refl
so_placed crew b (Some i) = refl

pub in_slot : (wires : List ℕ → Option ℕ) (mouths : List Mouths) (s : State) (a b : List ℕ) (wire : Option ℕ) {d : ℕ} → AreWired wires mouths s.pipework → wires a ≡ wire → s.pipework.programs a d ≡ Some (Runs b)
    → tenant_in (kept_at wire mouths) d ≡ Some (Runs b)
in_slot wires mouths s a b wire {d} wired at runs = ap (λ (o : Option ℕ). tenant_in (kept_at o mouths) d) (sym at) ∙ sym (wired.programs a d) ∙ runs

by_tenant : (crew : ℕ) (places : List ℕ → Option ℕ) (mouths : List Mouths) (wire : Option ℕ) (b : List ℕ) → is_member b ≡ false → tenant_in (kept_at wire mouths) 0 ≡ Some (Runs b)
    → child_place mouths wire 0 crew places ≡ among_all crew places b
by_tenant crew places mouths wire b named is =
    ap (λ (o : Option Tenant). place_by_name crew places (actor_of o)) is ∙ so_placed crew b (places b) ∙ sym (ap (λ (o : Option ℕ). place_by crew o (places b)) (seat_none b named))

module _ (crew : ℕ) (places : List ℕ → Option ℕ) (mouths : List Mouths) (actors : List Held) (s : State) (events : List Kept) (a : List ℕ) (wire : Option ℕ)
    (piped : ArePiped crew mouths actors s events) (of : piped.wires a ≡ wire) where
  pub child_is : (b : List ℕ) → s.pipework.programs a 0 ≡ Some (Runs b) → child_place mouths wire 0 crew places ≡ among_all crew places b
  child_is b runs =
      by_tenant crew places mouths wire b (child_named crew mouths actors s events piped a b runs) (in_slot piped.wires mouths s a b wire piped.wired of runs)

  -- who has the place of the child
  pub record IsChildAt (c : ℕ) : Type 0 where
    pub name : List ℕ
    pub runs : s.pipework.programs a 0 ≡ Some (Runs name)
    pub at : among_all crew places name ≡ Some c

  pub child_at : (c : ℕ) → child_place mouths wire 0 crew places ≡ Some c → IsChildAt c
  child_at c at = by_slot (tenant_in (kept_at wire mouths) 0) refl where
    by_slot : (o : Option Tenant) → tenant_in (kept_at wire mouths) 0 ≡ o → IsChildAt c
    by_slot None is = let both : ◌≡◌ {A = Option ℕ} None (Some c) = sym (ap (λ (o : Option Tenant). place_by_name crew places (actor_of o)) is) ∙ at in absurd (cc)
    by_slot (Some (Remote reported)) is = let both : ◌≡◌ {A = Option ℕ} None (Some c) = sym (ap (λ (o : Option Tenant). place_by_name crew places (actor_of o)) is) ∙ at in absurd (cc)
    by_slot (Some (Runs b)) is =
        let runs = piped.wired.programs a 0 ∙ ap (λ (o : Option ℕ). tenant_in (kept_at o mouths) 0) of ∙ is in
        record { name = b; runs = runs; at = sym (child_is b runs) ∙ at }

-- One is over

module _ (crew : ℕ) (places : List ℕ → Option ℕ) (mouths : List Mouths) (actors stood : List Held) (s : State) (events : List Kept) (p : ℕ) (x y : Held) (wire : Option ℕ) (life : Life) (z : Actor)
    (kept : AreActors (among_all crew places) actors s events p) (piped : ArePiped crew mouths actors s events) (of : piped.wires x.name ≡ wire) where
  abbrev t : State
  t = finished s x.name life (Some z)

  -- each injector that isn't in its slot awaits what it awaited
  still : (b : List ℕ) (u : Actor) → s.actors b ≡ Some u → IsMail u.program → (s.pipework.programs x.name 0 ≡ Some (Runs b) → ⊥) → is_awaiting t b ≡ is_awaiting s b
  still b u there mail beyond = ⊎_elim
      (λ awaits.
      let it = piped.awaited b u there mail awaits in
      finish_other s z life x.name b it.parent (child_of crew mouths actors s events piped it.parent b it.runs)
      (λ same. beyond (ap (λ (a : List ℕ). s.pipework.programs a 0) same ∙ it.runs)))
      (λ none. finish_none s z life x.name b none ∙ sym none)
      (whether (is_awaiting s b))

  alone : child_place mouths wire 0 crew places ≡ None → (b : List ℕ) (u : Actor) → s.actors b ≡ Some u → IsMail u.program → is_awaiting t b ≡ is_awaiting s b
  alone none b u there mail = still b u there mail (λ runs.
      let j = has_place (among_all crew places) actors s events p b kept (subst (λ (o : Option Actor). IsSome o) (sym there) refl) in
      let both : ◌≡◌ {A = Option ℕ} None (Some j.0) = sym none ∙ child_is crew places mouths actors s events x.name wire piped of b runs ∙ j.1 in cc)

  cut_with : (i c : ℕ) → slice_get actors i ≡ Some x → IsChildAt crew places mouths actors s events x.name wire piped of c → (v w : Held) → slice_get (set actors i y) c ≡ Some v
      → stood ≡ set (set actors i y) c w → IsCut v w → IsCutWith actors stood s t i x y
  cut_with i c is child v w mid left cut =
      let far = child_apart crew (among_all crew places) mouths actors s events p i x kept piped is child.name child.runs in
      let other : c ≢ i = λ same. far (one_name child.name x.name c i same child.at (kept.placed i x is)) in
      let there : slice_get actors c ≡ Some v = ⊎_elim (λ f. absurd (other f.0)) (λ f. f.1) (get_set actors i y c v mid) in
      let name : v.name ≡ child.name = one_name v.name child.name c c refl (kept.placed c v there) child.at in
      record {
        place = c;
        old = v;
        new = w;
        there = there;
        mid = mid;
        other = other;
        apart = apart_by (among_all crew places) x.name v.name i c (kept.placed i x is) (kept.placed c v there) other;
        is = left;
        cut = cut;
        none = ap (is_awaiting t) name ∙ finish_parent s z life x.name child.name (child_of crew mouths actors s events piped x.name child.name child.runs);
        rest = λ b u known mail beyond. still b u known mail (λ runs.
            let both : ◌≡◌ {A = Option Tenant} (Some (Runs b)) (Some (Runs child.name)) = sym runs ∙ child.runs in
            let same : b ≡ child.name = cc in beyond (same ∙ sym name));
      }
    where
      one_name : (a b : List ℕ) (j k : ℕ) → j ≡ k → among_all crew places a ≡ Some j → among_all crew places b ≡ Some k → a ≡ b
      one_name a b j k same at there =
          let one = some_at (λ (h : Held). h.name ≡ a) (slice_get actors j) (kept.named a j at) in
          let two = some_at (λ (h : Held). h.name ≡ b) (slice_get actors k) (kept.named b k there) in
          let both : ◌≡◌ {A = Option Held} (Some one.0) (Some two.0) = sym one.1 ∙ ap (slice_get actors) same ∙ two.1 in
          let held : one.0 ≡ two.0 = cc in
          sym one.2 ∙ ap (λ (h : Held). h.name) held ∙ two.2

  pub leaves : (i : ℕ) (child : Option ℕ) → slice_get actors i ≡ Some x → child ≡ child_place mouths wire 0 crew places → HasLeft child (set actors i y) stood → Leaves actors stood s t i x y
  leaves i None is at left = inl (left, alone (sym at))
  leaves i (Some c) is at left = inr (cut_with i c is (child_at crew places mouths actors s events x.name wire piped of c (sym at)) left.0 left.1 left.2 left.3 left.4)

-- what it is to leave, by its parts
pub left_by : (over : Bool) (child : Option ℕ) (c : ℕ) (old : List Held) (x y : Held) → over ≡ true → child ≡ Some c → slice_get old c ≡ Some x → IsCut x y → HasLeftIf over child old (set old c y)
left_by over child c old x y over_is some is cut =
    subst (λ (t : Bool). HasLeftIf t child old (set old c y)) (sym over_is)
    (subst (λ (o : Option ℕ). HasLeftIf true o old (set old c y)) (sym some) (x, y, is, refl, cut))
