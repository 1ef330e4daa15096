-- The first member that lives.
use Rattle.std.proofs.Common.{◌≡◌, ◌≢◌, ◌⊎◌, ℕ, zero, suc, ◌+◌, ◌<◌, ◌≤◌, List, [], ◌∷◌, ◌++◌, length, map, reverse, Bool, true, false, Option, Some, None, refl, sym, ap, ◌∙◌, subst, ⊎_elim, codes, arith}
use Rattle.std.specs.Prelude.{All, take, is_none, if◌then◌else◌}
use Rattle.std.specs.List.{slice_get}
use Rattle.std.proofs.lemmas.List.{map-append}
use Rattle.std.proofs.lemmas.List.Elements.{All-nil, All-cons, All-head, All-tail, All-contains}
use Rattle.actor_names.specs.MailNames.{members}
use Rattle.world_events.specs.declared.event.Event.{Event as Kept}
use Rattle.mail_world.specs.declared.actor.Actor.{Actor as Held}
use Rattle.mail_world.specs.Pipework.{is_member}
use Rattle.mail_world.specs.History.{State}
use Rattle.mail_world.specs.World.{span_of}
use Rattle.mail_world.specs.World.Span.{Lasting}
use Rattle.mail_world.specs.Wired.{seat}
use Rattle.mail_world.specs.Crew.{IsFirst}
use Rattle.mail_world.specs.Generations.{IsFirstAlive, IsNoneAlive}
use Rattle.mail_world.specs.Inside.{span_by, among_all, AreActors}
use Rattle.mail_world.proofs.Begun.{NoneLives}
use Rattle.mail_world.proofs.Noted.{seat_at_place, low_or_not}
use Rattle.mail_world.proofs.Members.{member_contained}
use Rattle.mail_world.proofs.Seats.{by_seat, seat_member}

abbrev name : Held → List ℕ
name x = x.name

-- The first of some names of which something holds is one

module _ (Q : List ℕ → Type 0) where
  first_one : (xs ys : List (List ℕ)) (a b : List ℕ) (us vs : List (List ℕ)) → xs ++ a ∷ us ≡ ys ++ b ∷ vs → Q a → Q b → All (λ x. Q x → ⊥) xs → All (λ y. Q y → ⊥) ys → a ≡ b
  first_one [] [] a b us vs same qa qb none other = cc
  first_one [] (y ∷ ys) a b us vs same qa qb none other = let head : a ≡ y = cc in absurd (All-head (λ (x : List ℕ). Q x → ⊥) y ys other (subst Q head qa))
  first_one (x ∷ xs) [] a b us vs same qa qb none other = let head : x ≡ b = cc in absurd (All-head (λ (x : List ℕ). Q x → ⊥) x xs none (subst Q (sym head) qb))
  first_one (x ∷ xs) (y ∷ ys) a b us vs same qa qb none other =
      let rest : xs ++ a ∷ us ≡ ys ++ b ∷ vs = cc in first_one xs ys a b us vs rest qa qb (All-tail (λ (x : List ℕ). Q x → ⊥) x xs none) (All-tail (λ (x : List ℕ). Q x → ⊥) y ys other)

  -- none of all is none of those that come first
  none_here : (xs : List (List ℕ)) (a : List ℕ) (us : List (List ℕ)) → All (λ x. Q x → ⊥) (xs ++ a ∷ us) → Q a → ⊥
  none_here [] a us none q = All-head (λ (x : List ℕ). Q x → ⊥) a us none q
  none_here (x ∷ xs) a us none q = none_here xs a us (All-tail (λ (x : List ℕ). Q x → ⊥) x (xs ++ a ∷ us) none) q

-- The names of those in the first places

seat_here : (crew : ℕ) (places : List ℕ → Option ℕ) (actors : List Held) (s : State) (events : List Kept) (p i : ℕ) (x : Held) → AreActors (among_all crew places) actors s events p → i < crew
    → slice_get actors i ≡ Some x → seat x.name ≡ Some i
seat_here crew places actors s events p i x kept low is = seat_at_place crew places x.name i (kept.placed i x is) ∙ ⊎_elim
    (λ f. ap (λ (t : Bool). if t then Some i else None) f.1)
    (λ f. let high = f.0 in absurd (omega (arith, low, high)))
    (low_or_not i crew)

abbrev named : ℕ → List ℕ
named zero = codes "sender"
named (suc zero) = codes "clean"
named (suc (suc zero)) = codes "lspawn"
named other = codes "rspawn"

name_here : (a : List ℕ) (i : ℕ) → seat a ≡ Some i → a ≡ named i
name_here a i at = by_seat (λ (a : List ℕ) (i : ℕ). a ≡ named i) refl refl refl refl a i at

four_names : (p q r t u v w z : List ℕ) → p ≡ u → q ≡ v → r ≡ w → t ≡ z → ◌≡◌ {A = List (List ℕ)} (p ∷ q ∷ r ∷ t ∷ []) (u ∷ v ∷ w ∷ z ∷ [])
four_names p q r t u v w z hp hq hr ht = cc

names_are : (places : List ℕ → Option ℕ) (actors : List Held) (s : State) (events : List Kept) (p : ℕ) → AreActors (among_all 4 places) actors s events p → 4 ≤ length actors → map name (take 4 actors) ≡ members
names_are places [] s events p kept many = absurd (omega arith)
names_are places (a ∷ []) s events p kept many = absurd (omega arith)
names_are places (a ∷ b ∷ []) s events p kept many = absurd (omega arith)
names_are places (a ∷ b ∷ c ∷ []) s events p kept many = absurd (omega arith)
names_are places (a ∷ b ∷ c ∷ d ∷ rest) s events p kept many =
    let all : List Held = a ∷ b ∷ c ∷ d ∷ rest in
    four_names a.name b.name c.name d.name (codes "sender") (codes "clean") (codes "lspawn") (codes "rspawn")
    (name_here a.name 0 (seat_here 4 places all s events p 0 a kept (omega arith) refl))
    (name_here b.name 1 (seat_here 4 places all s events p 1 b kept (omega arith) refl))
    (name_here c.name 2 (seat_here 4 places all s events p 2 c kept (omega arith) refl))
    (name_here d.name 3 (seat_here 4 places all s events p 3 d kept (omega arith) refl))

-- whose life the list tells
abbrev IsTold : List Kept → Held → Type 0
IsTold events x = span_of x.name (reverse events) ≡ span_by x.ended

abbrev AreTold : List Kept → List Held → Type 0
AreTold events xs = All (IsTold events) xs

abbrev IsOver : Held → Type 0
IsOver x = is_none x.ended ≡ false

abbrev LastsNot : List Kept → List ℕ → Type 0
LastsNot events b = span_of b (reverse events) ≡ Lasting → ⊥

told_take : (n : ℕ) (places : List ℕ → Option ℕ) (actors all : List Held) (k : ℕ) (s : State) (events : List Kept) (p : ℕ) → AreActors places all s events p
    → ((i : ℕ) → slice_get actors i ≡ slice_get all (k + i)) → AreTold events (take n actors)
told_take zero places actors all k s events p kept there = All-nil (IsTold events)
told_take (suc n) places [] all k s events p kept there = All-nil (IsTold events)
told_take (suc n) places (x ∷ actors) all k s events p kept there =
    All-cons (IsTold events) x (take n actors) ((kept.members (k + 0) x (sym (there 0))).spans)
    (told_take n places actors all (k + 1) s events p kept (λ i. let e : k + suc i ≡ k + 1 + i = omega arith in there (suc i) ∙ ap (slice_get all) e))

told_first : (events : List Kept) (before : List Held) (x : Held) (later : List Held) → AreTold events (before ++ x ∷ later) → span_of x.name (reverse events) ≡ span_by x.ended
told_first events [] x later told = All-head (IsTold events) x later told
told_first events (y ∷ before) x later told = told_first events before x later (All-tail (IsTold events) y (before ++ x ∷ later) told)

over_span : (o : Option ℕ) → is_none o ≡ false → span_by o ≢ Lasting
over_span None over e = cc
over_span (Some at) over e = cc

-- who has ended lasts no more
none_before : (events : List Kept) (before rest : List Held) → AreTold events (before ++ rest) → All IsOver before → All (LastsNot events) (map name before)
none_before events [] rest told over = All-nil (LastsNot events)
none_before events (x ∷ before) rest told over =
    All-cons (LastsNot events) x.name (map name before)
    (λ e. over_span x.ended (All-head IsOver x before over) (sym (All-head (IsTold events) x (before ++ rest) told) ∙ e))
    (none_before events before rest (All-tail (IsTold events) x (before ++ rest) told) (All-tail IsOver x before over))

-- the first of those that are kept is the first of all
pub first_alive : (places : List ℕ → Option ℕ) (actors : List Held) (s : State) (events : List Kept) (p : ℕ) (a : List ℕ) → AreActors (among_all 4 places) actors s events p → 4 ≤ length actors
    → IsFirst (take 4 actors) (Some a) → IsFirstAlive events a
first_alive places actors s events p a kept many first =
    let before = first.0 in
    let x = first.1 in
    let later = first.2 in
    let told : AreTold events (before ++ x ∷ later) = subst (AreTold events) first.3 (told_take 4 (among_all 4 places) actors actors 0 s events p kept (λ i. let e : i ≡ 0 + i = omega arith in ap (slice_get actors) e)) in
    let names : members ≡ map name before ++ x.name ∷ map name later =
    sym (names_are places actors s events p kept many) ∙ ap (map name) first.3 ∙ map-append name before (x ∷ later) in
    subst (IsFirstAlive events) first.5 (record {
      before = map name before;
      later = map name later;
      among = names;
      lives = told_first events before x later told ∙ ap span_by first.4;
      none = none_before events before (x ∷ later) told first.6;
    })

no_middle : (before later : List Held) (x : Held) → [] ≡ before ++ x ∷ later → ⊥
no_middle [] later x is = cc
no_middle (y ∷ before) later x is = cc

empty_first : (a : List ℕ) → IsFirst [] (Some a) → ⊥
empty_first a first = no_middle first.0 first.2 first.1 first.3

-- so it is, if there are members or none
pub crew_first : (crew : ℕ) (places : List ℕ → Option ℕ) (actors : List Held) (s : State) (events : List Kept) (p : ℕ) (a : List ℕ) → AreActors (among_all crew places) actors s events p
    → (crew ≡ 0) ⊎ (crew ≡ 4) → crew ≤ length actors → IsFirst (take crew actors) (Some a) → IsFirstAlive events a
crew_first crew places actors s events p a kept few many first = ⊎_elim
    (λ none. absurd (empty_first a (subst (λ (n : ℕ). IsFirst (take n actors) (Some a)) none first)))
    (λ four. first_alive places actors s events p a (subst (λ (n : ℕ). AreActors (among_all n places) actors s events p) four kept) (subst (λ (n : ℕ). n ≤ length actors) four many)
    (subst (λ (n : ℕ). IsFirst (take n actors) (Some a)) four first))
    few

pub one_first : (events : List Kept) (a b : List ℕ) → IsFirstAlive events a → IsFirstAlive events b → a ≡ b
one_first events a b first other =
    first_one (λ b. span_of b (reverse events) ≡ Lasting) first.before other.before a b first.later other.later (sym first.among ∙ other.among) first.lives other.lives first.none other.none

pub none_first : (events : List Kept) (a : List ℕ) → IsNoneAlive events → IsFirstAlive events a → ⊥
none_first events a none first =
    none_here (λ b. span_of b (reverse events) ≡ Lasting) first.before a first.later (subst (All (λ b. span_of b (reverse events) ≡ Lasting → ⊥)) first.among none) first.lives

-- none of those in the first places lives, if none of the members does

ended_at : (o : Option ℕ) → is_none o ≡ false → (at : ℕ) × (o ≡ Some at)
ended_at None over = absurd cc
ended_at (Some at) over = (at, refl)

pub none_lives : (crew : ℕ) (actors : List Held) → All (λ x. is_none x.ended ≡ false) (take crew actors) → NoneLives crew actors
none_lives zero actors over i x low is = absurd (omega arith)
none_lives (suc n) [] over i x low is = absurd cc
none_lives (suc n) (y ∷ ys) over zero x low is = let same : y ≡ x = cc in ended_at x.ended (subst IsOver same (All-head IsOver y (take n ys) over))
none_lives (suc n) (y ∷ ys) over (suc i) x low is = none_lives n ys (All-tail IsOver y (take n ys) over) i x (omega arith) is

of_member : (P : List ℕ → Type 0) → All P members → (a : List ℕ) → is_member a ≡ true → P a
of_member P all a is = All-contains P members a all (member_contained a is)

lasts_not : (o : Option ℕ) → span_by o ≢ Lasting → (at : ℕ) × (o ≡ Some at)
lasts_not None over = absurd (over refl)
lasts_not (Some at) over = (at, refl)

pub lives_none : (crew : ℕ) (places : List ℕ → Option ℕ) (actors : List Held) (s : State) (events : List Kept) (p : ℕ) → AreActors (among_all crew places) actors s events p → IsNoneAlive events → NoneLives crew actors
lives_none crew places actors s events p kept none i x low is =
    let member = seat_member x.name i (seat_here crew places actors s events p i x kept low is) in
    lasts_not x.ended (λ e. of_member (λ b. span_of b (reverse events) ≢ Lasting) none x.name member ((kept.members i x is).spans ∙ e))
