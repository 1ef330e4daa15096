-- How many actors live, as one of them acts or one more is started, and the room that is kept for them.
use Rattle.std.proofs.Common.{◌≡◌, ℕ, ◌+◌, ◌≤◌, List, [], ◌∷◌, ◌++◌, length, set, Bool, true, false, Option, Some, None, refl, sym, ap, ◌∙◌, subst, arith}
use Rattle.std.proofs.lemmas.Option.{slice_get_within, get_or_from_slice_get}
use Rattle.std.proofs.lemmas.List.{length-append, length-set}
use Rattle.std.proofs.lemmas.List.Sums.{sum_by-set, count_by-le-length}
use Rattle.std.specs.Prelude.{if◌then◌else◌, is_none}
use Rattle.std.specs.List.{slice_get}
use Rattle.mail_world.specs.declared.actor.Actor.{Actor as Held}
use Rattle.world_events.specs.declared.event.History.{History}
use Rattle.mail_world.specs.Children.{HasLeft, HasLeftIf}
use Rattle.mail_world.specs.Inside.{lives, living}
use Rattle.mail_world.specs.Kept.{HasRoom}

abbrev one_if : Held → ℕ
one_if x = if lives x then 1 else 0

-- one actor in another's place
replaced : (actors : List Held) (i : ℕ) (x y : Held) → slice_get actors i ≡ Some x → living (set actors i y) + one_if x ≡ living actors + one_if y
replaced actors i x y is =
    ap (λ (z : Held). living (set actors i y) + one_if z) (sym (get_or_from_slice_get actors i x x is))
    ∙ sum_by-set one_if actors i y x (slice_get_within actors i x is)

-- no more live than there are
pub living_within : (actors : List Held) → living actors ≤ length actors
living_within actors = count_by-le-length lives actors

pub living_set : (actors : List Held) (i : ℕ) (y : Held) → living (set actors i y) ≤ length actors
living_set actors i y = subst (λ (n : ℕ). living (set actors i y) ≤ n) (length-set actors i y) (living_within (set actors i y))

pub living_push : (actors : List Held) (y : Held) → living (actors ++ y ∷ []) ≤ length actors + 1
living_push actors y = subst (λ (n : ℕ). living (actors ++ y ∷ []) ≤ n) (length-append actors (y ∷ [])) (living_within (actors ++ y ∷ []))

-- an actor that acts, and lives as before
pub living_still : (actors : List Held) (i : ℕ) (x y : Held) → slice_get actors i ≡ Some x → y.ended ≡ x.ended → living (set actors i y) ≡ living actors
living_still actors i x y is same =
    let one : one_if y ≡ one_if x = ap (λ (o : Option ℕ). if is_none o then 1 else 0) same in
    let w = replaced actors i x y is in
    omega arith

-- an actor that lived, and is over
pub living_less : (actors : List Held) (i : ℕ) (x y : Held) (at : ℕ) → slice_get actors i ≡ Some x → x.ended ≡ None → y.ended ≡ Some at → living (set actors i y) + 1 ≡ living actors
living_less actors i x y at is lived over =
    let before : one_if x ≡ 1 = ap (λ (o : Option ℕ). if is_none o then 1 else 0) lived in
    let now : one_if y ≡ 0 = ap (λ (o : Option ℕ). if is_none o then 1 else 0) over in
    let w = replaced actors i x y is in
    omega arith

-- one that lives is counted
pub living_some : (actors : List Held) (i : ℕ) (x : Held) → slice_get actors i ≡ Some x → x.ended ≡ None → 1 ≤ living actors
living_some actors i x is lived =
    let over : Held = record x { ended = Some 0 } in
    let w = living_less actors i x over 0 is lived refl in
    omega arith

-- room for more is room for less
pub room_less : (h : History) (more less : ℕ) → less ≤ more → HasRoom h more → HasRoom h less
room_less h more less le room = omega arith

-- the child of one that is over is given no input any more, and lives as before
pub left_many : (child : Option ℕ) (old new : List Held) → HasLeft child old new → length new ≡ length old
left_many None old new left = ap length left
left_many (Some c) old new left = ap length left.3 ∙ length-set old c left.1

pub left_living : (child : Option ℕ) (old new : List Held) → HasLeft child old new → living new ≡ living old
left_living None old new left = ap living left
left_living (Some c) old new left = ap living left.3 ∙ living_still old c left.0 left.1 left.2 left.4.ended

pub left_many_if : (over : Bool) (child : Option ℕ) (old new : List Held) → HasLeftIf over child old new → length new ≡ length old
left_many_if true child old new left = left_many child old new left
left_many_if false child old new left = ap length left
