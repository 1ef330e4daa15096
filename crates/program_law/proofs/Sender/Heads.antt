-- The first of a list.
use Rattle.std.proofs.Common.{◌≡◌, List, [], ◌∷◌, Option, Some, subst}
use Rattle.std.specs.Prelude.{All, Contains, slice_get}
use Rattle.std.proofs.lemmas.List.Elements.{All-head}
use Rattle.program_law.proofs.Channel.Counts.{at_head}

pub some_same : {A : Type 0} (x y : A) → ◌≡◌ {A = Option A} (Some x) (Some y) → x ≡ y
some_same x y e = cc

pub first_all : {A : Type 0} (P : A → Type 0) (xs : List A) (x : A) → All P xs → slice_get xs 0 ≡ Some x → P x
first_all P [] x h e = absurd (cc)
first_all P (y ∷ ys) x h e = subst P (some_same y x e) (All-head P y ys h)

pub first_in : {A : Type 0} (xs : List A) (x : A) → slice_get xs 0 ≡ Some x → Contains xs x
first_in [] x e = absurd (cc)
first_in (y ∷ ys) x e = subst (Contains (y ∷ ys)) (some_same y x e) (at_head y ys)
