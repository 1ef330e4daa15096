-- What stands before a place.
use Rattle.std.proofs.Common.{◌≡◌, ℕ, List, length, take, Bool, true, false, cond, nat_lt, refl, sym, ap, Option, Some, None}
use Rattle.std.specs.List.{before_first, position, position_or_len}
use Rattle.std.proofs.lemmas.Bool.{ltb-false}
use Rattle.std.proofs.lemmas.List.{take_all}

pub before_place : (p : ℕ → Bool) (text : List ℕ) (at : ℕ) → position p text ≡ Some at → take at text ≡ before_first p text
before_place p text at e = ap (λ n. take n text) (sym (by (nat_lt (position_or_len p text) (length text)) e))
  where
    by : (b : Bool) → cond b (Some (position_or_len p text)) None ≡ Some at → position_or_len p text ≡ at
    by true e = cc
    by false e = absurd (cc)

pub before_none : (p : ℕ → Bool) (text : List ℕ) → position p text ≡ None → text ≡ before_first p text
before_none p text e = sym (take_all (position_or_len p text) text (ltb-false (position_or_len p text) (length text) (by (nat_lt (position_or_len p text) (length text)) e)))
  where
    by : (b : Bool) → ◌≡◌ {A = Option ℕ} (cond b (Some (position_or_len p text)) None) None → b ≡ false
    by true e = absurd (cc)
    by false e = refl
