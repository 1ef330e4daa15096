-- The places that a turn goes through rise, so it ends.
use Rattle.std.proofs.Common.{◌≡◌, ⊎_elim, ◌⊎◌, inl, inr, ℕ, zero, suc, ◌+◌, ◌<◌, ◌≤◌, List, [], ◌∷◌, reverse, Bool, true, false, not, ◌&&◌, Option, Some, None, refl, sym, ap, ◌∙◌, arith}
use Rattle.std.specs.Prelude.{nat_lt, if◌then◌else◌}
use Rattle.std.specs.List.{list_any}
use Rattle.std.specs.Prelude.{bytes_eq}
use Rattle.std.proofs.lemmas.Bool.{and_parts, lt-ltb}
use Rattle.world_events.specs.declared.event.Event.{Event as Kept}
use Rattle.mail_world.specs.Generations.{starts_of, is_lasting, is_next, next_among, next_living}
use Rattle.mail_world.specs.World.{span_of}

-- The next living actor started at this place or a later one

not_before : (at from : ℕ) → not (nat_lt at from) ≡ true → from ≤ at
not_before at from is = by (nat_lt at from) refl
  where
    by : (t : Bool) → nat_lt at from ≡ t → from ≤ at
    by true before = absurd (let both : false ≡ true = sym (ap not before) ∙ is in cc)
    by false other = ⊎_elim (λ le. le) (λ less. absurd (let both : true ≡ false = sym (lt-ltb at from less) ∙ other in cc)) (split from at)
      where
        split : (m n : ℕ) → (m ≤ n) ⊎ (n < m)
        split zero n = inl (omega arith)
        split (suc m) zero = inr (omega arith)
        split (suc m) (suc n) = ⊎_elim (λ le. inl (omega arith)) (λ less. inr (omega arith)) (split m n)

-- the place of the next one, if there is one
abbrev pub place_told : Option (List ℕ × ℕ) → ℕ
place_told None = 0
place_told (Some next) = next.1

among : (from at : ℕ) (starts : List (List ℕ)) (newest : List Kept) (a : List ℕ) (place : ℕ) → next_among from at starts newest ≡ Some (a, place)
    → from ≤ place
among from at [] newest a place is = absurd (cc)
among from at (b ∷ later) newest a place is = by (is_next from at b later newest) refl (among from (at + 1) later newest a place)
  where
    by : (t : Bool) → is_next from at b later newest ≡ t → (next_among from (at + 1) later newest ≡ Some (a, place) → from ≤ place) → from ≤ place
    by true here_is rest =
        let found : ◌≡◌ {A = Option (List ℕ × ℕ)} (Some (b, at)) (Some (a, place)) =
        sym (ap (λ t. if t then Some (b, at) else next_among from (at + 1) later newest) here_is) ∙ is in
        let here : at ≡ place = ap place_told found in
        let low = not_before at from (and_parts (not (nat_lt at from)) (not (list_any (bytes_eq b) later) && is_lasting (span_of b newest)) here_is).0 in
        omega arith
    by false other later_on = later_on (sym (ap (λ t. if t then Some (b, at) else next_among from (at + 1) later newest) other) ∙ is)

pub next_rises : (events : List Kept) (from place : ℕ) (a : List ℕ) → next_living from events ≡ Some (a, place) → from ≤ place
next_rises events from place a is = among from 0 (starts_of (reverse events)) (reverse events) a place is
