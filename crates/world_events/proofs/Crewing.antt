-- The order of starts, as a generation starts.
use Rattle.std.proofs.Common.{◌≡◌, ◌⊎◌, inl, inr, ℕ, zero, suc, ◌+◌, ◌-◌, ◌<◌, ◌≤◌, List, [], ◌∷◌, ◌++◌, length, drop, Bool, true, false, not, ◌||◌, Option, Some, None, is_some, refl, sym, ap, ◌∙◌, subst, ⊎_elim, arith, bytes_eq, codes}
use Rattle.std.specs.Prelude.{if◌then◌else◌, nat_lt, option_map}
use Rattle.std.specs.List.{slice_get, list_any}
use Rattle.std.proofs.Math.Bool.{or-false, or-true}
use Rattle.std.proofs.lemmas.Bool.{lt-ltb, le-ltb}
use Rattle.std.proofs.lemmas.List.{length-append}
use Rattle.std.proofs.lemmas.List.Folds.{list_any-append}
use Rattle.std.proofs.lemmas.Option.{slice_get_within}
use Rattle.actor_names.specs.MailNames.{members}
use Rattle.world_events.specs.declared.starts.Starts.{Starts}
use Rattle.world_pipes.specs.Pipework.{is_member}
use Rattle.world_pipes.specs.Wired.{seat}
use Rattle.world_events.specs.Starts.{place_by_entry}
use Rattle.world_events.specs.Order.{AreStarts}
use Rattle.world_events.specs.Places.{among_all}
use Rattle.world_events.proofs.AmongAll.{after_seat, place_of_mail, same_some, four_places}
use Rattle.world_pipes.proofs.Members.{whether}
use Rattle.world_events.proofs.Placing.{low_or_high, number_members, others_members, crew_members}
use Rattle.world_pipes.proofs.Seats.{seat_some, seat_none, no_seat}

-- two lists, one after the other

abbrev IsThere : {X : Type 0} → List X → List X → ℕ → X → Type 0
IsThere xs ys at z = (slice_get xs at ≡ Some z) ⊎ ((j : ℕ) × (at ≡ length xs + j) × (slice_get ys j ≡ Some z))

get_append : {X : Type 0} (xs ys : List X) (at : ℕ) (z : X) → slice_get (xs ++ ys) at ≡ Some z → IsThere xs ys at z
get_append [] ys at z is = inr (at, omega arith, is)
get_append (x ∷ xs) ys zero z is = inl is
get_append (x ∷ xs) ys (suc at) z is = ⊎_elim
    (λ f. inl f)
    (λ f. let e = f.1 in inr (f.0, omega (arith, e), f.2))
    (get_append xs ys at z is)

drop_in : {X : Type 0} (n : ℕ) (xs ys : List X) → n ≤ length xs → drop n (xs ++ ys) ≡ drop n xs ++ ys
drop_in zero xs ys le = refl
drop_in (suc n) [] ys le = absurd (omega arith)
drop_in (suc n) (x ∷ xs) ys le = drop_in n xs ys (omega arith)

drop_past : {X : Type 0} (xs ys : List X) (n j : ℕ) → n ≡ length xs + j → drop n (xs ++ ys) ≡ drop j ys
drop_past [] ys n j e = let same : n ≡ j = omega (arith, e) in ap (λ (n : ℕ). drop n ys) same
drop_past (x ∷ xs) ys zero j e = absurd (omega (arith, e))
drop_past (x ∷ xs) ys (suc n) j e = drop_past xs ys n j (omega (arith, e))

-- the four entries and names
four_by : (P : ℕ → ℕ → List ℕ → Type 0) → P 0 0 (codes "sender") → P 1 1 (codes "clean") → P 2 2 (codes "lspawn") → P 3 3 (codes "rspawn")
    → (j entry : ℕ) (b : List ℕ) → slice_get (0 ∷ 1 ∷ 2 ∷ 3 ∷ []) j ≡ Some entry → slice_get members j ≡ Some b → P j entry b
four_by P p q r s zero entry b is named = let e : 0 ≡ entry = cc in let n : codes "sender" ≡ b = cc in subst (P 0 entry) n (subst (λ (k : ℕ). P 0 k (codes "sender")) e p)
four_by P p q r s (suc zero) entry b is named = let e : 1 ≡ entry = cc in let n : codes "clean" ≡ b = cc in subst (P 1 entry) n (subst (λ (k : ℕ). P 1 k (codes "clean")) e q)
four_by P p q r s (suc (suc zero)) entry b is named = let e : 2 ≡ entry = cc in let n : codes "lspawn" ≡ b = cc in subst (P 2 entry) n (subst (λ (k : ℕ). P 2 k (codes "lspawn")) e r)
four_by P p q r s (suc (suc (suc zero))) entry b is named = let e : 3 ≡ entry = cc in let n : codes "rspawn" ≡ b = cc in subst (P 3 entry) n (subst (λ (k : ℕ). P 3 k (codes "rspawn")) e s)
four_by P p q r s (suc (suc (suc (suc j)))) entry b is named = absurd cc

-- the entry of a mail, and that of a member
high_entry : (crew newest at entry : ℕ) → 4 ≤ entry → place_by_entry crew newest at (Some entry) ≡ Some (crew + (entry - 4))
high_entry crew newest at entry high = ap (λ (t : Bool). if t then (if nat_lt at newest then None else Some entry) else Some (crew + (entry - 4))) (le-ltb entry 4 high)

old_entry : (crew newest at entry : ℕ) → entry < 4 → at < newest → place_by_entry crew newest at (Some entry) ≡ None
old_entry crew newest at entry low before =
    ap (λ (t : Bool). if t then (if nat_lt at newest then None else Some entry) else Some (crew + (entry - 4))) (lt-ltb entry 4 low)
    ∙ ap (λ (t : Bool). if t then None else Some entry) (lt-ltb at newest before)

new_entry : (crew newest at entry : ℕ) → entry < 4 → newest ≤ at → place_by_entry crew newest at (Some entry) ≡ Some entry
new_entry crew newest at entry low after =
    ap (λ (t : Bool). if t then (if nat_lt at newest then None else Some entry) else Some (crew + (entry - 4))) (lt-ltb entry 4 low)
    ∙ ap (λ (t : Bool). if t then None else Some entry) (le-ltb at newest after)

module _ (starts later : Starts) (crew : ℕ) (places : List ℕ → Option ℕ) (names : List (List ℕ)) (order : later.order.items ≡ starts.order.items ++ 0 ∷ 1 ∷ 2 ∷ 3 ∷ [])
    (newest : later.newest ≡ length starts.order.items) (are : AreStarts starts crew places names) where
  abbrev IsOld : ℕ → ℕ → List ℕ → Type 0
  IsOld at entry b = (slice_get starts.order.items at ≡ Some entry) × (slice_get names at ≡ Some b)

  abbrev IsNew : ℕ → ℕ → List ℕ → Type 0
  IsNew at entry b = (j : ℕ) × (at ≡ length names + j) × (slice_get (0 ∷ 1 ∷ 2 ∷ 3 ∷ []) j ≡ Some entry) × (slice_get members j ≡ Some b)

  which : (at entry : ℕ) (b : List ℕ) → slice_get later.order.items at ≡ Some entry → slice_get (names ++ members) at ≡ Some b → IsOld at entry b ⊎ IsNew at entry b
  which at entry b is named =
      let many = are.many in
      ⊎_elim
      (λ f. ⊎_elim
      (λ g. inl (f, g))
      (λ g. let low = slice_get_within starts.order.items at entry f in let end = g.1 in absurd (omega (arith, low, end, many)))
      (get_append names members at b named))
      (λ f. ⊎_elim
      (λ g. let low = slice_get_within names at b g in let end = f.1 in absurd (omega (arith, low, end, many)))
      (λ g.
      let one = f.1 in
      let two = g.1 in
      let same : f.0 ≡ g.0 = omega (arith, one, two, many) in
      inr (g.0, two, subst (λ (j : ℕ). slice_get (0 ∷ 1 ∷ 2 ∷ 3 ∷ []) j ≡ Some entry) same f.2, g.2))
      (get_append names members at b named))
      (get_append starts.order.items (0 ∷ 1 ∷ 2 ∷ 3 ∷ []) at entry (ap (λ (l : List ℕ). slice_get l at) (sym order) ∙ is))

  -- a mail's place
  mail_place : (at entry : ℕ) (b : List ℕ) → IsOld at entry b → 4 ≤ entry → (seat b ≡ None) × (places b ≡ Some (entry - 4))
  mail_place at entry b old high = after_seat crew (entry - 4) places b (are.placed at entry (crew + (entry - 4)) b old.0 old.1 (high_entry crew starts.newest at entry high))

  known_still : (b : List ℕ) → is_some (among_all crew places b) ≡ true → is_some (among_all 4 places b) ≡ true
  known_still b is = ⊎_elim
      (λ member. let h = seat_some b member in ap is_some (four_places places b h.at h.is h.low))
      (λ other. ap is_some (place_of_mail 4 places b (seat_none b other)) ∙ sym (same_some crew (places b)) ∙ sym (ap is_some (place_of_mail crew places b (seat_none b other))) ∙ is)
      (whether (is_member b))

  old_placed : (at entry i : ℕ) (b : List ℕ) → IsOld at entry b → place_by_entry 4 later.newest at (Some entry) ≡ Some i → among_all 4 places b ≡ Some i
  old_placed at entry i b old place = ⊎_elim
      (λ low.
      let before = slice_get_within starts.order.items at entry old.0 in
      let both : ◌≡◌ {A = Option ℕ} None (Some i) = sym (old_entry 4 later.newest at entry low (omega (arith, before, newest))) ∙ place in absurd (cc))
      (λ high.
      let m = mail_place at entry b old high in
      place_of_mail 4 places b m.0 ∙ ap (option_map (λ i. 4 + i)) m.1 ∙ sym (high_entry 4 later.newest at entry high) ∙ place)
      (low_or_high entry 4)

  any_more : (at : ℕ) (b : List ℕ) → slice_get names at ≡ Some b → list_any (bytes_eq b) (drop (suc at) (names ++ members)) ≡ (list_any (bytes_eq b) (drop (suc at) names) || is_member b)
  any_more at b is =
      let low = slice_get_within names at b is in
      ap (list_any (bytes_eq b)) (drop_in (suc at) names members (omega (arith, low))) ∙ list_any-append (bytes_eq b) (drop (suc at) names) members

  old_last : (at entry : ℕ) (b : List ℕ) → IsOld at entry b → is_some (place_by_entry 4 later.newest at (Some entry)) ≡ not (list_any (bytes_eq b) (drop (suc at) (names ++ members)))
  old_last at entry b old = ⊎_elim
      (λ low.
      let before = slice_get_within starts.order.items at entry old.0 in
      ap is_some (old_entry 4 later.newest at entry low (omega (arith, before, newest)))
      ∙ ap not (sym (any_more at b old.1 ∙ ap (λ (t : Bool). list_any (bytes_eq b) (drop (suc at) names) || t) (are.seats at entry b old.0 old.1 low) ∙ or-true (list_any (bytes_eq b) (drop (suc at) names)))))
      (λ high.
      let m = mail_place at entry b old high in
      ap is_some (high_entry 4 later.newest at entry high) ∙ sym (ap is_some (high_entry crew starts.newest at entry high)) ∙ are.last at entry b old.0 old.1
      ∙ ap not (sym (any_more at b old.1 ∙ ap (λ (t : Bool). list_any (bytes_eq b) (drop (suc at) names) || t) (no_seat b m.0) ∙ or-false (list_any (bytes_eq b) (drop (suc at) names)))))
      (low_or_high entry 4)

  -- what is so of each of the four
  abbrev IsFine : ℕ → ℕ → List ℕ → Type 0
  IsFine j entry b = (entry < 4) × (is_member b ≡ true) × (among_all 4 places b ≡ Some entry) × (list_any (bytes_eq b) (drop (suc j) members) ≡ false)

  fine : (j entry : ℕ) (b : List ℕ) → slice_get (0 ∷ 1 ∷ 2 ∷ 3 ∷ []) j ≡ Some entry → slice_get members j ≡ Some b → IsFine j entry b
  fine = four_by IsFine (omega arith, refl, refl, refl) (omega arith, refl, refl, refl) (omega arith, refl, refl, refl) (omega arith, refl, refl, refl)

  new_placed : (at entry : ℕ) (b : List ℕ) → IsNew at entry b → place_by_entry 4 later.newest at (Some entry) ≡ Some entry
  new_placed at entry b new =
      let f = fine new.0 entry b new.2 new.3 in
      let many = are.many in
      let end = new.1 in
      new_entry 4 later.newest at entry f.0 (omega (arith, end, many, newest))

  pub members_start : AreStarts later 4 places (names ++ members)
  members_start = record {
    many =
        let was = are.many in
        let one = length-append starts.order.items (0 ∷ 1 ∷ 2 ∷ 3 ∷ []) in
        let two = length-append names members in
        ap (λ (l : List ℕ). length l) order ∙ omega (arith, was, one, two);
    known = λ at b is. ⊎_elim
        (λ f. known_still b (are.known at b f))
        (λ f. four_known f.0 b f.2)
        (get_append names members at b is);
    seats = λ at entry b is named low. ⊎_elim
        (λ f. are.seats at entry b f.0 f.1 low)
        (λ f. (fine f.0 entry b f.2 f.3).1)
        (which at entry b is named);
    placed = λ at entry i b is named place. ⊎_elim
        (λ f. old_placed at entry i b f place)
        (λ f. (fine f.0 entry b f.2 f.3).2 ∙ sym (new_placed at entry b f) ∙ place)
        (which at entry b is named);
    last = λ at entry b is named. ⊎_elim
        (λ f. old_last at entry b f)
        (λ f.
        let end = f.1 in
        ap is_some (new_placed at entry b f)
        ∙ ap not (sym (ap (list_any (bytes_eq b)) (drop_past names members (suc at) (suc f.0) (omega (arith, end))) ∙ (fine f.0 entry b f.2 f.3).3)))
        (which at entry b is named);
    begun = sym (crew_members names);
    numbered = λ b other. are.numbered b other ∙ sym (number_members names 0 b);
    filled = λ k low.
        let was = are.filled k (subst (λ (m : ℕ). k < m) (others_members names) low) in
        (was.0, was.1, number_members names 0 was.0 ∙ was.2);
  } where
    four_known : (j : ℕ) (b : List ℕ) → slice_get members j ≡ Some b → is_some (among_all 4 places b) ≡ true
    four_known zero b is = let n : codes "sender" ≡ b = cc in ap (λ (b : List ℕ). is_some (among_all 4 places b)) (sym n)
    four_known (suc zero) b is = let n : codes "clean" ≡ b = cc in ap (λ (b : List ℕ). is_some (among_all 4 places b)) (sym n)
    four_known (suc (suc zero)) b is = let n : codes "lspawn" ≡ b = cc in ap (λ (b : List ℕ). is_some (among_all 4 places b)) (sym n)
    four_known (suc (suc (suc zero))) b is = let n : codes "rspawn" ≡ b = cc in ap (λ (b : List ℕ). is_some (among_all 4 places b)) (sym n)
    four_known (suc (suc (suc (suc j)))) b is = absurd cc
