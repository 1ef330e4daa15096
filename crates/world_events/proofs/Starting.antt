-- The order of starts, as a mail starts.
use Rattle.std.proofs.Common.{◌≡◌, ◌≢◌, ◌⊎◌, inl, inr, ℕ, suc, ◌+◌, ◌-◌, ◌<◌, ◌≤◌, List, [], ◌∷◌, ◌++◌, length, drop, Bool, true, false, not, ◌||◌, Option, Some, None, is_some, refl, sym, ap, ◌∙◌, ⊎_elim, arith, bytes_eq}
use Rattle.std.specs.Prelude.{if◌then◌else◌, nat_lt}
use Rattle.std.specs.List.{slice_get, list_any}
use Rattle.std.proofs.Math.Bool.{or-false}
use Rattle.std.proofs.lemmas.Bool.{le-ltb}
use Rattle.std.proofs.lemmas.List.{drop_all, length-append}
use Rattle.std.proofs.lemmas.List.Folds.{list_any-append}
use Rattle.std.proofs.lemmas.Option.{slice_get_within}
use Rattle.call_fs.specs.Maps.{put_at}
use Rattle.call_fs.proofs.Maps.{put_at_cases, put_at_same, put_at_other}
use Rattle.world_pipes.proofs.Members.{other_text}
use Rattle.world_events.specs.declared.starts.Starts.{Starts}
use Rattle.world_events.specs.Starts.{IsSameOrder, place_by_entry}
use Rattle.world_events.specs.Order.{others_in, number_from, AreStarts}
use Rattle.world_pipes.specs.Pipework.{is_member}
use Rattle.world_pipes.specs.Wired.{seat}
use Rattle.world_events.specs.Places.{among_all}
use Rattle.world_pipes.proofs.Lists.{get_push, drop_push}
use Rattle.world_events.proofs.Placing.{low_or_high, number_other, number_new, others_push, crew_push, no_number}
use Rattle.world_pipes.proofs.Seats.{seat_none}

-- room was made
pub same_starts : (old new : Starts) (crew : ℕ) (places : List ℕ → Option ℕ) (names : List (List ℕ)) → IsSameOrder old new → AreStarts old crew places names → AreStarts new crew places names
same_starts old new crew places names same are = record {
  many = ap (λ (l : List ℕ). length l) same.order ∙ are.many;
  known = are.known;
  seats = λ at entry a here there low. are.seats at entry a (back at entry here) there low;
  placed = λ at entry i a here there place. are.placed at entry i a (back at entry here) there (ap (λ (n : ℕ). place_by_entry crew n at (Some entry)) (sym same.newest) ∙ place);
  last = λ at entry a here there. ap (λ (n : ℕ). is_some (place_by_entry crew n at (Some entry))) same.newest ∙ are.last at entry a (back at entry here) there;
  begun = are.begun;
  numbered = are.numbered;
  filled = are.filled;
} where
  back : (at entry : ℕ) → slice_get new.order.items at ≡ Some entry → slice_get old.order.items at ≡ Some entry
  back at entry here = ap (λ (l : List ℕ). slice_get l at) (sym same.order) ∙ here

-- nobody started
pub none_start : (starts : Starts) (places : List ℕ → Option ℕ) → starts.order.items ≡ [] → ((a : List ℕ) → places a ≡ None) → AreStarts starts 0 places []
none_start starts places none nowhere = record {
  many = ap (λ (l : List ℕ). length l) none;
  known = λ at a there. absurd (cc);
  seats = λ at entry a here there low. absurd (cc);
  placed = λ at entry i a here there place. absurd (cc);
  last = λ at entry a here there. absurd (cc);
  begun = refl;
  numbered = λ a other. nowhere a;
  filled = λ k low. absurd (omega (arith, low));
}

-- the entry of a mail tells its place
mail_entry : (crew newest n at : ℕ) → crew ≤ n → place_by_entry crew newest at (Some (n - crew + 4)) ≡ Some n
mail_entry crew newest n at le =
    let high : nat_lt (n - crew + 4) 4 ≡ false = le-ltb (n - crew + 4) 4 (omega arith) in
    let same : crew + (n - crew + 4 - 4) ≡ n = omega (arith, le) in
    ap (λ (t : Bool). if t then (if nat_lt at newest then None else Some (n - crew + 4)) else Some (crew + (n - crew + 4 - 4))) high ∙ ap Some same

-- a mail starts
module _ (starts later : Starts) (crew n : ℕ) (places next : List ℕ → Option ℕ) (names : List (List ℕ)) (a : List ℕ) (le : crew ≤ n)
    (order : later.order.items ≡ starts.order.items ++ (n - crew + 4) ∷ []) (newest : later.newest ≡ starts.newest) (new : among_all crew places a ≡ None)
    (put : (b : List ℕ) → among_all crew next b ≡ put_at (among_all crew places) a (Some n) b) (are : AreStarts starts crew places names)
    (other : is_member a ≡ false) (added : (b : List ℕ) → next b ≡ put_at places a (Some (n - crew)) b) (many : n - crew ≡ others_in names) where
  here : among_all crew next a ≡ Some n
  here = put a ∙ put_at_same (among_all crew places) a (Some n)

  there : (b : List ℕ) → b ≢ a → among_all crew next b ≡ among_all crew places b
  there b apart = put b ∙ put_at_other (among_all crew places) a (Some n) b apart

  -- who started before is another one
  apart : (at : ℕ) (b : List ℕ) → slice_get names at ≡ Some b → b ≢ a
  apart at b is same =
      let both : false ≡ true = sym (ap is_some (ap (among_all crew places) same ∙ new)) ∙ are.known at b is in absurd (cc)

  -- an old entry, or the new one
  abbrev IsOld : ℕ → ℕ → List ℕ → Type 0
  IsOld at entry b = (slice_get starts.order.items at ≡ Some entry) × (slice_get names at ≡ Some b)

  abbrev IsLast : ℕ → ℕ → List ℕ → Type 0
  IsLast at entry b = (at ≡ length names) × (n - crew + 4 ≡ entry) × (a ≡ b)

  which : (at entry : ℕ) (b : List ℕ) → slice_get later.order.items at ≡ Some entry → slice_get (names ++ a ∷ []) at ≡ Some b → IsOld at entry b ⊎ IsLast at entry b
  which at entry b is named =
      let many = are.many in
      ⊎_elim
      (λ f. ⊎_elim
      (λ g. inr (g.0, f.1, g.1))
      (λ g. let low = slice_get_within names at b g in let end = f.0 in absurd (omega (arith, low, end, many)))
      (get_push names a at b named))
      (λ f. ⊎_elim
      (λ g. let low = slice_get_within starts.order.items at entry f in let end = g.0 in absurd (omega (arith, low, end, many)))
      (λ g. inl (f, g))
      (get_push names a at b named))
      (get_push starts.order.items (n - crew + 4) at entry (ap (λ (l : List ℕ). slice_get l at) (sym order) ∙ is))

  -- its number, and those of others
  none_before : number_from 0 names a ≡ None
  none_before = no_number starts crew places names a are (seat_none a other) new

  its_number : number_from 0 (names ++ a ∷ []) a ≡ Some (n - crew)
  its_number = let whole : 0 + others_in names ≡ n - crew = omega (arith, many) in number_new names 0 a other none_before ∙ ap Some whole

  numbers : (b : List ℕ) → seat b ≡ None → next b ≡ number_from 0 (names ++ a ∷ []) b
  numbers b seatless = ⊎_elim
      (λ f. added b ∙ f.1 ∙ sym (ap (number_from 0 (names ++ a ∷ [])) f.0 ∙ its_number))
      (λ f. added b ∙ f.1 ∙ are.numbered b seatless ∙ sym (number_other names 0 a b (other_text b a f.0)))
      (put_at_cases places a (Some (n - crew)) b)

  numbered_before : (k : ℕ) → k < others_in names → (b : List ℕ) × (seat b ≡ None) × (number_from 0 (names ++ a ∷ []) b ≡ Some k)
  numbered_before k low =
      let was = are.filled k low in
      let apart : was.0 ≢ a = λ same. let both : ◌≡◌ {A = Option ℕ} None (Some k) = sym none_before ∙ ap (number_from 0 names) (sym same) ∙ was.2 in absurd (cc) in
      (was.0, was.1, number_other names 0 a was.0 (other_text was.0 a apart) ∙ was.2)

  pub mail_starts : AreStarts later crew next (names ++ a ∷ [])
  mail_starts = record {
    many =
        let was = are.many in
        let one = length-append starts.order.items ((n - crew + 4) ∷ []) in
        let two = length-append names (a ∷ []) in
        ap (λ (l : List ℕ). length l) order ∙ omega (arith, was, one, two);
    known = λ at b is. ⊎_elim
        (λ f. ap is_some (ap (among_all crew next) (sym f.1) ∙ here))
        (λ f. ap is_some (there b (apart at b f)) ∙ are.known at b f)
        (get_push names a at b is);
    seats = λ at entry b is named low. ⊎_elim
        (λ f. are.seats at entry b f.0 f.1 low)
        (λ f. let e = f.1 in absurd (omega (arith, low, e)))
        (which at entry b is named);
    placed = λ at entry i b is named place. ⊎_elim
        (λ f. there b (apart at b f.1) ∙ are.placed at entry i b f.0 f.1 (ap (λ (m : ℕ). place_by_entry crew m at (Some entry)) (sym newest) ∙ place))
        (λ f. ap (among_all crew next) (sym f.2) ∙ here ∙ sym (mail_entry crew later.newest n at le) ∙ ap (λ (e : ℕ). place_by_entry crew later.newest at (Some e)) f.1 ∙ place)
        (which at entry b is named);
    last = λ at entry b is named. ⊎_elim
        (λ f.
        let low = slice_get_within names at b f.1 in
        ap (λ (m : ℕ). is_some (place_by_entry crew m at (Some entry))) newest ∙ are.last at entry b f.0 f.1
        ∙ ap not (sym (ap (list_any (bytes_eq b)) (drop_push (suc at) names a (omega (arith, low))) ∙ list_any-append (bytes_eq b) (drop (suc at) names) (a ∷ [])
        ∙ ap (λ (t : Bool). list_any (bytes_eq b) (drop (suc at) names) || (t || false)) (other_text b a (apart at b f.1)) ∙ or-false (list_any (bytes_eq b) (drop (suc at) names)))))
        (λ f.
        let two = length-append names (a ∷ []) in
        let end = f.0 in
        ap (λ (e : ℕ). is_some (place_by_entry crew later.newest at (Some e))) (sym f.1) ∙ ap is_some (mail_entry crew later.newest n at le)
        ∙ ap not (sym (ap (list_any (bytes_eq b)) (drop_all (suc at) (names ++ a ∷ []) (omega (arith, two, end))))))
        (which at entry b is named);
    begun = are.begun ∙ sym (crew_push names a other);
    numbered = numbers;
    filled = λ k low. ⊎_elim
        (λ before. numbered_before k before)
        (λ after.
        let more = others_push names a other in
        let same : n - crew ≡ k = omega (arith, low, after, more, many) in
        (a, seat_none a other, its_number ∙ ap Some same))
        (low_or_high k (others_in names));
  }
