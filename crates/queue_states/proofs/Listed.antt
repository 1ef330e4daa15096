-- The names of a directory, one after the other.
use Rattle.std.proofs.Common.{◌≡◌, ◌⊎◌, ℕ, ◌+◌, List, [], ◌∷◌, ◌++◌, length, get_or, All, Contains, nat_cmp, Ordering, Less, Equal, Greater, false, Bool, true, Option, refl, sym, ◌∙◌, ap, subst, inl, inr, ⊎_elim, arith}
use Rattle.std.specs.Cmp.Lexicographic.{slice_cmp}
use Rattle.std.specs.List.{AllPairs}
use Rattle.std.specs.Ordering.{is_gt, is_eq}
use Rattle.std.proofs.lemmas.Bool.{false≢true}
use Rattle.std.proofs.lemmas.Cmp.{nat_list_cmp_total, tied_itself}
use Rattle.std.proofs.lemmas.Map.Text.{is_eq-slice_cmp}
use Rattle.std.proofs.lemmas.List.Elements.{All-nil, All-push, All-weaker, All-contains, Contains-push, Contains-append_left}
use Rattle.std.proofs.lemmas.List.Quantifiers.{all_pairs_push}
use Rattle.std.proofs.lemmas.List.{length-append}
use Rattle.std.proofs.lemmas.Slice.Eq.{bytes_eq-Decides}
use Rattle.mail_bytes.specs.Told.{OnTold}
use Rattle.call_fs.specs.Disk.{Disk}
use Rattle.call_fs.specs.Apply.{StandsAfter, IsNextName, IsLastName}
use Rattle.call_fs.specs.Columns.{IsFound}
use Rattle.queue_states.specs.Listing.{AreNamesIn}
use Rattle.queue_states.specs.Audit.{IsNameCount}
use Rattle.queue_states.proofs.Searches.{told_each}

abbrev pub Below : List ℕ → List ℕ → Type 0
Below low high = slice_cmp nat_cmp low high ≡ Less

-- not above
abbrev pub UpTo : List ℕ → List ℕ → Type 0
UpTo low high = is_gt (slice_cmp nat_cmp low high) ≡ false

-- The names up to this one were found.
pub record Found (d : Disk) (dir : List ℕ) (names : List (List ℕ)) (last : List ℕ) : Type 0 where
  pub each : All (StandsAfter d dir []) names
  pub rising : AllPairs Below names
  pub up_to : All (λ name. UpTo name last) names
  pub others : (name : List ℕ) → StandsAfter d dir [] name → Contains names name ⊎ StandsAfter d dir last name

-- a later name isn't empty
not-first : (low text : List ℕ) → Below low text → Below [] text
not-first low [] less = absurd (nothing-below low less)
  where
    nothing-below : (t : List ℕ) → Below t [] → ⊥
    nothing-below [] h = cc
    nothing-below (b ∷ t) h = cc
not-first low (b ∷ text) less = refl

-- below what is below or the same
below-by : (o : Ordering) (a b c : List ℕ) → slice_cmp nat_cmp a b ≡ o → is_gt o ≡ false → Below b c → Below a c
below-by Less a b c e upto less = nat_list_cmp_total.trans a b c e less
below-by Equal a b c e upto less = nat_list_cmp_total.congr a b c e ∙ less
below-by Greater a b c e upto less = absurd (false≢true (sym upto))

below-from : (a b c : List ℕ) → UpTo a b → Below b c → Below a c
below-from a b c upto less = below-by (slice_cmp nat_cmp a b) a b c refl upto less

-- texts that compare as equal are one
pub same-text : (a b : List ℕ) → slice_cmp nat_cmp a b ≡ Equal → a ≡ b
same-text a b e = (bytes_eq-Decides a b).0 (sym (is_eq-slice_cmp a b) ∙ ap is_eq e)

-- a text that stands after the last one stands after the next, or is it
next-or-later : (o : Ordering) (d : Disk) (dir : List ℕ) (names : List (List ℕ)) (name other : List ℕ) → slice_cmp nat_cmp name other ≡ o → is_gt o ≡ false → StandsAfter d dir [] other → Contains (names ++ name ∷ []) other ⊎ StandsAfter d dir name other
next-or-later Less d dir names name other e upto stands = inr (stands.0, record { whole = stands.1.whole; short = stands.1.short; later = e })
next-or-later Equal d dir names name other e upto stands = inl (subst (Contains (names ++ name ∷ [])) (same-text name other e) (Contains-push names name))
next-or-later Greater d dir names name other e upto stands = absurd (false≢true (sym upto))

-- none before the first search
pub found_none : (d : Disk) (dir : List ℕ) → Found d dir [] []
found_none d dir = record {
  each = All-nil (StandsAfter d dir []);
  rising = λ i j d below within. absurd (omega arith);
  up_to = All-nil (λ name. UpTo name []);
  others = λ name stands. inr stands;
}

-- one more
pub found_more : (d : Disk) (dir : List ℕ) (names : List (List ℕ)) (last name : List ℕ) → Found d dir names last → IsNextName d dir last name → Found d dir (names ++ name ∷ []) name
found_more d dir names last name found next =
    let less = next.stands.1.later in
    record {
      each = All-push (StandsAfter d dir []) names name found.each (next.stands.0, record { whole = next.stands.1.whole; short = next.stands.1.short; later = not-first last name less });
      rising = all_pairs_push Below names name found.rising (λ k e within. below-from (get_or names k e) last name (found.up_to k e within) less);
      up_to = All-push (λ n. UpTo n name) names name
          (All-weaker (λ n. UpTo n last) (λ n. UpTo n name) (λ n upto. ap is_gt (below-from n last name upto less)) names found.up_to)
          (ap is_gt (tied_itself nat_list_cmp_total name));
      others = λ other stands. ⊎_elim
          (λ here. inl (Contains-append_left names (name ∷ []) other here))
          (λ later. next-or-later (slice_cmp nat_cmp name other) d dir names name other refl (next.least other later) stands)
          (found.others other stands);
    }

-- all, if no other stands after the last one
pub found_all : (d : Disk) (dir : List ℕ) (names : List (List ℕ)) (last : List ℕ) → Found d dir names last → IsLastName d dir last → AreNamesIn d dir names
found_all d dir names last found none = record {
  each = λ name. (
    λ here. All-contains (StandsAfter d dir []) names name found.each here,
    λ stands. ⊎_elim (λ here. here) (λ later. absurd (none name later)) (found.others name stands),
  );
  rising = found.rising;
}

-- so many names up to this one were found
pub record Counted (d : Disk) (dir last : List ℕ) (count : ℕ) : Type 0 where
  pub names : List (List ℕ)
  pub found : Found d dir names last
  pub count_is : count ≡ length names

pub counted_none : (d : Disk) (dir : List ℕ) → Counted d dir [] 0
counted_none d dir = record { names = []; found = found_none d dir; count_is = refl }

pub counted_more : (d : Disk) (dir last name : List ℕ) (count : ℕ) → Counted d dir last count → IsNextName d dir last name → Counted d dir name (count + 1)
counted_more d dir last name count c next = record {
  names = c.names ++ name ∷ [];
  found = found_more d dir c.names last name c.found next;
  count_is = let long = length-append c.names (name ∷ []) in let is = c.count_is in omega arith;
}

pub counted_all : (d : Disk) (dir last : List ℕ) (count : ℕ) → Counted d dir last count → IsLastName d dir last → IsNameCount d dir count
counted_all d dir last count c none = (c.names, found_all d dir c.names last c.found none, c.count_is)

-- What a search found, as it is told: there is a next name, or none.
module _ (old now : Option Disk) (same : now ≡ old) (dir last after name : List ℕ) (is : after ≡ last) (found : Bool) (told : OnTold now (λ d. IsFound d dir after found name)) where
  pub last_told : found ≡ false → OnTold old (λ d. IsLastName d dir last)
  last_told none =
      subst (λ (o : Option Disk). OnTold o (λ d. IsLastName d dir last)) same
      (told_each now (λ d h. subst (IsLastName d dir) is (subst (λ b. IsFound d dir after b name) none h)) told)

  pub next_told : found ≡ true → OnTold old (λ d. IsNextName d dir last name)
  next_told yes_found =
      subst (λ (o : Option Disk). OnTold o (λ d. IsNextName d dir last name)) same
      (told_each now (λ d h. subst (λ t. IsNextName d dir t name) is (subst (λ b. IsFound d dir after b name) yes_found h)) told)
