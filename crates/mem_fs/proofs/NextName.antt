-- The least later name of a directory, among names in order.
use Rattle.std.proofs.Common.{◌≡◌, ⊎_elim, inl, inr, ℕ, ◌<◌, ◌≤◌, Bool, true, false, ◌&&◌, List, [], ◌∷◌, ◌++◌, length, append_assoc, drop, filter, IsSome, Contains, nat_cmp, is_gt, Ordering, Less, Equal, Greater, refl, sym, ap, ◌∙◌, subst, arith}
use Rattle.std.specs.declared.vec.Vec.{Vec}
use Rattle.std.specs.Cmp.Lexicographic.{slice_cmp}
use Rattle.std.specs.List.{AllByRecursion}
use Rattle.std.specs.Map.{keys_of}
use Rattle.std.specs.Ordering.{ordering_reverse, ordering_then, is_le}
use Rattle.std.proofs.lemmas.List.{length-append, length-map}
use Rattle.std.proofs.lemmas.List.Elements.{Contains-append_right}
use Rattle.std.proofs.lemmas.Cmp.{nat_list_cmp_total, nat_cmp_total, tied_itself, ranked}
use Rattle.std.proofs.lemmas.Map.Keys.{sorted_head, sorted_tail}
use Rattle.std.proofs.lemmas.Map.Lookups.{exact_unsigned}
use Rattle.call_fs.specs.Disk.{Disk, Among}
use Rattle.call_fs.specs.Apply.{IsNextName, IsLastName, IsLater}
use Rattle.mem_fs.specs.Tables.{at_name, AreNamesInOrder, IsRest, texts}
use Rattle.mem_fs.proofs.NameTable.{some_among, in_order-part, end-part, among-part, not_among}
use Rattle.mem_fs.proofs.Parts.{same_part, slice_cmp-prefix}

-- a name of the directory that comes after that one
pub follows : (dir after other x : List ℕ) → dir ++ 47 ∷ other ≡ x → IsLater after other → slice_cmp nat_cmp (dir ++ 47 ∷ after) x ≡ Less
follows dir after other x is later = ap (slice_cmp nat_cmp (dir ++ 47 ∷ after)) (sym is) ∙ slice_cmp-prefix dir (47 ∷ after) (47 ∷ other) ∙ later.later

-- what comes after a name that passes a lower bound passes it too
pub rises : (test : Ordering → Bool) → (test Less && true) ≡ true → (test Greater && true) ≡ false → (limit x y : List ℕ) → slice_cmp nat_cmp x y ≡ Less
    → (test (slice_cmp nat_cmp limit x) && true) ≡ true → (test (slice_cmp nat_cmp limit y) && true) ≡ true
rises test less greater limit x y later passes = by (slice_cmp nat_cmp limit x) refl passes
  where
    by : (r : Ordering) → slice_cmp nat_cmp limit x ≡ r → (test r && true) ≡ true → (test (slice_cmp nat_cmp limit y) && true) ≡ true
    by Less is t = ap (λ r. test r && true) (nat_list_cmp_total.trans limit x y is later) ∙ less
    by Equal is t = ap (λ r. test r && true) (nat_list_cmp_total.congr limit x y is ∙ later) ∙ less
    by Greater is t = absurd cc

-- the entries of a tree in order from some place on, if each later name of the directory is from there on
pub rest_of : {A : Type 0} (es : List (Vec ℕ A × ℕ)) → AreNamesInOrder (texts es) → (p : Vec ℕ A × ℕ → Bool) (dir after : List ℕ)
    → ((e f : Vec ℕ A × ℕ) → slice_cmp nat_cmp e.0.items f.0.items ≡ Less → p e ≡ true → p f ≡ true)
    → ((other : List ℕ) → IsSome (at_name (texts es) (dir ++ 47 ∷ other)) → IsLater after other → (e : Vec ℕ A × ℕ) → dir ++ 47 ∷ other ≡ e.0.items → p e ≡ true)
    → IsRest (texts es) dir after (texts (filter p es))
rest_of {A} es ordered p dir after goes_on passes =
    let end = end-part p goes_on es ordered in record {
      in_order = in_order-part p es ordered;
      before = end.0;
      whole = end.1;
      all = λ other some later. among-part p (dir ++ 47 ∷ other) (passes other some later) es some;
    }

-- a name that is above the one of a part, and one that isn't
pub comes_after : (x limit : List ℕ) → is_gt (slice_cmp nat_cmp x limit) ≡ true → slice_cmp nat_cmp limit x ≡ Less
comes_after x limit greater = nat_list_cmp_total.antisymm limit x ∙ flipped (slice_cmp nat_cmp x limit) greater
  where
    flipped : (r : Ordering) → is_gt r ≡ true → ordering_reverse r ≡ Less
    flipped Less h = absurd cc
    flipped Equal h = absurd cc
    flipped Greater h = refl

pub not_after : (dir after x : List ℕ) → is_gt (slice_cmp nat_cmp x (dir ++ 47 ∷ after)) ≡ false → (other : List ℕ) → x ≡ dir ++ 47 ∷ other → ¬ (IsLater after other)
not_after dir after x lower other is later =
    let less : slice_cmp nat_cmp (dir ++ 47 ∷ after) x ≡ Less = ap (slice_cmp nat_cmp (dir ++ 47 ∷ after)) is ∙ slice_cmp-prefix dir (47 ∷ after) (47 ∷ other) ∙ later.later in
    let greater : slice_cmp nat_cmp x (dir ++ 47 ∷ after) ≡ Greater = nat_list_cmp_total.antisymm x (dir ++ 47 ∷ after) ∙ ap ordering_reverse less in
    let test : is_gt (slice_cmp nat_cmp x (dir ++ 47 ∷ after)) ≡ true = ap is_gt greater in
    absurd cc

-- what is among names above another is above it
above : (x : List ℕ) (ks : List (List ℕ)) → AllByRecursion (λ y. slice_cmp nat_cmp x y ≡ Less) ks → (q : List ℕ) → Among q ks → slice_cmp nat_cmp x q ≡ Less
above x [] all q h = absurd h
above x (k ∷ ks) all q h = ⊎_elim (λ here. ap (slice_cmp nat_cmp x) here ∙ all.0) (λ later. above x ks all.1 q later) h

-- what lies between two texts with a common prefix has it too
between : (front a b x : List ℕ) → slice_cmp nat_cmp (front ++ a) x ≡ Less → slice_cmp nat_cmp x (front ++ b) ≡ Less → (c : List ℕ) × (x ≡ front ++ c) × (slice_cmp nat_cmp a c ≡ Less) × (slice_cmp nat_cmp c b ≡ Less)
between [] a b x low high = (x, refl, low, high)
between (y ∷ front) a b [] low high = absurd cc
between (y ∷ front) a b (z ∷ x) low high = by (nat_cmp y z) refl low (between front a b x)
  where
    by : (r : Ordering) → nat_cmp y z ≡ r → ordering_then r (slice_cmp nat_cmp (front ++ a) x) ≡ Less
        → (slice_cmp nat_cmp (front ++ a) x ≡ Less → slice_cmp nat_cmp x (front ++ b) ≡ Less → (c : List ℕ) × (x ≡ front ++ c) × (slice_cmp nat_cmp a c ≡ Less) × (slice_cmp nat_cmp c b ≡ Less))
        → (c : List ℕ) × (z ∷ x ≡ y ∷ front ++ c) × (slice_cmp nat_cmp a c ≡ Less) × (slice_cmp nat_cmp c b ≡ Less)
    by Less is from deeper =
        let flipped : nat_cmp z y ≡ Greater = nat_cmp_total.antisymm z y ∙ ap ordering_reverse is in
        let over : slice_cmp nat_cmp (z ∷ x) (y ∷ front ++ b) ≡ Greater = ap (λ r. ordering_then r (slice_cmp nat_cmp x (front ++ b))) flipped in
        absurd cc
    by Equal is from deeper =
        let same : y ≡ z = exact_unsigned y z is in
        let tied : nat_cmp z y ≡ Equal = nat_cmp_total.antisymm z y ∙ ap ordering_reverse is in
        let found = deeper from (sym (ap (λ r. ordering_then r (slice_cmp nat_cmp x (front ++ b))) tied) ∙ high) in
        (found.0, ap (λ (n : ℕ). n ∷ x) (sym same) ∙ ap (λ (xs : List ℕ). y ∷ xs) found.1, found.2, found.3)
    by Greater is from deeper = absurd cc

-- so what lies between two names of a directory begins as they do
below_dir : (dir after other x : List ℕ) → slice_cmp nat_cmp (dir ++ 47 ∷ after) x ≡ Less → slice_cmp nat_cmp x (dir ++ 47 ∷ other) ≡ Less → (rest : List ℕ) × (x ≡ dir ++ 47 ∷ rest)
below_dir dir after other x low high =
    let in_dir = between dir (47 ∷ after) (47 ∷ other) x low high in
    let slash = between (47 ∷ []) after other in_dir.0 in_dir.2 in_dir.3 in
    (slash.0, in_dir.1 ∙ ap (λ (c : List ℕ). dir ++ c) slash.1)

-- ---- past a subdirectory
slash_in : (b : ℕ) (rest tail : List ℕ) → slice_cmp nat_cmp (47 ∷ tail) (b ∷ rest) ≡ Less → slice_cmp nat_cmp (b ∷ rest) (48 ∷ []) ≡ Less → b ≡ 47
slash_in b rest tail low high =
    let from : 47 ≤ b = at_least (nat_cmp 47 b) refl low in
    let under : b < 48 = at_most rest (nat_cmp b 48) refl high in
    omega (arith, from, under)
  where
    at_least : (r : Ordering) → nat_cmp 47 b ≡ r → ordering_then r (slice_cmp nat_cmp tail rest) ≡ Less → 47 ≤ b
    at_least Less is h = let less : 47 < b = ranked 47 b Less (sym is) in omega (arith, less)
    at_least Equal is h = let same : 47 ≡ b = ranked 47 b Equal (sym is) in omega (arith, same)
    at_least Greater is h = absurd cc

    at_most : (xs : List ℕ) (r : Ordering) → nat_cmp b 48 ≡ r → ordering_then r (slice_cmp nat_cmp xs []) ≡ Less → b < 48
    at_most xs Less is h = ranked b 48 Less (sym is)
    at_most [] Equal is h = absurd cc
    at_most (x ∷ xs) Equal is h = absurd cc
    at_most xs Greater is h = absurd cc

after_slash : (tail c : List ℕ) → slice_cmp nat_cmp (47 ∷ tail) c ≡ Less → slice_cmp nat_cmp c (48 ∷ []) ≡ Less → (rest : List ℕ) × (c ≡ 47 ∷ rest)
after_slash tail [] low high = absurd cc
after_slash tail (b ∷ rest) low high = (rest, ap (λ (n : ℕ). n ∷ rest) (slash_in b rest tail low high))

-- a name of the directory after one that is below a subdirectory is after all of those
beyond : (dir sub tail other : List ℕ) → ¬ (Contains other 47) → slice_cmp nat_cmp (dir ++ 47 ∷ (sub ++ 47 ∷ tail)) (dir ++ 47 ∷ other) ≡ Less
    → is_le (slice_cmp nat_cmp (dir ++ 47 ∷ (sub ++ 48 ∷ [])) (dir ++ 47 ∷ other)) ≡ true
beyond dir sub tail other whole later =
    ap is_le (slice_cmp-prefix dir (47 ∷ (sub ++ 48 ∷ [])) (47 ∷ other))
    ∙ by (slice_cmp nat_cmp (sub ++ 48 ∷ []) other) refl (sym (slice_cmp-prefix dir (47 ∷ (sub ++ 47 ∷ tail)) (47 ∷ other)) ∙ later)
  where
    by : (r : Ordering) → slice_cmp nat_cmp (sub ++ 48 ∷ []) other ≡ r → slice_cmp nat_cmp (sub ++ 47 ∷ tail) other ≡ Less → is_le r ≡ true
    by Less is low = refl
    by Equal is low = refl
    by Greater is low =
        let high : slice_cmp nat_cmp other (sub ++ 48 ∷ []) ≡ Less = nat_list_cmp_total.antisymm other (sub ++ 48 ∷ []) ∙ ap ordering_reverse is in
        let inside = between sub (47 ∷ tail) (48 ∷ []) other low high in
        let slash = after_slash tail inside.0 inside.2 inside.3 in
        let split : other ≡ sub ++ 47 ∷ slash.0 = inside.1 ∙ ap (λ (c : List ℕ). sub ++ c) slash.1 in
        absurd (whole (subst (λ (x : List ℕ). Contains x 47) (sym split) (Contains-append_right sub (47 ∷ slash.0) 47 (0, omega arith, refl))))

-- the end of a subdirectory is after the names below it
ends_after : (dir sub tail : List ℕ) → (is_le (slice_cmp nat_cmp (dir ++ 47 ∷ (sub ++ 48 ∷ [])) (dir ++ 47 ∷ (sub ++ 47 ∷ tail))) && true) ≡ false
ends_after dir sub tail = ap (λ r. is_le r && true) (slice_cmp-prefix dir (47 ∷ (sub ++ 48 ∷ [])) (47 ∷ (sub ++ 47 ∷ tail)) ∙ slice_cmp-prefix sub (48 ∷ []) (47 ∷ tail))

-- a name has its place in a list
key_there : (before : List (List ℕ × ℕ)) (e : List ℕ × ℕ) (rest : List (List ℕ × ℕ)) → Among e.0 (keys_of (before ++ e ∷ rest))
key_there [] e rest = inl refl
key_there (b ∷ before) e rest = inr (key_there before e rest)

-- an end of a list that hasn't the first of another end is no longer than what follows that
shorter_end : (before : List (List ℕ × ℕ)) (e : List ℕ × ℕ) (rest front end : List (List ℕ × ℕ)) → before ++ e ∷ rest ≡ front ++ end → ¬ (Among e.0 (keys_of end)) → length end ≤ length rest
shorter_end before e rest [] end is without = absurd (without (subst (λ (es : List (List ℕ × ℕ)). Among e.0 (keys_of es)) is (key_there before e rest)))
shorter_end [] e rest (f ∷ front) end is without = let counts = length-append front end in let same : length rest ≡ length (front ++ end) = ap (λ (es : List (List ℕ × ℕ)). length (drop 1 es)) is in omega (arith, counts, same)
shorter_end (b ∷ before) e rest (f ∷ front) end is without = shorter_end before e rest front end (ap (λ (es : List (List ℕ × ℕ)). drop 1 es) is) without

module _ (names : List (List ℕ × ℕ)) (dir after : List ℕ) where
  -- nothing is left
  pub is_last : IsRest names dir after [] → (d : Disk) → d.names ≡ at_name names → IsLastName d dir after
  is_last none d same = λ other there. none.all other (rw same at there.0) there.1

  module _ (e : List ℕ × ℕ) (rest : List (List ℕ × ℕ)) (is_rest : IsRest names dir after (e ∷ rest)) where
    first_below : (name : List ℕ) → Among name (keys_of rest) → slice_cmp nat_cmp e.0 name ≡ Less
    first_below name among = above e.0 (keys_of rest) (sorted_head (slice_cmp nat_cmp) e.0 (keys_of rest) is_rest.in_order) name among

    -- the first one isn't a later name of the directory
    pub without_first : ((other : List ℕ) → e.0 ≡ dir ++ 47 ∷ other → ¬ (IsLater after other)) → IsRest names dir after rest
    without_first differs = record {
      in_order = sorted_tail (slice_cmp nat_cmp) e.0 (keys_of rest) is_rest.in_order;
      before = is_rest.before ++ e ∷ [];
      whole = is_rest.whole ∙ sym (append_assoc is_rest.before (e ∷ []) rest);
      all = λ other some later. ⊎_elim (λ here. absurd (differs other (sym here) later)) (λ among. among) (is_rest.all other some later);
    }

    -- the first one is
    pub is_next : slice_cmp nat_cmp (dir ++ 47 ∷ after) e.0 ≡ Less → (part : List ℕ) → e.0 ≡ dir ++ 47 ∷ part → ¬ (Contains part 47) → length part ≤ 255
        → (d : Disk) → d.names ≡ at_name names → IsNextName d dir after part
    is_next from part is whole short d same = record {
      stands = (
        rw same (subst (λ (name : List ℕ). IsSome (at_name names name)) is (some_among names e.0 (subst (λ (es : List (List ℕ × ℕ)). Among e.0 (keys_of es)) (sym is_rest.whole) (key_there is_rest.before e rest)))),
        record { whole = whole; short = short; later = sym (slice_cmp-prefix dir (47 ∷ after) (47 ∷ part)) ∙ ap (slice_cmp nat_cmp (dir ++ 47 ∷ after)) (sym is) ∙ from },
      );
      least = λ other there. ⊎_elim
          (λ here. ap (λ (x : List ℕ). is_gt (slice_cmp nat_cmp part x)) (same_part dir other part (here ∙ is)) ∙ ap is_gt (tied_itself nat_list_cmp_total part))
          (λ among. ap is_gt (sym (slice_cmp-prefix dir (47 ∷ part) (47 ∷ other)) ∙ ap (λ (x : List ℕ). slice_cmp nat_cmp x (dir ++ 47 ∷ other)) (sym is) ∙ first_below (dir ++ 47 ∷ other) among))
          (is_rest.all other (rw same at there.0) there.1);
    }

    -- the first one stands after all names of the directory
    pub is_past : slice_cmp nat_cmp (dir ++ 47 ∷ after) e.0 ≡ Less → ((rest : List ℕ) → ¬ (e.0 ≡ dir ++ 47 ∷ rest)) → (d : Disk) → d.names ≡ at_name names → IsLastName d dir after
    is_past from outside d same = λ other there. ⊎_elim
        (λ here. outside other (sym here))
        (λ among. let inside = below_dir dir after other e.0 from (first_below (dir ++ 47 ∷ other) among) in outside inside.0 inside.1)
        (is_rest.all other (rw same at there.0) there.1)

-- what comes from the end of a subdirectory on is all that can matter after a name below it
pub past : {A : Type 0} (es : List (Vec ℕ A × ℕ)) → AreNamesInOrder (texts es) → (dir after : List ℕ) (e : List ℕ × ℕ) (left : List (Vec ℕ A × ℕ))
    → IsRest (texts es) dir after (e ∷ texts left) → IsRest (texts es) dir after (texts left)
    → (sub tail : List ℕ) → e.0 ≡ dir ++ 47 ∷ (sub ++ 47 ∷ tail)
    → (p : Vec ℕ A × ℕ → Bool) → ((f : Vec ℕ A × ℕ) → p f ≡ (is_le (slice_cmp nat_cmp (dir ++ 47 ∷ (sub ++ 48 ∷ [])) f.0.items) && true))
    → IsRest (texts es) dir after (texts (filter p es)) × (length (filter p es) ≤ length left)
past {A} es ordered dir after e left with_first is_rest sub tail below p exact =
    let end : List ℕ = dir ++ 47 ∷ (sub ++ 48 ∷ []) in
    let passes : (other : List ℕ) → IsSome (at_name (texts es) (dir ++ 47 ∷ other)) → IsLater after other → (f : Vec ℕ A × ℕ) → dir ++ 47 ∷ other ≡ f.0.items → p f ≡ true =
    λ other some later f same. exact f ∙ ap (λ (x : List ℕ). is_le (slice_cmp nat_cmp end x) && true) (sym same)
    ∙ ap (λ b. b && true) (beyond dir sub tail other later.whole (ap (λ (x : List ℕ). slice_cmp nat_cmp x (dir ++ 47 ∷ other)) (sym below) ∙ first_below (texts es) dir after e (texts left) with_first (dir ++ 47 ∷ other) (is_rest.all other some later))) in
    let rest = rest_of es ordered p dir after (λ f g later t. exact g ∙ rises is_le refl refl end f.0.items g.0.items later (sym (exact f) ∙ t)) passes in
    let fails : (f : Vec ℕ A × ℕ) → e.0 ≡ f.0.items → p f ≡ false = λ f same. exact f ∙ ap (λ (x : List ℕ). is_le (slice_cmp nat_cmp end x) && true) (sym same ∙ below) ∙ ends_after dir sub tail in
    let fewer = shorter_end with_first.before e (texts left) rest.before (texts (filter p es)) (sym with_first.whole ∙ rest.whole) (not_among p e.0 fails es) in
    (rest, omega (arith, fewer, length-map {B = List ℕ × ℕ} (filter p es) (λ (f : Vec ℕ A × ℕ). (f.0.items, f.1)), length-map {B = List ℕ × ℕ} left (λ (f : Vec ℕ A × ℕ). (f.0.items, f.1))))
