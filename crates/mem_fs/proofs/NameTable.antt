-- The names of a tree, by their bytes.
use Rattle.std.proofs.Common.{◌≡◌, ⊎_elim, inl, inr, ℕ, ◌+◌, ◌<◌, Bool, true, false, cond, List, [], ◌∷◌, ◌++◌, length, get_or, filter, Option, Some, None, IsSome, unwrap_or, fold, nat_eq, bytes_eq, nat_cmp, Ordering, Less, Equal, Greater, refl, sym, ap, ◌∙◌, subst, arith}
use mathlib.Core.Path.{fun_ext}
use Rattle.std.specs.declared.vec.Vec.{Vec}
use Rattle.std.specs.BTreeMap.{insert_entry, is_at}
use Rattle.std.specs.Cmp.Lexicographic.{slice_cmp}
use Rattle.std.specs.List.{AllByRecursion, IsDistinct, sum_by}
use Rattle.std.specs.List.Sorted.{IsStrictlySortedBy}
use Rattle.std.specs.Map.{lookup, keys_of, values_of, remove_entry}
use Rattle.std.specs.Option.{option_map}
use Rattle.std.specs.Ordering.{eq_by_cmp, match_ordering}
use Rattle.std.proofs.lemmas.Cmp.{nat_list_cmp_total, nat_list_eq_equiv, tied_itself}
use Rattle.std.proofs.lemmas.Map.{lookup-remove_entry}
use Rattle.std.proofs.lemmas.Map.Entries.{lookup_from_place, sum_by-insert_entry, sum_by-remove_entry}
use Rattle.std.proofs.lemmas.Map.Keys.{IsDistinct-from_sorted}
use Rattle.std.proofs.lemmas.Map.Lookups.{exact_bytes}
use Rattle.std.proofs.lemmas.Map.Text.{is_eq-slice_cmp}
use Rattle.std.proofs.lemmas.Option.{slice_get-get_or}
use Rattle.call_fs.specs.Disk.{Among}
use Rattle.call_fs.specs.Maps.{put_at}
use Rattle.call_fs.proofs.Maps.{is_put_at, bytes_eq-decides}
use Rattle.mem_fs.specs.MemDisk.{names_of}
use Rattle.mem_fs.specs.Tables.{at_name, AreNamesInOrder, texts}
use Rattle.mem_files.proofs.Tables.{hides, swaps}

-- ---- a tree's entries and their bytes
module _ {A : Type 0} where
  pub name-found : (es : List (Vec ℕ A × ℕ)) (q : List ℕ) → lookup (is_at (λ (k : Vec ℕ A). slice_cmp nat_cmp q k.items)) es ≡ at_name (texts es) q
  name-found [] q = refl
  name-found (e ∷ es) q =
      ap (λ b. cond b (Some e.1) (lookup (is_at (λ (k : Vec ℕ A). slice_cmp nat_cmp q k.items)) es)) (is_eq-slice_cmp q e.0.items)
      ∙ ap (cond (bytes_eq q e.0.items) (Some e.1)) (name-found es q)

  texts-insert : (es : List (Vec ℕ A × ℕ)) (k : Vec ℕ A) (v : ℕ) → texts (insert_entry (λ x y. slice_cmp nat_cmp x.items y.items) es k v) ≡ insert_entry (slice_cmp nat_cmp) (texts es) k.items v
  texts-insert [] k v = refl
  texts-insert (e ∷ es) k v = by (slice_cmp nat_cmp k.items e.0.items) (texts-insert es k v)
    where
      by : (r : Ordering) → texts (insert_entry (λ x y. slice_cmp nat_cmp x.items y.items) es k v) ≡ insert_entry (slice_cmp nat_cmp) (texts es) k.items v
          → texts (match_ordering r ((k, v) ∷ e ∷ es) ((e.0, v) ∷ es) (e ∷ insert_entry (λ x y. slice_cmp nat_cmp x.items y.items) es k v))
          ≡ match_ordering r ((k.items, v) ∷ texts (e ∷ es)) ((e.0.items, v) ∷ texts es) ((e.0.items, e.1) ∷ insert_entry (slice_cmp nat_cmp) (texts es) k.items v)
      by Less later = refl
      by Equal later = refl
      by Greater later = ap (λ (xs : List (List ℕ × ℕ)). (e.0.items, e.1) ∷ xs) later

  pub inserted : (es fs : List (Vec ℕ A × ℕ)) (k : Vec ℕ A) (v : ℕ) → fs ≡ insert_entry (λ x y. slice_cmp nat_cmp x.items y.items) es k v → texts fs ≡ insert_entry (slice_cmp nat_cmp) (texts es) k.items v
  inserted es fs k v is = ap (λ (xs : List (Vec ℕ A × ℕ)). texts xs) is ∙ texts-insert es k v

  texts-remove : (es : List (Vec ℕ A × ℕ)) (q : List ℕ) → texts (remove_entry (is_at (λ (k : Vec ℕ A). slice_cmp nat_cmp q k.items)) es) ≡ remove_entry (bytes_eq q) (texts es)
  texts-remove [] q = refl
  texts-remove (e ∷ es) q =
      ap (λ b. texts (cond b es (e ∷ remove_entry (is_at (λ (k : Vec ℕ A). slice_cmp nat_cmp q k.items)) es))) (is_eq-slice_cmp q e.0.items)
      ∙ by (bytes_eq q e.0.items) (texts-remove es q)
    where
      by : (b : Bool) → texts (remove_entry (is_at (λ (k : Vec ℕ A). slice_cmp nat_cmp q k.items)) es) ≡ remove_entry (bytes_eq q) (texts es)
          → texts (cond b es (e ∷ remove_entry (is_at (λ (k : Vec ℕ A). slice_cmp nat_cmp q k.items)) es)) ≡ cond b (texts es) ((e.0.items, e.1) ∷ remove_entry (bytes_eq q) (texts es))
      by true later = refl
      by false later = ap (λ (xs : List (List ℕ × ℕ)). (e.0.items, e.1) ∷ xs) later

  pub removed : (es fs : List (Vec ℕ A × ℕ)) (q : List ℕ) → fs ≡ remove_entry (is_at (λ (k : Vec ℕ A). slice_cmp nat_cmp q k.items)) es → texts fs ≡ remove_entry (bytes_eq q) (texts es)
  removed es fs q is = ap (λ (xs : List (Vec ℕ A × ℕ)). texts xs) is ∙ texts-remove es q

  above-texts : (x : List ℕ) (es : List (Vec ℕ A × ℕ)) → AllByRecursion (λ (y : Vec ℕ A). slice_cmp nat_cmp x y.items ≡ Less) (keys_of es) → AllByRecursion (λ y. slice_cmp nat_cmp x y ≡ Less) (keys_of (texts es))
  above-texts x [] h = tt
  above-texts x (e ∷ es) h = (h.0, above-texts x es h.1)

  pub in_order-texts : (es : List (Vec ℕ A × ℕ)) → IsStrictlySortedBy (λ x y. slice_cmp nat_cmp x.items y.items) (keys_of es) → AreNamesInOrder (texts es)
  unfolding IsStrictlySortedBy
  in_order-texts [] h = tt
  in_order-texts (e ∷ es) h = (above-texts e.0.items es h.0, in_order-texts es h.1)

-- ---- names in order
same_order : eq_by_cmp (slice_cmp nat_cmp) ≡ bytes_eq
same_order = fun_ext (λ x. fun_ext (λ y. is_eq-slice_cmp x y))

is_at-bytes : (k : List ℕ) → is_at (slice_cmp nat_cmp k) ≡ bytes_eq k
is_at-bytes k = fun_ext (λ x. is_eq-slice_cmp k x)

distinct : (es : List (List ℕ × ℕ)) → AreNamesInOrder es → IsDistinct bytes_eq (keys_of es)
distinct es ordered = subst (λ (eq : List ℕ → List ℕ → Bool). IsDistinct eq (keys_of es)) same_order (IsDistinct-from_sorted (slice_cmp nat_cmp) (keys_of es) ordered)

pub name-at : (es : List (List ℕ × ℕ)) → AreNamesInOrder es → (i : ℕ) → i < length es → (d : List ℕ × ℕ) → at_name es (get_or es i d).0 ≡ Some (get_or es i d).1
name-at es ordered i within d = lookup_from_place nat_list_eq_equiv es i (get_or es i d).0 (get_or es i d).1 (distinct es ordered) (slice_get-get_or es i d within)

put_in : (es : List (List ℕ × ℕ)) (k : List ℕ) (v : ℕ) (q : List ℕ) → at_name (insert_entry (slice_cmp nat_cmp) es k v) q ≡ cond (bytes_eq q k) (Some v) (at_name es q)
put_in [] k v q = refl
put_in (e ∷ es) k v q = by (slice_cmp nat_cmp k e.0) refl (put_in es k v q)
  where
    by : (r : Ordering) → slice_cmp nat_cmp k e.0 ≡ r → at_name (insert_entry (slice_cmp nat_cmp) es k v) q ≡ cond (bytes_eq q k) (Some v) (at_name es q)
        → at_name (match_ordering r ((k, v) ∷ e ∷ es) ((e.0, v) ∷ es) (e ∷ insert_entry (slice_cmp nat_cmp) es k v)) q ≡ cond (bytes_eq q k) (Some v) (cond (bytes_eq q e.0) (Some e.1) (at_name es q))
    by Less is later = refl
    by Equal is later =
        hides (bytes_eq q e.0) (Some v) (Some e.1) (at_name es q)
        ∙ ap (λ (x : List ℕ). cond (bytes_eq q x) (Some v) (cond (bytes_eq q e.0) (Some e.1) (at_name es q))) (sym (exact_bytes k e.0 is))
    by Greater is later =
        ap (cond (bytes_eq q e.0) (Some e.1)) later
        ∙ swaps (bytes_eq q e.0) (bytes_eq q k) (Some e.1) (Some v) (at_name es q)
        (λ a b.
        let same : k ≡ e.0 = sym ((bytes_eq-decides q k).0 b) ∙ (bytes_eq-decides q e.0).0 a in
        let tied : slice_cmp nat_cmp k e.0 ≡ Equal = ap (slice_cmp nat_cmp k) (sym same) ∙ tied_itself nat_list_cmp_total k in
        absurd cc)

pub name-insert : (es : List (List ℕ × ℕ)) (k : List ℕ) (v : ℕ) → at_name (insert_entry (slice_cmp nat_cmp) es k v) ≡ put_at (at_name es) k (Some v)
name-insert es k v = is_put_at (at_name es) (at_name (insert_entry (slice_cmp nat_cmp) es k v)) k (Some v) (put_in es k v)

pub name-remove : (es : List (List ℕ × ℕ)) → AreNamesInOrder es → (k : List ℕ) → at_name (remove_entry (bytes_eq k) es) ≡ put_at (at_name es) k None
name-remove es ordered k = is_put_at (at_name es) (at_name (remove_entry (bytes_eq k) es)) k None (λ q.
    lookup-remove_entry nat_list_eq_equiv (bytes_eq k) (λ x y t. ap (λ (z : List ℕ). bytes_eq z y) ((bytes_eq-decides k x).0 t)) q es (distinct es ordered)
    ∙ ap (λ b. cond b None (at_name es q)) (nat_list_eq_equiv.symm k q))

-- ---- how many names a number has
fold_values : (n a : ℕ) (es : List (List ℕ × ℕ)) → fold (λ (b v : ℕ). b + cond (nat_eq v n) 1 0) a (values_of es) ≡ fold (λ (b : ℕ) (e : List ℕ × ℕ). b + cond (nat_eq e.1 n) 1 0) a es
fold_values n a [] = refl
fold_values n a (e ∷ es) = fold_values n (a + cond (nat_eq e.1 n) 1 0) es

by_values : (es : List (List ℕ × ℕ)) (n : ℕ) → sum_by (λ v. cond (nat_eq v n) 1 0) (values_of es) ≡ names_of es n
by_values es n = fold_values n 0 es

pub count-insert : (es : List (List ℕ × ℕ)) → AreNamesInOrder es → (k : List ℕ) (v : ℕ) → at_name es k ≡ None → (n : ℕ) → names_of (insert_entry (slice_cmp nat_cmp) es k v) n ≡ names_of es n + cond (nat_eq v n) 1 0
count-insert es ordered k v free n =
    let sums = sum_by-insert_entry (λ (x : ℕ). cond (nat_eq x n) 1 0) nat_list_cmp_total es k v ordered in
    let none : ◌≡◌ {A = ℕ} (unwrap_or (option_map (λ (x : ℕ). cond (nat_eq x n) 1 0) (lookup (is_at (slice_cmp nat_cmp k)) es)) 0) 0 =
    ap (λ (o : Option ℕ). unwrap_or (option_map (λ (x : ℕ). cond (nat_eq x n) 1 0) o) 0) (ap (λ (test : List ℕ → Bool). lookup test es) (is_at-bytes k) ∙ free) in
    omega (arith, sums, none, by_values es n, by_values (insert_entry (slice_cmp nat_cmp) es k v) n)

pub count-remove : (es : List (List ℕ × ℕ)) (k : List ℕ) (v : ℕ) → at_name es k ≡ Some v → (n : ℕ) → names_of es n ≡ names_of (remove_entry (bytes_eq k) es) n + cond (nat_eq v n) 1 0
count-remove es k v found n =
    let sums = sum_by-remove_entry (λ (x : ℕ). cond (nat_eq x n) 1 0) (bytes_eq k) es in
    let one : ◌≡◌ {A = ℕ} (unwrap_or (option_map (λ (x : ℕ). cond (nat_eq x n) 1 0) (at_name es k)) 0) (cond (nat_eq v n) 1 0) =
    ap (λ (o : Option ℕ). unwrap_or (option_map (λ (x : ℕ). cond (nat_eq x n) 1 0) o) 0) found in
    omega (arith, sums, one, by_values es n, by_values (remove_entry (bytes_eq k) es) n)

-- ---- a part of a tree
pub some_among : (es : List (List ℕ × ℕ)) (q : List ℕ) → Among q (keys_of es) → IsSome (at_name es q)
some_among [] q h = absurd h
some_among (e ∷ es) q h =
    elim (bytes_eq q e.0) as (λ b. bytes_eq q e.0 ≡ b → IsSome (cond b (Some e.1) (at_name es q))) [
      | true ↦ λ t. refl
      | false ↦ λ t. ⊎_elim (λ here. let yes = (bytes_eq-decides q e.0).1 here in absurd cc) (λ later. some_among es q later) h
    ] refl

module _ {A : Type 0} (p : Vec ℕ A × ℕ → Bool) where
  above-part : (x : List ℕ) (es : List (Vec ℕ A × ℕ)) → AllByRecursion (λ y. slice_cmp nat_cmp x y ≡ Less) (keys_of (texts es)) → AllByRecursion (λ y. slice_cmp nat_cmp x y ≡ Less) (keys_of (texts (filter p es)))
  above-part x [] h = tt
  above-part x (e ∷ es) h = by (p e) (above-part x es h.1)
    where
      by : (b : Bool) → AllByRecursion (λ y. slice_cmp nat_cmp x y ≡ Less) (keys_of (texts (filter p es))) → AllByRecursion (λ y. slice_cmp nat_cmp x y ≡ Less) (keys_of (texts (cond b (e ∷ filter p es) (filter p es))))
      by true later = (h.0, later)
      by false later = later

  pub in_order-part : (es : List (Vec ℕ A × ℕ)) → AreNamesInOrder (texts es) → AreNamesInOrder (texts (filter p es))
  unfolding IsStrictlySortedBy
  in_order-part [] h = tt
  in_order-part (e ∷ es) h = by (p e) (in_order-part es h.1)
    where
      by : (b : Bool) → AreNamesInOrder (texts (filter p es)) → AreNamesInOrder (texts (cond b (e ∷ filter p es) (filter p es)))
      by true later = (above-part e.0.items es h.0, later)
      by false later = later

  pub among-part : (q : List ℕ) → ((e : Vec ℕ A × ℕ) → q ≡ e.0.items → p e ≡ true) → (es : List (Vec ℕ A × ℕ)) → IsSome (at_name (texts es) q) → Among q (keys_of (texts (filter p es)))
  among-part q passes [] some = absurd cc
  among-part q passes (e ∷ es) some =
      elim (bytes_eq q e.0.items) as (λ b. bytes_eq q e.0.items ≡ b → IsSome (cond b (Some e.1) (at_name (texts es) q)) → Among q (keys_of (texts (cond (p e) (e ∷ filter p es) (filter p es))))) [
        | true ↦ λ t s. let same = (bytes_eq-decides q e.0.items).0 t in subst (λ b. Among q (keys_of (texts (cond b (e ∷ filter p es) (filter p es))))) (sym (passes e same)) (inl same)
        | false ↦ λ t s. by (p e) (among-part q passes es s)
      ] refl some
    where
      by : (b : Bool) → Among q (keys_of (texts (filter p es))) → Among q (keys_of (texts (cond b (e ∷ filter p es) (filter p es))))
      by true later = inr later
      by false later = later

  pub not_among : (q : List ℕ) → ((e : Vec ℕ A × ℕ) → q ≡ e.0.items → p e ≡ false) → (es : List (Vec ℕ A × ℕ)) → ¬ (Among q (keys_of (texts (filter p es))))
  not_among q fails [] h = h
  not_among q fails (e ∷ es) h = by (p e) refl (not_among q fails es) h
    where
      by : (b : Bool) → p e ≡ b → ¬ (Among q (keys_of (texts (filter p es)))) → Among q (keys_of (texts (cond b (e ∷ filter p es) (filter p es)))) → ⊥
      by true passes deeper found = ⊎_elim (λ here. let fails_here = fails e here in absurd cc) deeper found
      by false passes deeper found = deeper found

  -- a test that each name passes which comes after one that does leaves the end of a tree
  all-part : (x : List ℕ) → ((e : Vec ℕ A × ℕ) → slice_cmp nat_cmp x e.0.items ≡ Less → p e ≡ true)
      → (es : List (Vec ℕ A × ℕ)) → AllByRecursion (λ y. slice_cmp nat_cmp x y ≡ Less) (keys_of (texts es)) → filter p es ≡ es
  all-part x passes [] h = refl
  all-part x passes (e ∷ es) h =
      ap (λ b. cond b (e ∷ filter p es) (filter p es)) (passes e h.0)
      ∙ ap (λ (fs : List (Vec ℕ A × ℕ)). e ∷ fs) (all-part x passes es h.1)

  pub end-part : ((e f : Vec ℕ A × ℕ) → slice_cmp nat_cmp e.0.items f.0.items ≡ Less → p e ≡ true → p f ≡ true)
      → (es : List (Vec ℕ A × ℕ)) → AreNamesInOrder (texts es) → (before : List (List ℕ × ℕ)) × (texts es ≡ before ++ texts (filter p es))
  unfolding IsStrictlySortedBy
  end-part rises [] ordered = ([], refl)
  end-part rises (e ∷ es) ordered = by (p e) refl (end-part rises es ordered.1)
    where
      by : (b : Bool) → p e ≡ b → ((before : List (List ℕ × ℕ)) × (texts es ≡ before ++ texts (filter p es)))
          → (before : List (List ℕ × ℕ)) × (texts (e ∷ es) ≡ before ++ texts (cond b (e ∷ filter p es) (filter p es)))
      by true passes deeper = ([], ap (λ (fs : List (Vec ℕ A × ℕ)). texts (e ∷ fs)) (sym (all-part e.0.items (λ f less. rises e f less passes) es ordered.0)))
      by false passes deeper = ((e.0.items, e.1) ∷ deeper.0, ap (λ (xs : List (List ℕ × ℕ)). (e.0.items, e.1) ∷ xs) deeper.1)
