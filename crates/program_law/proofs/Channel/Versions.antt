-- A channel file through writes and machine stops.
use Rattle.std.proofs.Common.{◌≡◌, ◌⊎◌, inl, inr, ℕ, zero, suc, ◌-◌, ◌≤◌, ◌<◌, List, [], ◌∷◌, ◌++◌, length, take, Option, Some, refl, sym, ap, ◌∙◌, subst, ⊎_elim, arith, slice_get}
use Rattle.std.specs.List.{enumerate_from}
use Rattle.std.proofs.lemmas.Bool.{cases_eq}
use Rattle.call_fs.specs.Apply.{lying, overwritten, overwritten_part, put_over, synced, written}
use Rattle.call_fs.specs.Disk.{Among, File}
use Rattle.call_fs.specs.Survival.{Survives, settled}
use Rattle.program_law.specs.Channel.Versions.{IsMarkedFrom, MayRead}
use Rattle.program_law.proofs.Channel.Texts.{dee, over_later}

-- One byte over another

over_at : (xs : List ℕ) (at : ℕ) → at < length xs → slice_get (put_over at dee xs) at ≡ Some 68
over_at [] at lt = absurd (omega arith)
over_at (x ∷ xs) zero lt = refl
over_at (x ∷ xs) (suc k) lt = ap (λ l. slice_get l (suc k)) (over_later k x xs) ∙ over_at xs k (omega arith)

over_off : (xs : List ℕ) (at k : ℕ) → at < length xs → (k ≡ at → ⊥) → slice_get (put_over at dee xs) k ≡ slice_get xs k
over_off [] at k lt ne = absurd (omega arith)
over_off (x ∷ xs) zero zero lt ne = absurd (ne refl)
over_off (x ∷ xs) zero (suc k) lt ne = refl
over_off (x ∷ xs) (suc at) zero lt ne = ap (λ l. slice_get l 0) (over_later at x xs)
over_off (x ∷ xs) (suc at) (suc k) lt ne = ap (λ l. slice_get l (suc k)) (over_later at x xs) ∙ over_off xs at k (omega arith) (λ e. ne (ap suc e))

over_long : (xs : List ℕ) (at : ℕ) → at < length xs → length (put_over at dee xs) ≡ length xs
over_long [] at lt = absurd (omega arith)
over_long (x ∷ xs) zero lt = refl
over_long (x ∷ xs) (suc k) lt = ap (λ l. length l) (over_later k x xs) ∙ ap suc (over_long xs k (omega arith))

-- what lies below the length is all of it
all_lies : (len at : ℕ) → at < len → lying len at dee ≡ dee
all_lies len at lt = by_rest (len - at) (omega arith) where
  by_rest : (n : ℕ) → 1 ≤ n → take n dee ≡ dee
  by_rest zero le = absurd (omega arith)
  by_rest (suc zero) le = refl
  by_rest (suc (suc n)) le = refl

one_more : {A : Type 0} (x : A) (xs ys : List A) → Among x (xs ++ ys) → Among x xs ⊎ Among x ys
one_more x [] ys h = inr h
one_more x (y ∷ xs) ys h = ⊎_elim (λ e. inl (inl e)) (λ w. ⊎_elim (λ u. inl (inr u)) (λ u. inr u) (one_more x xs ys w)) h

-- a file with `D` at a place
abbrev with_dee : ℕ → ℕ → File → File
with_dee now at f = record { bytes = put_over at dee f.bytes; kept = f.kept; given = f.given ++ (at, 68) ∷ []; least = f.least; greatest = f.greatest; moment = now }

module _ (text : List ℕ) (marks : List ℕ) where
  abbrev Fits : ℕ → Option ℕ → Type 0
  Fits place value = (value ≡ slice_get text place) ⊎ (Among place marks × (value ≡ Some 68))

  pub written_kept : (f : File) (now at : ℕ) → Among at marks → at < length text → IsMarkedFrom text marks f → IsMarkedFrom text marks (overwritten now at dee f)
  written_kept f now at may lt h = subst (IsMarkedFrom text marks) (sym whole) (record {
    least = h.least;
    greatest = h.greatest;
    kept = h.kept;
    long = over_long f.bytes at inside ∙ h.long;
    each = each;
  })
    where
      inside : at < length f.bytes
      inside = let long = h.long in omega arith

      whole : overwritten now at dee f ≡ with_dee now at f
      whole =
          let one : lying (length f.bytes) at dee ≡ dee = all_lies (length f.bytes) at inside in
          let below : lying (length f.kept) at dee ≡ dee = all_lies (length f.kept) at (let same = h.kept in omega arith) in
          ap (λ (b : List ℕ). let it : File = record { bytes = put_over at b f.bytes; kept = f.kept; given = f.given ++ written (length f.kept) at b; least = f.least; greatest = f.greatest; moment = now } in it) one
          ∙ ap (λ (b : List ℕ). let it : File = record { bytes = put_over at dee f.bytes; kept = f.kept; given = f.given ++ enumerate_from at b; least = f.least; greatest = f.greatest; moment = now } in it) below

      new_byte : (k : ℕ) → k < length text → (k ≡ at) ⊎ (k ≡ at → ⊥) → Fits k (slice_get (put_over at dee f.bytes) k)
      new_byte k lt (inl same) = inr (subst (λ i. Among i marks) (sym same) may, ap (λ i. slice_get (put_over at dee f.bytes) i) same ∙ over_at f.bytes at inside)
      new_byte k lt (inr off) = subst (Fits k) (sym (over_off f.bytes at k inside off)) (h.each k (slice_get f.bytes k) lt (inl refl))

      was_given : (k b : ℕ) → k < length text → Among (k, b) (f.given ++ (at, 68) ∷ []) → Fits k (Some b)
      was_given k b lt among = ⊎_elim
          (λ old. h.each k (Some b) lt (inr (inr (b, old, refl))))
          (λ last. ⊎_elim
          (λ same. inr (subst (λ i. Among i marks) (sym (ap (λ (p : ℕ × ℕ). p.0) same)) may, ap (λ (p : ℕ × ℕ). let o : Option ℕ = Some p.1 in o) same))
          (λ none. absurd none)
          last)
          (one_more (k, b) f.given ((at, 68) ∷ []) among)

      each : (k : ℕ) (v : Option ℕ) → k < length text → MayRead (with_dee now at f) k v → Fits k v
      each k v lt (inl e) = subst (Fits k) (sym e) (new_byte k lt (cases_eq k at))
      each k v lt (inr (inl e)) = h.each k v lt (inr (inl e))
      each k v lt (inr (inr (b, among, e))) = subst (Fits k) (sym e) (was_given k b lt among)

  pub failed_kept : (f : File) (now at wrote : ℕ) → Among at marks → at < length text → IsMarkedFrom text marks f → IsMarkedFrom text marks (overwritten_part now at dee wrote f)
  failed_kept f now at zero may lt h = h
  failed_kept f now at (suc zero) may lt h = written_kept f now at may lt h
  failed_kept f now at (suc (suc k)) may lt h = written_kept f now at may lt h

  pub stopped_kept : (f : File) (contents : List ℕ) → IsMarkedFrom text marks f → Survives f contents → IsMarkedFrom text marks (settled contents f)
  stopped_kept f contents h s = record {
    least = long;
    greatest = long;
    kept = long;
    long = long;
    each = each;
  }
    where
      long : length contents ≡ length text
      long = let low = s.no_shorter in let high = s.no_longer in let least = h.least in let greatest = h.greatest in omega (arith, low, high, least, greatest)

      left : (k : ℕ) → k < length text → Fits k (slice_get contents k)
      left k lt = let same = h.kept in let all = long in h.each k (slice_get contents k) lt (inr (s.below k (omega (arith, lt, same)) (omega (arith, lt, all))))

      each : (k : ℕ) (v : Option ℕ) → k < length text → MayRead (settled contents f) k v → Fits k v
      each k v lt (inl e) = subst (Fits k) (sym e) (left k lt)
      each k v lt (inr (inl e)) = subst (Fits k) (sym e) (left k lt)
      each k v lt (inr (inr (b, among, e))) = absurd among

pub made_first : (marks : List ℕ) (f : File) → IsMarkedFrom f.bytes marks (synced f)
made_first marks f = record { least = refl; greatest = refl; kept = refl; long = refl; each = each } where
  each : (k : ℕ) (v : Option ℕ) → k < length f.bytes → MayRead (synced f) k v → (v ≡ slice_get f.bytes k) ⊎ (Among k marks × (v ≡ Some 68))
  each k v lt (inl e) = inl e
  each k v lt (inr (inl e)) = inl e
  each k v lt (inr (inr (b, among, e))) = absurd among

pub more_marked : (text : List ℕ) (marks later : List ℕ) (f : File) → ((place : ℕ) → Among place marks → Among place later) → IsMarkedFrom text marks f → IsMarkedFrom text later f
more_marked text marks later f more h = record {
  least = h.least;
  greatest = h.greatest;
  kept = h.kept;
  long = h.long;
  each = λ k v lt may. ⊎_elim (λ e. inl e) (λ w. inr (more k w.0, w.1)) (h.each k v lt may);
}
