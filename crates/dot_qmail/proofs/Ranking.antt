-- What a rank says of a name. `b` are the bytes before ext.
use Rattle.std.proofs.Common.{◌≡◌, ◌≢◌, ◌⊎◌, ℕ, ◌+◌, ◌-◌, ◌<◌, ◌≤◌, List, [], ◌∷◌, ◌++◌, length, take, drop, Bool, true, false, nat_lt, nat_eq, Option, Some, None, refl, sym, ap, ◌∙◌, inl, inr, ⊎_elim, arith, bytes_eq, codes, length-append, append_assoc, subst}
use Rattle.std.specs.Prelude.{◌&&◌, ◌||◌, if◌then◌else◌}
use Rattle.std.specs.List.{starts_with, ends_with}
use Rattle.std.specs.Bool.{Decides}
use Rattle.std.proofs.lemmas.Bool.{cond-true, cond-false, cases_Bool, false_from_ne_true}
use Rattle.std.proofs.lemmas.Bool.Decides.{Decides-eqb, Decides-ltb, Decides-and, Decides-or}
use Rattle.std.proofs.lemmas.List.{take_at}
use Rattle.std.proofs.lemmas.Slice.Eq.{bytes_eq-Decides, starts_is, ends_is}
use Rattle.dot_qmail.specs.Choice.{IsStem}
use Rattle.dot_qmail.specs.Ranks.{is_stem, stem_of, default_rank, rank_of}

abbrev default : List ℕ
default = codes "default"

pub starts_decides : (full stem : List ℕ) → Decides (starts_with nat_eq full stem) ((rest : List ℕ) × (full ≡ stem ++ rest))
starts_decides full stem =
    let s = starts_is Decides-eqb full stem (starts_with nat_eq full stem) refl in
    (λ e. (drop (length stem) full, s.0 e), λ h. s.1 h.0 h.1)

pub ends_decides : (text end : List ℕ) → Decides (ends_with nat_eq text end) ((front : List ℕ) × (text ≡ front ++ end))
ends_decides text end =
    let s = ends_is Decides-eqb text end (ends_with nat_eq text end) refl in
    (λ e. (take (length text - length end) text, s.0 e), λ h. s.1 h.0 h.1)

abbrev Ends : ℕ → List ℕ → Type 0
Ends base stem = (length stem ≡ base) ⊎ ((base < length stem) × ((front : List ℕ) × (stem ≡ front ++ 45 ∷ [])))

stem_decides : (full : List ℕ) (base : ℕ) (stem : List ℕ) → Decides (is_stem full base stem) (((rest : List ℕ) × (full ≡ stem ++ rest)) × Ends base stem)
stem_decides full base stem =
    Decides-and (starts_with nat_eq full stem) (nat_eq (length stem) base || (nat_lt base (length stem) && ends_with nat_eq stem (45 ∷ [])))
    (starts_decides full stem)
    (Decides-or (nat_eq (length stem) base) (nat_lt base (length stem) && ends_with nat_eq stem (45 ∷ [])) (Decides-eqb (length stem) base)
    (Decides-and (nat_lt base (length stem)) (ends_with nat_eq stem (45 ∷ [])) (Decides-ltb base (length stem)) (ends_decides stem (45 ∷ []))))

stem_of_default : (stem : List ℕ) → stem_of (stem ++ default) ≡ stem
stem_of_default stem = let long = length-append stem default in take_at stem default (length (stem ++ default) - 7) (omega arith)

pub rank_full : (full : List ℕ) (base : ℕ) → rank_of full base full ≡ Some (length full + 1)
rank_full full base = cond-true (bytes_eq full full) (Some (length full + 1)) (if ends_with nat_eq full default then default_rank full base (stem_of full) else None) ((bytes_eq-Decides full full).1 refl)

-- a default name that isn't the full one
rank_other : (full : List ℕ) (base : ℕ) (stem : List ℕ) → (stem ++ default) ≢ full → is_stem full base stem ≡ true → rank_of full base (stem ++ default) ≡ Some (length stem)
rank_other full base stem apart ok =
    let name = stem ++ default in
    cond-false (bytes_eq name full) (Some (length full + 1)) (if ends_with nat_eq name default then default_rank full base (stem_of name) else None)
    (false_from_ne_true (bytes_eq name full) (λ e. apart ((bytes_eq-Decides name full).0 e)))
    ∙ cond-true (ends_with nat_eq name default) (default_rank full base (stem_of name)) None ((ends_decides name default).1 (stem, refl))
    ∙ ap (default_rank full base) (stem_of_default stem)
    ∙ cond-true (is_stem full base stem) (Some (length stem)) None ok

-- what has a rank
pub data Ranked (full : List ℕ) (base : ℕ) (name : List ℕ) (rank : ℕ) : Type 0 where
  IsFull : name ≡ full → rank ≡ length full + 1 → Ranked full base name rank
  IsDefault : name ≢ full → (stem : List ℕ) → name ≡ stem ++ default → is_stem full base stem ≡ true → rank ≡ length stem → Ranked full base name rank

some_same : {a b : ℕ} → ◌≡◌ {A = Option ℕ} (Some a) (Some b) → a ≡ b
some_same e = cc

none_some : {a : ℕ} → ◌≡◌ {A = Option ℕ} None (Some a) → ⊥
none_some e = cc

differ : (t : Bool) → t ≡ false → t ≡ true → ⊥
differ t a b = cc

module _ (full : List ℕ) (base : ℕ) (name : List ℕ) (rank : ℕ) where
  abbrev other : Option ℕ
  other = if ends_with nat_eq name default then default_rank full base (stem_of name) else None

  by_stem : name ≢ full → name ≡ stem_of name ++ default → default_rank full base (stem_of name) ≡ Some rank → Ranked full base name rank
  by_stem apart is f = ⊎_elim
      (λ ok. IsDefault apart (stem_of name) is ok (sym (some_same (sym (cond-true (is_stem full base (stem_of name)) (Some (length (stem_of name))) None ok) ∙ f))))
      (λ bad. absurd (none_some (sym (cond-false (is_stem full base (stem_of name)) (Some (length (stem_of name))) None bad) ∙ f)))
      (cases_Bool (is_stem full base (stem_of name)))

  by_end : other ≡ Some rank → name ≢ full → Ranked full base name rank
  by_end f apart = ⊎_elim
      (λ is.
      let d = (ends_decides name default).0 is in
      by_stem apart (d.1 ∙ ap (λ s. s ++ default) (sym (stem_of_default d.0) ∙ ap stem_of (sym d.1))) (sym (cond-true (ends_with nat_eq name default) (default_rank full base (stem_of name)) None is) ∙ f))
      (λ bad. absurd (none_some (sym (cond-false (ends_with nat_eq name default) (default_rank full base (stem_of name)) None bad) ∙ f)))
      (cases_Bool (ends_with nat_eq name default))

  pub ranked : rank_of full base name ≡ Some rank → Ranked full base name rank
  ranked e = ⊎_elim
      (λ is. IsFull ((bytes_eq-Decides name full).0 is) (sym (some_same (sym (cond-true (bytes_eq name full) (Some (length full + 1)) other is) ∙ e))))
      (λ unlike. by_end (sym (cond-false (bytes_eq name full) (Some (length full + 1)) other unlike) ∙ e) (λ is. differ (bytes_eq name full) unlike ((bytes_eq-Decides name full).1 is)))
      (cases_Bool (bytes_eq name full))

-- The full name is the bytes before ext, and ext.

-- a prefix that reaches past these bytes begins with them
past : (b ext stem rest : List ℕ) → b ++ ext ≡ stem ++ rest → length b ≤ length stem → (s : List ℕ) × (stem ≡ b ++ s) × (ext ≡ s ++ rest)
past [] ext stem rest e le = (stem, refl, e)
past (x ∷ b) ext [] rest e le = absurd (omega arith)
past (x ∷ b) ext (y ∷ stem) rest e le =
    let more = past b ext stem rest (tail_same e) (omega arith) in
    (more.0, ap (λ c. c ∷ stem) (sym (head_same e)) ∙ ap (λ t. x ∷ t) more.1, more.2)
  where
    tail_same : ◌≡◌ {A = List ℕ} (x ∷ (b ++ ext)) (y ∷ (stem ++ rest)) → b ++ ext ≡ stem ++ rest
    tail_same e = cc

    head_same : ◌≡◌ {A = List ℕ} (x ∷ (b ++ ext)) (y ∷ (stem ++ rest)) → x ≡ y
    head_same e = cc

-- what a text ends with that goes past these bytes
end_past : (b s front : List ℕ) → b ++ s ≡ front ++ 45 ∷ [] → length b < length (b ++ s) → (f : List ℕ) × (s ≡ f ++ 45 ∷ [])
end_past b s front e lt =
    let long = ap length e ∙ length-append front (45 ∷ []) in
    let p = past b s front (45 ∷ []) e (omega arith) in
    (p.0, p.2)

is_empty_by_length : (s : List ℕ) → length s ≡ 0 → s ≡ []
is_empty_by_length [] e = refl
is_empty_by_length (x ∷ s) e = absurd (omega arith)

pub stem_ext : (b ext stem : List ℕ) → is_stem (b ++ ext) (length b) stem ≡ true → (s : List ℕ) × (stem ≡ b ++ s) × IsStem ext s
stem_ext b ext stem ok =
    let d = (stem_decides (b ++ ext) (length b) stem).0 ok in
    let reach : length b ≤ length stem = ⊎_elim (λ e. omega arith) (λ w. let lt = w.0 in omega arith) d.1 in
    let p = past b ext stem d.0.0 d.0.1 reach in
    let long = ap length p.1 ∙ length-append b p.0 in (
      p.0,
      p.1,
      record {
        rest = d.0.0;
        begins = p.2;
        ends = ⊎_elim (λ e. inl (is_empty_by_length p.0 (omega arith))) (λ w. let lt = w.0 in inr (end_past b p.0 w.1.0 (sym p.1 ∙ w.1.1) (subst (λ t. length b < length t) p.1 lt))) d.1;
      },
    )

pub ext_stem : (b ext s : List ℕ) → IsStem ext s → is_stem (b ++ ext) (length b) (b ++ s) ≡ true
ext_stem b ext s h =
    let long = length-append b s in
    (stem_decides (b ++ ext) (length b) (b ++ s)).1 (
      (h.rest, ap (λ t. b ++ t) h.begins ∙ sym (append_assoc b s h.rest)),
      ⊎_elim
          (λ none. inl (let zero = ap length none in omega arith))
          (λ w.
          let some = ap length w.1 ∙ length-append w.0 (45 ∷ []) in
          inr (omega arith, (b ++ w.0, ap (λ t. b ++ t) w.1 ∙ sym (append_assoc b w.0 (45 ∷ [])))))
          h.ends,
    )

-- the default name of a stem ranks at least by its length
pub rank_default : (b ext s : List ℕ) → IsStem ext s → (r : ℕ) × (rank_of (b ++ ext) (length b) ((b ++ s) ++ default) ≡ Some r) × (length b + length s ≤ r)
rank_default b ext s h =
    let name = (b ++ s) ++ default in
    let long = length-append b s in
    ⊎_elim
    (λ is.
    let same = (bytes_eq-Decides name (b ++ ext)).0 is in
    let size = ap length same ∙ length-append b ext in
    let named = length-append (b ++ s) default in
    (length (b ++ ext) + 1, ap (rank_of (b ++ ext) (length b)) same ∙ rank_full (b ++ ext) (length b), omega (arith, length-append b ext)))
    (λ unlike. (length (b ++ s), rank_other (b ++ ext) (length b) (b ++ s) (λ is. differ (bytes_eq name (b ++ ext)) unlike ((bytes_eq-Decides name (b ++ ext)).1 is)) (ext_stem b ext s h), omega arith))
    (cases_Bool (bytes_eq name (b ++ ext)))
