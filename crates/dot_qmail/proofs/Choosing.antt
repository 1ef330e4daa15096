-- The name that ranks best is the first that is there of those that are looked for.
use Rattle.std.proofs.Common.{◌≡◌, ◌≢◌, ◌⊎◌, ℕ, ◌+◌, ◌<◌, ◌≤◌, List, [], ◌∷◌, ◌++◌, length, map, get_or, Option, Some, None, refl, sym, ap, ◌∙◌, inl, inr, ⊎_elim, arith, codes, length-append, append_assoc, subst}
use Rattle.std.specs.List.{AllByRecursion}
use Rattle.std.proofs.lemmas.Bool.{leb-true, leb-false, cond-true, cond-false, cases_Bool, cases_lt}
use Rattle.std.specs.Prelude.{nat_le}
use Rattle.dot_qmail.specs.declared.rank.Best.{Best}
use Rattle.dot_qmail.specs.Choice.{dot_name, default_name, stems, looked_for, first_place, place_of, chosen, bare_choice, dash_choice, safe, IsStem, IsMissing}
use Rattle.dot_qmail.specs.Ranks.{rank_of, better, IsBest, IsTop}
use Rattle.dot_qmail.proofs.Places.{first_at, none_there}
use Rattle.dot_qmail.proofs.Stems.{each_map, map_append, stems_sound, stems_stand}
use Rattle.dot_qmail.proofs.Ranking.{Ranked, ranked, rank_full, rank_default, stem_ext}
use Rattle.dot_qmail.proofs.Ranking.Ranked.{IsFull, IsDefault}

some_same : {a b : ℕ} → ◌≡◌ {A = Option ℕ} (Some a) (Some b) → a ≡ b
some_same e = cc

none_some : {a : ℕ} → ◌≡◌ {A = Option ℕ} None (Some a) → ⊥
none_some e = cc

module _ (names : List (List ℕ)) (dash ext : List ℕ) where
  abbrev b : List ℕ
  b = codes ".qmail" ++ dash

  abbrev full : List ℕ
  full = b ++ ext

  abbrev named : List ℕ → List ℕ
  named s = default_name dash s

  named_is : (s : List ℕ) → named s ≡ (b ++ s) ++ codes "default"
  named_is s = sym (append_assoc b s (codes "default"))

  rank_named : (s : List ℕ) → IsStem ext s → (r : ℕ) × (rank_of full (length b) (named s) ≡ Some r) × (length b + length s ≤ r)
  rank_named s h =
      let r = rank_default b ext s h in
      (r.0, ap (rank_of full (length b)) (named_is s) ∙ r.1, r.2)

  -- a name that ranks above all that are there is missing
  missing_above : (best : Best) (name : List ℕ) (r : ℕ) → IsBest full (length b) names (length names) best → rank_of full (length b) name ≡ Some r → best.rank < r → IsMissing names name
  missing_above best name r h is above k lt same =
      let le = h.greatest k r lt (ap (rank_of full (length b)) same ∙ is) in
      omega arith

  stem_short : (s : List ℕ) → IsStem ext s → length s ≤ length ext
  stem_short s h = let long = ap length h.begins ∙ length-append s h.rest in omega arith

  all_stems : (xs ys : List (List ℕ)) → AllByRecursion (IsStem ext) (xs ++ ys) → AllByRecursion (IsStem ext) xs
  all_stems [] ys h = tt
  all_stems (x ∷ xs) ys h = (h.0, all_stems xs ys h.1)

  longer : (best : Best) → IsBest full (length b) names (length names) best → (s : List ℕ) (xs : List (List ℕ)) → AllByRecursion (IsStem ext) xs → best.rank ≡ length b + length s
      → AllByRecursion (λ other. length s < length other) xs → AllByRecursion (IsMissing names) (map named xs)
  longer best h s [] stems_are size lt = tt
  longer best h s (q ∷ xs) stems_are size lt =
      let r = rank_named q stems_are.0 in
      let least = r.2 in
      let more = lt.0 in
      (missing_above best (named q) r.0 h r.1 (omega arith), longer best h s xs stems_are.1 size lt.1)

  pub taken : (best : Best) → IsBest full (length b) names (length names) best → first_place names (looked_for dash ext) ≡ Some best.place
  taken best h = by (ranked full (length b) (get_or names best.place []) best.rank h.ranks)
    where
      by : Ranked full (length b) (get_or names best.place []) best.rank → first_place names (looked_for dash ext) ≡ Some best.place
      by (IsFull is rank_is) = first_at names [] full (map named (stems ext)) best.place tt (record {
        inside = h.inside;
        here = is;
        first = λ k lt same. h.first k lt (ap (rank_of full (length b)) same ∙ rank_full full (length b) ∙ ap Some (sym rank_is));
      })
      by (IsDefault apart stem is ok rank_is) =
          let x = stem_ext b ext stem ok in
          let s : List ℕ = x.0 in
          let stood = stems_stand ext s x.2 in
          let is_named : get_or names best.place [] ≡ named s = is ∙ ap (λ t. t ++ codes "default") x.1 ∙ sym (named_is s) in
          let size : best.rank ≡ length b + length s = rank_is ∙ ap length x.1 ∙ length-append b s in
          let sound = stems_sound ext in
          ap (first_place names) (ap (λ t. full ∷ map named t) stood.split ∙ ap (λ t. full ∷ t) (map_append named stood.before (s ∷ stood.after)))
          ∙ first_at names (full ∷ map named stood.before) (named s) (map named stood.after) best.place (
            missing_above best full (length full + 1) h (rank_full full (length b)) (let short = stem_short s x.2 in omega (arith, length-append b ext)),
            longer best h s stood.before (all_stems stood.before (s ∷ stood.after) (subst (AllByRecursion (IsStem ext)) stood.split sound)) size stood.longer,
          )
          (record {
            inside = h.inside;
            here = is_named;
            first = λ k lt same. h.first k lt (ap (rank_of full (length b)) (same ∙ sym is_named) ∙ h.ranks);
          })

  missing_none : (name : List ℕ) (r : ℕ) → IsTop full (length b) names (length names) None → rank_of full (length b) name ≡ Some r → IsMissing names name
  missing_none name r h is k lt same = none_some (sym (h k lt) ∙ ap (rank_of full (length b)) same ∙ is)

  pub none_taken : IsTop full (length b) names (length names) None → first_place names (looked_for dash ext) ≡ None
  none_taken h = none_there names (looked_for dash ext) (
    missing_none full (length full + 1) h (rank_full full (length b)),
    each_map (IsMissing names) (IsStem ext) named (λ s is. let r = rank_named s is in missing_none (named s) r.0 h r.1) (stems ext) (stems_sound ext),
  )

-- The pass over the names

module _ (f : List ℕ) (base : ℕ) (names : List (List ℕ)) where
  below_or : (k n : ℕ) → k < n + 1 → (k < n) ⊎ (k ≡ n)
  below_or k n lt = ⊎_elim (λ below. inl below) (λ ge. inr (omega arith)) (cases_lt k n)

  abbrev it : ℕ → List ℕ
  it k = get_or names k []

  abbrev newer : ℕ → ℕ → Best
  newer r n = record { rank = r; place = n }

  pub top_on : (top : Option Best) (n : ℕ) (r : Option ℕ) → r ≡ rank_of f base (it n) → IsTop f base names n top → IsTop f base names (n + 1) (better top r n)
  top_on None n None e h = λ k lt. ⊎_elim (λ below. h k below) (λ same. ap (λ i. rank_of f base (it i)) same ∙ sym e) (below_or k n lt)
  top_on None n (Some r) e h = record {
    inside = omega arith;
    ranks = sym e;
    greatest = λ k rank lt is. ⊎_elim
        (λ below. absurd (none_some (sym (h k below) ∙ is)))
        (λ same. let eq = some_same (sym is ∙ ap (λ i. rank_of f base (it i)) same ∙ sym e) in omega arith)
        (below_or k n lt);
    first = λ k lt is. none_some (sym (h k lt) ∙ is);
  }
  top_on (Some best) n None e h = record {
    inside = let inside = h.inside in omega arith;
    ranks = h.ranks;
    greatest = λ k rank lt is. ⊎_elim
        (λ below. h.greatest k rank below is)
        (λ same. absurd (none_some (e ∙ sym (ap (λ i. rank_of f base (it i)) same) ∙ is)))
        (below_or k n lt);
    first = h.first;
  }
  top_on (Some best) n (Some r) e h = ⊎_elim
      (λ worse. subst (IsTop f base names (n + 1)) (sym (cond-true (nat_le r best.rank) (Some best) (Some (newer r n)) worse)) (kept (leb-true r best.rank worse)))
      (λ above. subst (IsTop f base names (n + 1)) (sym (cond-false (nat_le r best.rank) (Some best) (Some (newer r n)) above)) (changed (leb-false r best.rank above)))
      (cases_Bool (nat_le r best.rank))
    where
      kept : r ≤ best.rank → IsBest f base names (n + 1) best
      kept le = record {
        inside = let inside = h.inside in omega arith;
        ranks = h.ranks;
        greatest = λ k rank lt is. ⊎_elim
            (λ below. h.greatest k rank below is)
            (λ same. let eq = some_same (sym is ∙ ap (λ i. rank_of f base (it i)) same ∙ sym e) in omega arith)
            (below_or k n lt);
        first = h.first;
      }

      changed : best.rank < r → IsBest f base names (n + 1) (newer r n)
      changed above = record {
        inside = omega arith;
        ranks = sym e;
        greatest = λ k rank lt is. ⊎_elim
            (λ below. let old = h.greatest k rank below is in omega arith)
            (λ same. let eq = some_same (sym is ∙ ap (λ i. rank_of f base (it i)) same ∙ sym e) in omega arith)
            (below_or k n lt);
        first = λ k lt is. let old = h.greatest k r lt is in absurd (omega arith);
      }

-- What is chosen

pub bare : (names : List (List ℕ)) (dash ext : List ℕ) (o : Option ℕ) → length dash ≡ 0 → place_of names (codes ".qmail") ≡ o → chosen names dash ext ≡ bare_choice o
unfolding chosen
bare names [] ext o none e = ap bare_choice e
bare names (d ∷ dash) ext o none e = absurd (omega arith)

pub dashed_choice : (names : List (List ℕ)) (dash ext : List ℕ) (o : Option ℕ) → length dash ≢ 0 → first_place names (looked_for dash (safe ext)) ≡ o → chosen names dash ext ≡ dash_choice o
unfolding chosen
dashed_choice names [] ext o some e = absurd (some refl)
dashed_choice names (d ∷ dash) ext o some e = ap dash_choice e

-- by the name that ranks best
pub best_choice : (names : List (List ℕ)) (dash ext whole : List ℕ) (base : ℕ) (best : Best) → length dash ≢ 0 → whole ≡ dot_name dash (safe ext) → base ≡ 6 + length dash
    → IsTop whole base names (length names) (Some best) → chosen names dash ext ≡ dash_choice (Some best.place)
best_choice names dash ext whole base best some is size h =
    dashed_choice names dash ext (Some best.place) some (taken names dash (safe ext) best
    (subst (λ b. IsTop (dot_name dash (safe ext)) b names (length names) (Some best)) (size ∙ sym (length-append (codes ".qmail") dash))
    (subst (λ f. IsTop f base names (length names) (Some best)) is h)))

pub no_choice : (names : List (List ℕ)) (dash ext whole : List ℕ) (base : ℕ) → length dash ≢ 0 → whole ≡ dot_name dash (safe ext) → base ≡ 6 + length dash
    → IsTop whole base names (length names) None → chosen names dash ext ≡ None
no_choice names dash ext whole base some is size h =
    dashed_choice names dash ext None some (none_taken names dash (safe ext)
    (subst (λ b. IsTop (dot_name dash (safe ext)) b names (length names) None) (size ∙ sym (length-append (codes ".qmail") dash))
    (subst (λ f. IsTop f base names (length names) None) is h)))
