-- Each move keeps the rule of what is fed.
use Rattle.std.proofs.Common.{◌≡◌, ◌≢◌, ℕ, zero, suc, true, true≢false, List, [], ◌∷◌, ◌++◌, length, set, sym, refl, ap, ◌∙◌, subst, ⊎_elim, append_assoc}
use mathlib.Core.Option.{some, some-ne-none}
use lib.ListN.{get_elem?}
use Rattle.crossbeam_queue.specs.Fifo.{Pushes, Pops, Forks, Merges, Learns}
use Rattle.crossbeam_queue.proofs.Lists.{at_set, at_snoc}
use Rattle.child_input.specs.declared.feed_rule.Fed.{Fed}
use Rattle.child_input.specs.declared.feed_rule.Feed.{Feed}
use Rattle.child_input.specs.Feedings.{FitsTurn, KeepsTurn, both, fed_on, feeder, idle, taken_on, writer}

at_end : (l : List Feed) (a b : Feed) (j : ℕ) → get_elem? l j ≢ some b → get_elem? (l ++ a ∷ []) j ≡ some b → j ≡ length l
at_end [] a b zero n e = refl
at_end [] a b (suc j) n e = absurd (some-ne-none b (sym e))
at_end (x ∷ xs) a b zero n e = absurd (n e)
at_end (x ∷ xs) a b (suc j) n e = ap suc (at_end xs a b j n e)

abbrev Each : (ℕ → Feed → Type 0) → List Feed → Type 0
Each F views = (port : ℕ) (v : Feed) → get_elem? views port ≡ some v → F port v

each_set : (F : ℕ → Feed → Type 0) (views : List Feed) (port : ℕ) (w : Feed) → F port w → ((j : ℕ) (u : Feed) → j ≢ port → get_elem? views j ≡ some u → F j u) → Each F (set views port w)
each_set F views port w mine others j u e = ⊎_elim (λ (x : (j ≡ port) × (w ≡ u)). subst (λ (y : ℕ × Feed). F y.0 y.1) (λ i. (sym x.0 i, x.1 i)) mine)
    (λ (x : (j ≢ port) × (get_elem? views j ≡ some u)). others j u x.0 x.1) (at_set views port j w u e)

pub begins : KeepsTurn [] (both [] [] ∷ [])
begins = (0, 0, [], [], refl, each_set (FitsTurn 0 0 [] []) (both [] [] ∷ []) 0 (both [] []) ((λ _. (refl, refl)), λ _. (refl, refl)) (λ j u other e. absurd (other (at_end [] _ u j (λ x. some-ne-none u (sym x)) e))))

pub feeds : (n port : ℕ) (v : Feed) (x : Fed) → v.feeds ≡ true → Pushes KeepsTurn n port v x (λ w. w ≡ fed_on v x)
feeds n port v x may items views _ h at =
    let w : Feed = fed_on v x in
    let mine = h.5 port v at in
    let given = h.2 ++ x ∷ [] in (
      w,
      (
        h.0,
        h.1,
        given,
        h.3,
        ap (λ l. l ++ x ∷ []) h.4 ∙ append_assoc h.3 items (x ∷ []),
        each_set (FitsTurn h.0 h.1 given h.3) views port w ((λ _. ((mine.0 may).0, ap (λ l. l ++ x ∷ []) (mine.0 may).1)), mine.1)
            (λ j u other e. ((λ p. absurd (other (((h.5 j u e).0 p).0 ∙ sym (mine.0 may).0))), (h.5 j u e).1)),
      ),
      refl,
    )

pub takes : (port : ℕ) (v : Feed) → v.writes ≡ true → Pops KeepsTurn port v (λ x w. w ≡ taken_on v x)
takes port v may x items views h at =
    let w : Feed = taken_on v x in
    let mine = h.5 port v at in
    let taken = h.3 ++ x ∷ [] in (
      w,
      (
        h.0,
        h.1,
        h.2,
        taken,
        h.4 ∙ sym (append_assoc h.3 (x ∷ []) items),
        each_set (FitsTurn h.0 h.1 h.2 taken) views port w (mine.0, λ _. ((mine.1 may).0, ap (λ l. l ++ x ∷ []) (mine.1 may).1))
            (λ j u other e. ((h.5 j u e).0, λ p. absurd (other (((h.5 j u e).1 p).0 ∙ sym (mine.1 may).0)))),
      ),
      refl,
    )

pub parts : (port : ℕ) (v : Feed) → v.feeds ≡ true → v.writes ≡ true → Forks KeepsTurn port v (feeder v.fed) (writer v.taken)
parts port v a b items views h at =
    let l : Feed = feeder v.fed in
    let r : Feed = writer v.taken in
    let mine = h.5 port v at in
    let vs : List Feed = set views port l in
    let Old : ℕ → Feed → Type 0 = λ j u. (u.feeds ≡ true → (j ≡ h.0) × (u.fed ≡ h.2)) × (u.writes ≢ true) in
    let old : Each Old vs = each_set Old views port l ((λ _. mine.0 a), λ p. true≢false (sym p)) (λ j u other e. ((h.5 j u e).0, λ p. other (((h.5 j u e).1 p).0 ∙ sym (mine.1 b).0))) in (
      h.0,
      length vs,
      h.2,
      h.3,
      h.4,
      λ j u e. ⊎_elim (λ x. ((old j u x).0, λ p. absurd ((old j u x).1 p)))
          (λ (is : r ≡ u). ((λ p. absurd (true≢false (sym (ap (λ (y : Feed). y.feeds) is ∙ p)))), λ p. (at_end vs r u j (λ x. (old j u x).1 p) e, ap (λ (y : Feed). y.taken) (sym is) ∙ (mine.1 b).1))) (at_snoc vs r u j e),
    )

pub unites : (port : ℕ) (v : Feed) (other : ℕ) (u : Feed) → v.feeds ≡ true → u.writes ≡ true → Merges KeepsTurn port v other u (both v.fed u.taken) idle
unites port v other u a b items views h at two at' =
    let one : Feed = both v.fed u.taken in
    let mine = h.5 port v at in
    let vs : List Feed = set views port one in
    let was : get_elem? views other ≡ some u = ⊎_elim (λ x. absurd (two x.0)) (λ x. x.1) (at_set views port other one u at') in
    let theirs = (h.5 other u was).1 b in
    let Now : ℕ → Feed → Type 0 = λ j y. j ≢ other → FitsTurn h.0 port h.2 h.3 j y in
    let now : Each Now vs = each_set Now views port one (λ _. ((λ _. mine.0 a), λ _. (refl, theirs.1))) (λ j y _ e apart. ((h.5 j y e).0, λ p. absurd (apart (((h.5 j y e).1 p).0 ∙ sym theirs.0)))) in
    (h.0, port, h.2, h.3, h.4, each_set (FitsTurn h.0 port h.2 h.3) vs other idle ((λ p. absurd (true≢false (sym p))), λ p. absurd (true≢false (sym p))) (λ j y apart e. now j y e apart))

pub agrees : (port : ℕ) (v : Feed) → v.feeds ≡ true → v.writes ≡ true → Learns KeepsTurn port v (λ items. v.fed ≡ v.taken ++ items)
agrees port v a b items views h at = let mine = h.5 port v at in (mine.0 a).1 ∙ h.4 ∙ ap (λ l. l ++ items) (sym (mine.1 b).1)
