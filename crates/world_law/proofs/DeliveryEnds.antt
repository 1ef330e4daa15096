-- If a delivery took the status 0, the injection of what it gave was accepted.
use Rattle.std.proofs.Common.{◌≡◌, ◌⊎◌, inl, inr, ⊎_elim, ℕ, List, [], ◌∷◌, ◌++◌, refl, sym, ap, subst}
use Rattle.call_fs.specs.Disk.{Among}
use Rattle.call_fs.specs.declared.past.GotData.{GotData}
use Rattle.call_fs.specs.declared.past.GotData.TheVariants as got
use Rattle.call_fs.specs.declared.past.NeedData.{NeedData}
use Rattle.call_fs.specs.declared.past.NeedData.TheVariants as needs
use Rattle.call_fs.specs.declared.past.Own.{Own}
use Rattle.call_fs.specs.declared.program.Port.TheVariants as port
use Rattle.local_deliver.specs.Deeds.{feeds, feeds_by, statuses, statuses_by}
use Rattle.local_deliver.specs.Forwards.{HasGiven}
use Rattle.queue_law.specs.Books.{Books}
use Rattle.world_law.specs.Deliveries.{AreForwarded, IsForwarded}

-- A list with one more at its end

module _ {A : Type 0} where
  last_among : (xs : List A) (x : A) → Among x (xs ++ x ∷ [])
  last_among [] x = inl refl
  last_among (y ∷ xs) x = inr (last_among xs x)

  still_among : (xs : List A) (x y : A) → Among x xs → Among x (xs ++ y ∷ [])
  still_among [] x y h = absurd h
  still_among (z ∷ xs) x y h = ⊎_elim (λ (same : x ≡ z). inl same) (λ (w : Among x xs). inr (still_among xs x y w)) h

  pub among_cases : (xs : List A) (x y : A) → Among x (xs ++ y ∷ []) → Among x xs ⊎ (x ≡ y)
  among_cases [] x y h = ⊎_elim (λ (same : x ≡ y). inr same) (λ (none : ⊥). absurd none) h
  among_cases (z ∷ xs) x y h = ⊎_elim
      (λ (same : x ≡ z). inl (inl same))
      (λ (w : Among x (xs ++ y ∷ [])). ⊎_elim (λ (v : Among x xs). inl (inr v)) (λ (same : x ≡ y). inr same) (among_cases xs x y w))
      h

only_among : (x y : List ℕ) → Among x (y ∷ []) → x ≡ y
only_among x y h = ⊎_elim (λ (same : x ≡ y). same) (λ (none : ⊥). absurd none) h

-- what was given stays given
fed_on : (input : List ℕ) (old : List (List ℕ)) (due : NeedData) (came : GotData) → Among input old → Among input (feeds_by old due came)
fed_on input old (needs.Give (port.Program d) bytes) got.Gave h = still_among old input bytes h
fed_on input old due came h = h

given_among : (past : List Own) (input : List ℕ) → HasGiven input past → Among input (feeds past)
given_among [] input given = absurd given
given_among (own ∷ before) input given =
    subst (λ (due : NeedData). Among input (feeds_by (feeds before) due own.came)) (sym given.0)
    (subst (λ (came : GotData). Among input (feeds_by (feeds before) (needs.Give (port.Program 0) input) came)) (sym given.1) (last_among (feeds before) input))

-- a status of 0 is an older one, or is taken now
zero_cases : (old : List ℕ) (due : NeedData) (came : GotData) → Among 0 (statuses_by old due came)
    → Among 0 old ⊎ ((slot : ℕ) × (due ≡ needs.Take (port.Status slot)) × (came ≡ got.Ended 0))
zero_cases old (needs.Take (port.Status slot)) (got.Ended code) h = ⊎_elim
    (λ (older : Among 0 old). inl older)
    (λ (zero : 0 ≡ code). inr (slot, refl, ap got.Ended (sym zero)))
    (among_cases old 0 code h)
zero_cases old due came h = inl h

module _ (b : Books) where
  -- something that was given was accepted
  abbrev HasFed : List Own → Type 0
  HasFed past = (input : List ℕ) × Among input (feeds past) × IsForwarded b input

  zero_fed : (past : List Own) → AreForwarded b past → Among 0 (statuses past) → HasFed past
  zero_fed [] F zero = absurd zero
  zero_fed (own ∷ before) F zero = ⊎_elim
      (λ (older : Among 0 (statuses before)).
      let w = zero_fed before F.0 older in (w.0, fed_on w.0 (feeds before) own.due own.came w.1, w.2))
      (λ (now : (slot : ℕ) × (own.due ≡ needs.Take (port.Status slot)) × (own.came ≡ got.Ended 0)).
      let w = F.1 now.0 now.1 now.2 in
      (w.input, fed_on w.input (feeds before) own.due own.came (given_among before w.input w.given), w.forwarded))
      (zero_cases (statuses before) own.due own.came zero)

  pub forwarded_in : (past : List Own) → AreForwarded b past → (input : List ℕ) → feeds past ≡ input ∷ [] → statuses past ≡ 0 ∷ [] → IsForwarded b input
  forwarded_in past F input fed ended =
      let w = zero_fed past F (subst (λ (taken : List ℕ). Among 0 taken) (sym ended) (inl refl)) in
      let same : w.0 ≡ input = only_among w.0 input (subst (λ (inputs : List (List ℕ)). Among w.0 inputs) fed w.1) in
      subst (λ (z : List ℕ). IsForwarded b z) same w.2
