-- Which names a delivery may have, and the names of children.
use Rattle.std.proofs.Common.{◌≡◌, ⊎_elim, ℕ, List, [], ◌∷◌, Bool, true, false, ◌&&◌, refl, arith}
use Rattle.std.specs.Prelude.{◌==◌}
use Rattle.std.proofs.lemmas.Bool.{and_parts, eqb-true}
use Rattle.actor_names.specs.MailNames.{IsMailName}
use Rattle.scenario.specs.Fates.{is_delivery_name}

-- no mail has a name of a delivery
no_delivery : (a : List ℕ) → IsMailName a → is_delivery_name a ≡ true → ⊥
no_delivery [] is e = is
no_delivery (first ∷ []) is e = let tests = and_parts (108 == first) false e in let no = tests.1 in cc
no_delivery (first ∷ second ∷ rest) is e =
    let tests = and_parts (108 == first) ((46 == second) && true) e in
    let dot : 46 ≡ second = eqb-true 46 second (and_parts (46 == second) true tests.1).0 in
    let at = is.1 0 second (omega arith) in
    absurd (⊎_elim (λ w. let low = w.0 in omega (arith, low, dot)) (λ w. let low = w.0 in omega (arith, low, dot)) at)

pub mail_no_delivery : (a : List ℕ) → IsMailName a → is_delivery_name a ≡ false
mail_no_delivery a is = by (is_delivery_name a) refl where
  by : (t : Bool) → is_delivery_name a ≡ t → is_delivery_name a ≡ false
  by true e = absurd (no_delivery a is e)
  by false e = e
