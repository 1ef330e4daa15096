use Rattle.std.proofs.Common.{◌≡◌, ℕ, ◌<◌, ◌+◌, length, Some, refl, sym, ap, ◌∙◌, subst, ⊎_elim, arith}
use Rattle.std.proofs.lemmas.Option.{slice_get_within, slice_get_read}
use Rattle.std.specs.List.{slice_get}
use Rattle.world_pipes.specs.declared.mouths.Mouths.{Mouths}
use Rattle.world_pipes.specs.Exchanges.{HasShut, gives_at}
use Rattle.world_pipes.proofs.Lists.{get_set}
use Rattle.world_pipes.proofs.feeding.shut_all.Goals as goal

pub loop-place-preserved : goal.loop-place-preserved
loop-place-preserved c =
    let l = c.loop-place in
    let at = l.place in
    let old = c.index-mouths-place.result in
    let here : slice_get l.mouths at ≡ Some old =
    slice_get_read l.mouths (length l.mouths) at old refl (omega (arith, c.loop-place.auto.mouths, c.loop-place-test.true)) c.index-mouths-place.is in
    let shut = subst (λ (x : Mouths). HasShut (gives_at c.args.member at) x c.shut_at.new.mouths) (sym c.index-mouths-place.is) c.shut_at.ensures in
    λ i x y is now. ⊎_elim
    (λ f.
    let was : slice_get l.mouths i ≡ Some old = ap (slice_get l.mouths) f.0 ∙ here in
    let same : old ≡ x = (l.invariant i x old is was).1 (omega (arith, f.0)) in (
      (λ lt. subst (λ (y : Mouths). HasShut (gives_at c.args.member i) x y) f.1 (subst (λ (x : Mouths). HasShut (gives_at c.args.member i) x c.shut_at.new.mouths) same
          (subst (λ (k : ℕ). HasShut (gives_at c.args.member k) old c.shut_at.new.mouths) (sym f.0) shut))),
      (λ le. absurd (omega (arith, f.0))),
    ))
    (λ f.
    let was = l.invariant i x y is f.1 in
    ((λ lt. was.0 (below at i f.0 lt)), (λ le. was.1 (omega arith))))
    (get_set l.mouths at c.shut_at.new.mouths i y now)
  where
    below : (at i : ℕ) → (i ≡ at → ⊥) → i < at + 1 → i < at
    below at i apart lt = omega (arith, apart)

pub returns : goal.returns
returns c =
    let l = c.loop-place in record {
      many = omega (arith, c.loop-place.auto.mouths);
      each = λ i x y is now. (l.invariant i x y is now).0 (let within = slice_get_within l.mouths i y now in omega (arith, c.loop-place.auto.mouths));
    }
