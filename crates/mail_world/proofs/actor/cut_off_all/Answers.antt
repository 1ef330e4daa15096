use Rattle.std.proofs.Common.{◌≡◌, ℕ, ◌<◌, ◌+◌, length, Some, sym, ap, ◌∙◌, subst, ⊎_elim, arith}
use Rattle.std.proofs.lemmas.Option.{slice_get_within, slice_get_read}
use Rattle.std.specs.List.{slice_get}
use Rattle.mail_world.specs.declared.actor.Actor.{Actor}
use Rattle.mail_world.specs.Acting.{IsCutOff}
use Rattle.mail_world.proofs.Lists.{get_set}
use Rattle.mail_world.proofs.actor.cut_off_all.Goals as goal

pub loop-actor-preserved : goal.loop-actor-preserved
loop-actor-preserved c =
    let l = c.loop-actor in
    let at = l.actor-index in
    let old = c.actor-item.result in
    let here : slice_get l.actors at ≡ Some old = slice_get_read l.actors (length c.args.actors.now) at old (omega (arith, c.loop-actor.auto.actors)) c.loop-actor-test.true c.actor-item.is in
    λ i x y is now. ⊎_elim
    (λ f.
    let was : slice_get l.actors i ≡ Some old = ap (slice_get l.actors) f.0 ∙ here in
    let same : old ≡ x = (l.invariant i x old is was).1 (omega (arith, f.0)) in (
      (λ lt. subst (λ (y : Actor). IsCutOff c.args.index x y) f.1 (subst (λ (x : Actor). IsCutOff c.args.index x c.cut_off.new.self) (sym c.actor-item.is ∙ same) c.cut_off.ensures)),
      (λ le. absurd (omega (arith, f.0))),
    ))
    (λ f.
    let was = l.invariant i x y is f.1 in
    ((λ lt. was.0 (below at i f.0 lt)), (λ le. was.1 (omega arith))))
    (get_set l.actors at c.cut_off.new.self i y now)
  where
    below : (at i : ℕ) → (i ≡ at → ⊥) → i < at + 1 → i < at
    below at i apart lt = omega (arith, apart)

pub returns : goal.returns
returns c =
    let l = c.loop-actor in record {
      many = omega (arith, c.loop-actor.auto.actors);
      each = λ i x y is now. (l.invariant i x y is now).0 (let within = slice_get_within l.actors i y now in omega (arith, c.loop-actor.auto.actors));
    }
