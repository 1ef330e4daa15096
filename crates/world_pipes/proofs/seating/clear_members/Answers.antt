use Rattle.std.proofs.Common.{◌≡◌, ℕ, ◌<◌, ◌+◌, List, length, Bool, if◌then◌else◌, Option, Some, None, refl, sym, ap, ◌∙◌, subst, ⊎_elim, arith}
use Rattle.std.proofs.lemmas.Bool.{lt-ltb}
use Rattle.std.proofs.lemmas.Option.{slice_get_within, slice_get_read}
use Rattle.std.specs.List.{slice_get}
use Rattle.world_pipes.specs.declared.mouths.Mouths.{Mouths}
use Rattle.world_pipes.specs.Seating.{IsFresh}
use Rattle.world_pipes.proofs.Lists.{get_set, some_within}
use Rattle.world_pipes.proofs.seating.clear_members.Goals as goal

pub loop-seat-preserved : goal.loop-seat-preserved
loop-seat-preserved c =
    let l = c.loop-seat in
    let at = l.seat in
    let old = c.index-mouths-seat.result in
    let four = c.requires.four in
    let many = l.auto.mouths in
    let low = c.loop-seat-test.true in
    let here : slice_get l.mouths at ≡ Some old = slice_get_read l.mouths (length l.mouths) at old refl (omega (arith, four, many, low)) c.index-mouths-seat.is in
    let was = (l.invariant at old here).1 (omega arith) in
    let fresh : IsFresh c.clear.new.self = record {
      pipes = c.clear.ensures.pipes;
      tenants = c.clear.ensures.tenants;
      slots = c.clear.ensures.slots ∙ ap (λ (m : Mouths). length m.slots.items) (sym c.index-mouths-seat.is) ∙ c.requires.slots at old was ∙ ap (λ (t : Bool). if t then 256 else 1) (lt-ltb at 4 low);
    } in
    λ i y is. ⊎_elim
    (λ f. ((λ lt. subst IsFresh f.1 fresh), (λ le. absurd (omega (arith, f.0, le)))))
    (λ f. let before = l.invariant i y f.1 in ((λ lt. before.0 (below at i f.0 lt)), (λ le. before.1 (omega (arith, le)))))
    (get_set l.mouths at c.clear.new.self i y is)
  where
    below : (at i : ℕ) → (i ≡ at → ⊥) → i < at + 1 → i < at
    below at i apart lt = omega (arith, apart)

-- two lists of one length, of which the one has what the other one has at a place
same_at : (now old : List Mouths) (i : ℕ) → length now ≡ length old → ((y : Mouths) → slice_get now i ≡ Some y → slice_get old i ≡ Some y) → slice_get now i ≡ slice_get old i
same_at now old i many each = by_old (slice_get old i) refl where
  by_old : (o : Option Mouths) → slice_get old i ≡ o → slice_get now i ≡ slice_get old i
  by_old (Some z) is =
      let within = slice_get_within old i z is in
      let y = some_within now i (omega (arith, within, many)) in
      y.1 ∙ sym (each y.0 y.1)
  by_old None is = by_now (slice_get now i) refl where
    by_now : (o : Option Mouths) → slice_get now i ≡ o → slice_get now i ≡ slice_get old i
    by_now None none = none ∙ sym is
    by_now (Some y) some = some ∙ sym (each y some)

pub returns : goal.returns
returns c =
    let l = c.loop-seat in
    let end = c.loop-seat-test.false in
    let four = c.requires.four in
    let many = l.auto.mouths in record {
      four = omega (arith, four, many);
      members = λ i m low is. (l.invariant i m is).0 (omega (arith, end, low));
      others = λ i high. same_at l.mouths c.args.mouths.now i many (λ y is. (l.invariant i y is).1 (let most = l.auto.seat-end in omega (arith, most, high)));
    }
