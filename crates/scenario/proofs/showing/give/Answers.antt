use Rattle.std.proofs.Common.{◌≡◌, ◌∙◌, ◌+◌, ◌-◌, ◌<◌, ℕ, List, length, get_or, Bool, true, false, bytes_eq, refl, sym, ap, subst, arith}
use Rattle.std.specs.Prelude.{◌&&◌}
use Rattle.scenario.specs.declared.showing.Given.{Given}
use Rattle.scenario.specs.inside.Fates.{Receiver, given_to, is_given, receiver}
use Rattle.scenario.proofs.Receivers.{IsPast, gives_here, past_all, past_more, past_none, same_at, turned}
use Rattle.scenario.proofs.showing.give.Goals as goal
use Rattle.scenario.proofs.showing.give.Goals.{else-given-place-via-then-given-place+else-eq, else-given-place-via-else-given-place}

pub loop-place-init : goal.loop-place-init
loop-place-init c = (refl, past_all c.args.child.now c.args.envelope.now c.args.given.now)

pub returns-then-eq : goal.returns-then-eq
returns-then-eq c =
    let child = c.args.child.now in
    let envelope = c.args.envelope.now in
    let given = c.loop-place.given in
    let n : ℕ = c.loop-place.place - 1 in
    let inside : n < length given = omega (arith, c.loop-place-test.true, c.loop-place.auto.given, c.loop-place.auto.place) in
    let same : c.loop-place.place ≡ n + 1 = omega (arith, c.loop-place-test.true) in
    let g = c.index-given-place-then-eq.result in
    let here : get_or given n g ≡ g = sym c.index-given-place-then-eq.is in
    let child_is : g.is_child ≡ true =
    ap (λ (x : Given). x.is_child) (same_at given n g c.index-given-place.result inside c.index-given-place-then-eq.is c.index-given-place.is ∙ c.index-given-place.is) ∙ c.if-given-place.true in
    let named : bytes_eq g.actor.now child ≡ true =
    ap (λ (x : Given). bytes_eq x.actor.now child)
    (same_at given n g c.index-given-place-then-given-place.result inside c.index-given-place-then-eq.is c.index-given-place-then-given-place.is ∙ c.index-given-place-then-given-place.is)
    ∙ ap (λ (a : List ℕ). bytes_eq a child) (sym c.as_slice.ensures)
    ∙ ap (bytes_eq c.as_slice.result.now) (sym c.as_slice-then-given-place.ensures)
    ∙ sym c.eq.ensures
    ∙ c.if-eq.true in
    let is : is_given child (receiver g) ≡ true = ap (λ (t : Bool). t && bytes_eq g.actor.now child) child_is ∙ named in
    gives_here child envelope given n g inside here _ (ap (λ (x : Given). let r : Receiver = record { actor = x.actor.now; is_child = x.is_child; envelope = envelope } in r) here) is
    (subst (IsPast child envelope given) same c.loop-place.invariant.1)
    ∙ ap (λ (l : List Given). given_to child envelope (turned l)) c.loop-place.invariant.0

pub loop-place-preserved : goal.loop-place-preserved
loop-place-preserved c =
    let child = c.args.child.now in
    let envelope = c.args.envelope.now in
    let given = c.loop-place.given in
    let n : ℕ = c.loop-place.place - 1 in
    let inside : n < length given = omega (arith, c.loop-place-test.true, c.loop-place.auto.given, c.loop-place.auto.place) in
    let same : c.loop-place.place ≡ n + 1 = omega (arith, c.loop-place-test.true) in
    let g = c.index-given-place.result in
    let isnt : is_given child (receiver g) ≡ false = elim c.else-given-place.branch [
      | else-given-place-via-then-given-place+else-eq w ↦
          ap (λ (x : Given). x.is_child && bytes_eq g.actor.now child) c.index-given-place.is
          ∙ ap (λ (t : Bool). t && bytes_eq g.actor.now child) w.if-given-place.true
          ∙ ap (λ (x : Given). bytes_eq x.actor.now child)
          (same_at given n g w.index-given-place-then-given-place.result inside c.index-given-place.is w.index-given-place-then-given-place.is ∙ w.index-given-place-then-given-place.is)
          ∙ ap (λ (a : List ℕ). bytes_eq a child) (sym w.as_slice.ensures)
          ∙ ap (bytes_eq w.as_slice.result.now) (sym w.as_slice-then-given-place.ensures)
          ∙ sym w.eq.ensures
          ∙ w.if-eq.false
      | else-given-place-via-else-given-place w ↦
          ap (λ (x : Given). x.is_child && bytes_eq g.actor.now child) c.index-given-place.is ∙ ap (λ (t : Bool). t && bytes_eq g.actor.now child) w.if-given-place.false
    ] in
    (c.loop-place.invariant.0, past_more child envelope given n g inside (sym c.index-given-place.is) isnt (subst (IsPast child envelope given) same c.loop-place.invariant.1))

pub returns : goal.returns
returns c =
    let given = c.loop-place.given in
    let first : c.loop-place.place ≡ 0 = omega (arith, c.loop-place-test.false) in
    past_none c.args.child.now c.args.envelope.now given (subst (IsPast c.args.child.now c.args.envelope.now given) first c.loop-place.invariant.1)
    ∙ ap (λ (l : List Given). given_to c.args.child.now c.args.envelope.now (turned l)) c.loop-place.invariant.0
