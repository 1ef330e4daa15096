use Rattle.std.proofs.Common.{◌≡◌, ℕ, ◌+◌, List, [], ◌∷◌, ◌++◌, nat_cmp, get_or, take, sym, ◌∙◌, subst, take_all, rules, arith}
use Rattle.std.specs.Prelude.{Option}
use Rattle.std.specs.BTreeMap.{get}
use Rattle.std.proofs.lemmas.List.{take_more}
use Rattle.send_known.proofs.ByNumber.{Looked, looked_none, looked_past, looked_more, least_is_first}
use Rattle.send_known.proofs.by_number.least_idle.Goals as goal
use Rattle.send_known.proofs.by_number.least_idle.Goals.{then-is_idle, else-is_idle}

pub loop-n-init : goal.loop-n-init
loop-n-init c = looked_none c.args.now (get nat_cmp c.args.known.now)

pub loop-n-preserved : goal.loop-n-preserved
loop-n-preserved c =
    let seen : List ℕ = take c.loop-n.n-index c.args.done.now in
    let n : ℕ = get_or c.args.done.now c.loop-n.n-index 0 in
    let so : Option ℕ → Type 0 = λ (o : Option ℕ). Looked c.args.now (get nat_cmp c.args.known.now) (take (c.loop-n.n-index + 1) c.args.done.now) o in
    let more : take (c.loop-n.n-index + 1) c.args.done.now ≡ seen ++ n ∷ [] = take_more c.args.done.now c.loop-n.n-index 0 (omega arith) in
    elim c.if-is_idle.branch [
      | then-is_idle w ↦
          subst so (sym w.least-is)
          (rw more (rw w.lesser-least.ensures (looked_more c.args.now (get nat_cmp c.args.known.now) seen n c.loop-n.least (sym c.is_idle.ensures ∙ w.if-is_idle.true) c.loop-n.invariant)))
      | else-is_idle w ↦
          subst so (sym w.least-is)
          (rw more (looked_past c.args.now (get nat_cmp c.args.known.now) seen n c.loop-n.least (sym c.is_idle.ensures ∙ w.if-is_idle.false) c.loop-n.invariant))
    ]

pub returns : goal.returns
returns c = least_is_first c.args.now c.args.known.now c.args.done.now c.requires.kept c.loop-n.least (search (rules, take_all))
