use Rattle.std.proofs.Common.{◌≡◌, ◌<◌, ◌-◌, not, eqb, take, get_or, ap, ◌∙◌, arith, false, eq-eqb}
use Rattle.std.proofs.lemmas.List.Sums.{suffix_len_is}
use Rattle.call_runs.proofs.plain_names.dir_of.Goals as goal
use Rattle.call_runs.proofs.plain_names.dir_of.Goals.{then-loop-end-test+else-name-end-ne47, else-loop-end-test}

pub returns : goal.returns
returns c =
    let name = c.args.name.now in
    let end = c.loop-end.end in
    let slash : 0 < end → not (eqb (get_or name (end - 1) 0) 47) ≡ false =
    elim c.loop-end-test.branch [
      | then-loop-end-test+else-name-end-ne47 w ↦ λ _. ap not (eq-eqb _ _ w.if-name-end-ne47.false)
      | else-loop-end-test w ↦ λ lt. absurd (omega (arith, w.loop-end-test.false))
    ] in
    let rest = suffix_len_is (λ b. not (eqb b 47)) name end 0 c.loop-end.invariant.0 c.loop-end.invariant.1 slash in
    ap (λ n. take n name) (c.saturating_sub.ensures ∙ omega (arith, rest, c.loop-end.invariant.0))
