use Rattle.std.proofs.Common.{◌+◌, ℕ, List, Option, Bor, sym, ◌∙◌, subst, arith}
use Rattle.std.specs.Option.{option_copied}
use Rattle.call_runs.proofs.Least.{IsLeastOf, if_copied, least_is, least_more, least_none, least_past}
use Rattle.call_runs.proofs.plain_names.next.Goals as goal
use Rattle.call_runs.proofs.plain_names.next.Goals.{in-Some, in_default}

pub loop-one-init : goal.loop-one-init
loop-one-init c = least_none c.args.names.now c.args.dir.now c.args.after.now

pub loop-one-preserved : goal.loop-one-preserved
loop-one-preserved c =
    let l = c.loop-one in
    let so : Option (Bor (List ℕ)) → Type 0 = λ (o : Option (Bor (List ℕ))). IsLeastOf c.args.names.now c.args.dir.now c.args.after.now (l.one-index + 1) (option_copied o) in
    elim c.match-part_after.branch [
      | in-Some w ↦
          subst so (sym w.least-is)
          (least_more c.args.names.now c.args.dir.now c.args.after.now l.one-index (option_copied l.least) l.invariant c.one-item.result (omega (arith, c.loop-one-test.true)) c.one-item.is
          w.in-Some.part.now w.lesser.result.now (sym c.as_slice.ensures ∙ w.in-Some.ensures.some.0) w.in-Some.ensures.some.1 w.lesser.ensures.one w.lesser.ensures.part (if_copied l.least _ w.lesser.ensures.least))
      | in_default w ↦
          subst so (sym w.least-is)
          (least_past c.args.names.now c.args.dir.now c.args.after.now l.one-index (option_copied l.least) l.invariant c.one-item.result (omega (arith, c.loop-one-test.true)) c.one-item.is
          (λ part is later. w.in_default.ensures.none part (c.as_slice.ensures ∙ is) later))
    ]

pub returns : goal.returns
returns c = least_is c.args.names.now c.args.dir.now c.args.after.now c.loop-one.one-index (option_copied c.loop-one.least) (omega (arith, c.loop-one-test.false)) c.loop-one.invariant
