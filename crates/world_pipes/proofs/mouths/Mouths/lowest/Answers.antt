use Rattle.std.proofs.Common.{sym, ◌∙◌, arith}
use Rattle.world_pipes.specs.Mouths.{is_remote, tenant_of}
use Rattle.world_pipes.proofs.Lowest.{up_to}
use Rattle.world_pipes.proofs.mouths.Mouths.lowest.Goals as goal

pub returns-then-runs : goal.returns-then-runs
returns-then-runs c = (c.loop-from.invariant.0, sym c.runs.ensures ∙ c.if-runs.true, c.loop-from.invariant.1)

pub returns-then-slot : goal.returns-then-slot
returns-then-slot c =
    let last = c.if-slot.true in
    λ d le high. up_to (λ d. is_remote c.args.reported (tenant_of c.args.self.now d)) c.args.from c.loop-from.slot c.loop-from.invariant.1 (sym c.runs.ensures ∙ c.if-runs.false) d le (omega (arith, last, high))

pub loop-from-preserved : goal.loop-from-preserved
loop-from-preserved c =
    let within = c.loop-from.invariant.0 in (
      omega (arith, within),
      λ d le lt. up_to (λ d. is_remote c.args.reported (tenant_of c.args.self.now d)) c.args.from c.loop-from.slot c.loop-from.invariant.1 (sym c.runs.ensures ∙ c.if-runs.false) d le (omega (arith, lt)),
    )
