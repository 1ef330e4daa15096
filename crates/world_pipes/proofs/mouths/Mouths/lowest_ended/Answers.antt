use Rattle.std.proofs.Common.{sym, ◌∙◌, arith}
use Rattle.world_pipes.specs.Mouths.{ended_of}
use Rattle.world_pipes.proofs.Lowest.{up_to}
use Rattle.world_pipes.proofs.mouths.Mouths.lowest_ended.Goals as goal

pub returns-then-has_ended : goal.returns-then-has_ended
returns-then-has_ended c = (omega arith, sym c.has_ended.ensures ∙ c.if-has_ended.true, c.slots.invariant)

pub returns-then-slot : goal.returns-then-slot
returns-then-slot c =
    let last = c.if-slot.true in
    λ d le high. up_to (ended_of c.args.self.now) 0 c.slots.slot c.slots.invariant (sym c.has_ended.ensures ∙ c.if-has_ended.false) d le (omega (arith, last, high))

pub slots-preserved : goal.slots-preserved
slots-preserved c =
    λ d le lt. up_to (ended_of c.args.self.now) 0 c.slots.slot c.slots.invariant (sym c.has_ended.ensures ∙ c.if-has_ended.false) d le (omega (arith, lt))
