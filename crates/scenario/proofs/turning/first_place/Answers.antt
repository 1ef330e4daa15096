use Rattle.std.proofs.Common.{sym, arith}
use Rattle.scenario.proofs.DeadStarts.{first_is}
use Rattle.scenario.proofs.TurnParts.{next_told}
use Rattle.scenario.proofs.TurnStarts.{next_rises}
use Rattle.scenario.proofs.turning.first_place.Goals as goal

pub returns-in-Some-clause-none : goal.returns-in-Some-clause-none
returns-in-Some-clause-none c = λ d plan h playing.
    first_is d h c.args.from c.in-Some.place _ (next_told d h plan c.args.world.now c.args.from _ playing (c.in-Some.ensures))

pub returns-in-Some-clause-rises : goal.returns-in-Some-clause-rises
returns-in-Some-clause-rises c = next_rises c.args.world.now.events c.args.from c.in-Some.place _ (sym c.in-Some.ensures)

pub returns-in-None-clause-none : goal.returns-in-None-clause-none
returns-in-None-clause-none c = λ d plan h playing n low less. absurd (omega arith)
