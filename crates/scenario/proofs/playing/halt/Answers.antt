use Rattle.scenario.proofs.StopsAndMoments.{halt_played}
use Rattle.scenario.proofs.playing.halt.Goals as goal

pub returns : goal.returns
returns c = λ d plan h text playing.
    halt_played d c.args.world.now c.halt.new.self plan c.args.how text h playing c.in_ok-halt.ensures.event c.in_ok-halt.ensures.goes_on c.in_ok-halt.ensures.plan
