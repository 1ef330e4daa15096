use Rattle.scenario.proofs.ScriptRuns.{run_played}
use Rattle.scenario.proofs.playing.run_once.Goals as goal

pub returns : goal.returns
returns c = λ d plan h playing.
    run_played d c.run.new.world plan c.args.actor.now c.in_ok-run.field-0 c.args.text.now.items c.run.new.text.items h (c.in_ok-run.ensures d plan h playing)
