use Rattle.scenario.proofs.TurnRuns.{none_yet, turn_played}
use Rattle.scenario.proofs.turning.play_turn.Goals as goal

pub returns : goal.returns
returns c = λ d plan h playing. turn_played d c.turn.new.world plan 0 c.turn.new.later _ c.args.text.now.items c.turn.new.text.items h (c.in_ok-turn.ensures d plan h playing (none_yet d h))
