use Rattle.std.proofs.lemmas.Result.{on_ok_weaker}
use Rattle.scenario.proofs.ScriptLines.{show_played, sum_played, trace_played}
use Rattle.scenario.proofs.playing.play_alone.Goals as goal

pub returns-in-Trace : goal.returns-in-Trace
returns-in-Trace c = λ d plan h playing. rw c.in-Trace.is (trace_played d c.args.world.now plan c.args.text.now.items h playing)

pub returns-in-Show : goal.returns-in-Show
returns-in-Show c =
    on_ok_weaker c.show.result
    (λ told d plan h playing. rw c.in-Show.is (show_played d c.args.world.now plan c.args.text.now.items told.0 c.show.new.text.items h playing (told.2 d plan h playing) told.1))
    c.show.ensures

pub returns-in-Sum : goal.returns-in-Sum
returns-in-Sum c =
    on_ok_weaker c.sum.result
    (λ told d plan h playing. rw c.in-Sum.is (sum_played d c.args.world.now plan c.args.text.now.items told.0 c.sum.new.text.items h playing (told.2 d plan h playing) told.1))
    c.sum.ensures
