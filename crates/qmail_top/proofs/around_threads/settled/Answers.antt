use Rattle.std.proofs.Common.{◌++◌, drop, ap, ◌∙◌}
use Rattle.std.specs.Prelude.{flat_map}
use Rattle.script_traces.specs.Events.{kept_line}
use Rattle.scenario.proofs.WorkedLines.{settles}
use Rattle.qmail_top.proofs.around_threads.settled.Goals as goal

pub returns-clause-settled : goal.returns-clause-settled
returns-clause-settled c = λ d plan h playing.
    let played = c.in_ok-settle.ensures d plan h playing in
    let show = c.in_ok-show.ensures in
    let kept = c.events.ensures ∙ c.history-2.ensures.events in
    let lines = c.in_ok-put_events_after.ensures ∙ ap (λ t. t ++ flat_map kept_line (drop 0 c.events.result.now)) c.new-text.ensures.items ∙ ap (flat_map kept_line) kept in
    settles d c.settle.new.world plan h _ _ c.show.new.text.items show.0 played (show.2 d _ (played.events ++ h) played.playing) (show.1 ∙ ap (λ t. t ++ show.0) lines)
