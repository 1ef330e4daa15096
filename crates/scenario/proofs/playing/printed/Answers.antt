use Rattle.std.proofs.Common.{◌≡◌, ◌++◌, length, drop, ap, ◌∙◌, subst}
use Rattle.std.specs.Prelude.{flat_map}
use Rattle.scenario.specs.Playing.{HasPlayed}
use Rattle.script_traces.specs.Events.{kept_line}
use Rattle.scenario.proofs.Tracings.{traced_lines}
use Rattle.scenario.proofs.playing.printed.Goals as goal

pub returns : goal.returns
returns c = λ d plan h playing.
    let own = c.play_line.new.text.items in
    let played = subst (λ t. HasPlayed d c.play_line.new.world c.args.line.now t own plan h) c.new-own.ensures.items (c.in_ok-play_line.ensures d plan h playing) in
    let before : c.len-before.result ≡ length c.args.world.now.events = c.len-before.ensures ∙ ap length c.history.ensures.events in
    let kept : c.events.result.now ≡ c.play_line.new.world.events = c.events.ensures ∙ c.history-2.ensures.events in
    let lines = rw (before, kept) at c.in_ok-put_events_after.ensures in
    rw c.if-not-traced.false
    (traced_lines d c.args.world.now c.play_line.new.world c.args.line.now own c.extend_from_slice.new.self.items plan h playing played
    (c.in_ok-extend_from_slice.ensures.items
    ∙ ap (λ t. c.put_events_after.new.text.items ++ t) c.deref.ensures.value
    ∙ ap (λ t. t ++ own) (lines ∙ ap (λ t. t ++ flat_map kept_line (drop (length c.args.world.now.events) c.play_line.new.world.events)) c.new-text.ensures.items)))
