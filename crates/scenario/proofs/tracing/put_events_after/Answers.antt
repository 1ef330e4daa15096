use Rattle.std.proofs.Common.{◌++◌, sym, ap, ◌∙◌}
use Rattle.std.specs.Prelude.{flat_map}
use Rattle.std.proofs.lemmas.List.{append-nil}
use Rattle.std.proofs.lemmas.Result.{on_ok_weaker}
use Rattle.script_traces.specs.Events.{kept_line}
use Rattle.scenario.proofs.Tracings.{to_the_end, past_the_end}
use Rattle.scenario.proofs.tracing.put_events_after.Goals as goal

pub returns-in-Some : goal.returns-in-Some
returns-in-Some c =
    let all = c.in-Some.ensures.lookup.0.2 ∙ to_the_end c.args.events.now c.args.before in
    on_ok_weaker c.put_events.result (λ told. told ∙ ap (λ l. c.args.text.now.items ++ flat_map kept_line l) all) c.put_events.ensures

pub returns-in-None : goal.returns-in-None
returns-in-None c =
    sym (ap (λ l. c.args.text.now.items ++ flat_map kept_line l) (past_the_end c.args.events.now c.args.before c.in-None.ensures.lookup.0) ∙ append-nil c.args.text.now.items)
