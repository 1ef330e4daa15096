use Rattle.std.proofs.Common.{drop, sym, ap, ◌∙◌}
use Rattle.scenario.specs.inside.Playing.{are_searches_kept}
use Rattle.scenario.proofs.Tracings.{to_the_end, past_the_end}
use Rattle.scenario.proofs.turning.only_searches.Goals as goal

pub returns-in-Some : goal.returns-in-Some
returns-in-Some c =
    let events = c.events.result.now in
    let told = c.events.ensures ∙ c.history.ensures.events in
    c.are_searches.ensures ∙ ap are_searches_kept (c.in-Some.ensures.lookup.0.2 ∙ to_the_end events c.args.before ∙ ap (drop c.args.before) told)

pub returns-in-None : goal.returns-in-None
returns-in-None c =
    let events = c.events.result.now in
    let told = c.events.ensures ∙ c.history.ensures.events in
    ap are_searches_kept (sym (past_the_end events c.args.before c.in-None.ensures.lookup.0) ∙ ap (drop c.args.before) told)
