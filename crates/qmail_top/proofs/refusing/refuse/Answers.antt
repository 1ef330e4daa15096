use Rattle.std.proofs.Common.{◌∙◌}
use Rattle.scenario.specs.Text.{script_line}
use Rattle.scenario.proofs.TakenLines.{line_taken}
use Rattle.qmail_top.proofs.refusing.refuse.Goals as goal

pub returns-in-Ok : goal.returns-in-Ok
returns-in-Ok g c =
    let told = rw (c.as_slice.ensures.name ∙ c.in-Ok.ensures.text) at c.give.ensures.told in
    line_taken (g.O.Sink.taken c.args.out.now) (g.O.Sink.taken c.give.new.self) (script_line c.args.number) c.give.result _ (λ failed. c.give.ensures.cause.rose failed) told
