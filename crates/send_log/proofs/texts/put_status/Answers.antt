use Rattle.std.proofs.Common.{◌++◌, ap, ◌∙◌}
use Rattle.send_log.specs.Lines.{status}
use Rattle.send_log.proofs.texts.put_status.Goals as goal

pub returns-clause-items : goal.returns-clause-items
returns-clause-items c =
    let old = c.args.text.now.items in
    let local = c.args.local in
    let remote = c.args.remote in
    c.put_line.ensures.items
    ∙ ap (λ n. old ++ status n c.from-2.result c.from-3.result c.from-4.result) c.from.ensures
    ∙ ap (λ n. old ++ status local.busy n c.from-3.result c.from-4.result) c.from-2.ensures
    ∙ ap (λ n. old ++ status local.busy local.limit n c.from-4.result) c.from-3.ensures
    ∙ ap (λ n. old ++ status local.busy local.limit remote.busy n) c.from-4.ensures
