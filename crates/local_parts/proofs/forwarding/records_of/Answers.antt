use Rattle.std.proofs.Common.{[], ◌∷◌, ◌++◌, get_or, sym, ap, ◌∙◌}
use Rattle.local_parts.proofs.Forwards.{records, records_more}
use Rattle.local_parts.proofs.forwarding.records_of.Goals as goal

pub loop-line-preserved : goal.loop-line-preserved
loop-line-preserved c =
    let k = c.loop-line.line-index in
    let lines = c.args.lines.now in
    c.in_ok-put_record.ensures
    ∙ ap (λ it. c.loop-line.text ++ records (it ∷ [])) c.line-item.is
    ∙ ap (λ t. t ++ records (get_or lines k c.line-item.result ∷ [])) c.loop-line.invariant
    ∙ sym (records_more lines k c.line-item.result c.loop-line-test.true)
