use Rattle.std.proofs.Common.{◌++◌, ap, ◌∙◌}
use Rattle.send_log.specs.Lines.{channel_of, starting}
use Rattle.send_log.proofs.texts.put_starting.Goals as goal

pub returns-clause-items : goal.returns-clause-items
returns-clause-items c =
    c.put_line.ensures.items
    ∙ ap (λ word. c.args.text.now.items ++ starting c.args.delivery c.args.message word c.address.result.now) c.channel.ensures.word
    ∙ ap (λ address. c.args.text.now.items ++ starting c.args.delivery c.args.message (channel_of c.args.target.now) address) c.address.ensures
