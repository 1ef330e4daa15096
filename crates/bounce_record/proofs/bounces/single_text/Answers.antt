use Rattle.std.proofs.Common.{◌∷◌, ◌++◌, [], codes, ap, ◌∙◌}
use Rattle.std.specs.List.{concat}
use Rattle.bounce_record.specs.Bounces.{header, returned, single_text}
use Rattle.mail_bytes.specs.Texts.{line}
use Rattle.bounce_record.proofs.Pieces.{three}
use Rattle.bounce_record.proofs.bounces.single_text.Goals as goal

pub returns : goal.returns
unfolding single_text
returns c =
    let afraid = line (codes "I'm afraid I wasn't able to deliver your message to the following addresses.") in
    let error = line (codes "This is a permanent error; I've given up. Sorry it didn't work out.") in
    let rest = returned c.args.notes.now (codes "--- Below this line is a copy of the message.") c.args.sender.now c.args.message.now in
    three c.in_ok-text.text.items afraid error rest c.in_ok-put_line.ensures c.in_ok-put_line-2.ensures c.in_ok-put_returned.ensures
    ∙ ap (λ t. t ++ concat (afraid ∷ error ∷ rest ∷ [])) (c.in_ok-text.ensures ∙ ap (λ a. header c.args.from.now c.args.host.now a c.args.moment) c.return_address.ensures)
