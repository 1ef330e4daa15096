use Rattle.std.proofs.Common.{◌∷◌, ◌++◌, [], codes, ap, ◌∙◌}
use Rattle.std.specs.List.{concat}
use Rattle.bounce_record.specs.Bounces.{returned, double_text}
use Rattle.mail_bytes.specs.Texts.{line}
use Rattle.bounce_record.proofs.Pieces.{two}
use Rattle.bounce_record.proofs.bounces.double_text.Goals as goal

pub returns : goal.returns
unfolding double_text
returns c =
    let tried = line (codes "I tried to deliver a bounce message to this address, but the bounce bounced!") in
    let rest = returned c.args.notes.now (codes "--- Below this line is the original bounce.") [] c.args.message.now in
    two c.in_ok-text.text.items tried rest c.in_ok-put_line.ensures c.in_ok-put_returned.ensures
    ∙ ap (λ t. t ++ concat (tried ∷ rest ∷ [])) c.in_ok-text.ensures
