use Rattle.std.proofs.Common.{◌∷◌, ◌++◌, [], codes, ap, ◌∙◌}
use Rattle.std.specs.List.{concat}
use Rattle.std.proofs.lemmas.List.{append-nil}
use Rattle.received_line.specs.Received.{date_text}
use Rattle.bounce_record.specs.Bounces.{user_at}
use Rattle.mail_bytes.specs.Texts.{line}
use Rattle.bounce_record.proofs.Pieces.{six}
use Rattle.bounce_record.proofs.bounces.header.Goals as goal

pub returns : goal.returns
returns c =
    let none = c.new-text.result.items in
    let day = line (codes "Date: " ++ date_text c.args.moment) in
    let by = line (codes "From: " ++ user_at c.args.from.now c.args.host.now) in
    let to = line (codes "To: " ++ c.args.recipient.now) in
    let subject = line (codes "Subject: failure notice") in
    let hi = line (codes "Hi. This is the qmail-send program at " ++ (c.args.host.now ++ codes ".")) in
    let dated = ap (λ date. none ++ line (codes "Date: " ++ date)) (append-nil c.deref.result.now ∙ c.deref.ensures.value ∙ c.in_ok-date.ensures) in
    let sent = ap (λ address. c.put_around.new.text.items ++ line (codes "From: " ++ address)) (append-nil c.deref-2.result.now ∙ c.deref-2.ensures.value ∙ c.in_ok-user_at.ensures) in
    let told = ap (λ address. c.put_around-2.new.text.items ++ line (codes "To: " ++ address)) (append-nil c.args.recipient.now) in
    six none day by to subject (line []) hi
    (c.in_ok-put_around.ensures ∙ dated) (c.in_ok-put_around-2.ensures ∙ sent) (c.in_ok-put_around-3.ensures ∙ told)
    c.in_ok-put_line.ensures c.in_ok-put_line-2.ensures c.in_ok-put_around-4.ensures
    ∙ ap (λ t. t ++ concat (day ∷ by ∷ to ∷ subject ∷ line [] ∷ hi ∷ [])) c.new-text.ensures.items
