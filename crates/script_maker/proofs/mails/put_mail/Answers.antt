use Rattle.std.proofs.Common.{◌≡◌, ℕ, suc, ◌+◌, ◌*◌, ◌%◌, List, [], ◌∷◌, ◌++◌, ap, ◌∙◌, arith}
use Rattle.std.specs.Prelude.{codes}
use Rattle.mail_bytes.specs.Decimal.{digits}
use Rattle.call_fs.specs.Choices.{drawn}
use Rattle.script_maker.specs.Mails.{draw, mail, recipients, recipients_after, sender}
use Rattle.script_maker.proofs.Drawn.{mail_lines}
use Rattle.script_maker.proofs.mails.put_mail.Goals as goal

pub returns-clause-text : goal.returns-clause-text
unfolding mail
returns-clause-text c =
    let x : ℕ = c.args.draws.now in
    let number : List ℕ = digits c.args.number in
    let old : List ℕ = c.args.text.now.items in
    let name : sender c.draw.result ≡ sender (draw x 1) = ap sender c.draw.ensures.value in
    let second : c.draw-2.result ≡ draw x 2 = c.draw-2.ensures.value ∙ ap drawn c.draw.ensures.last in
    let last : c.draw-2.new.self ≡ draw x 2 = c.draw-2.ensures.last ∙ ap drawn c.draw.ensures.last in
    let words : recipients_after c.draw-2.new.self (1 + c.draw-2.result % 3) ≡ recipients_after (draw x 2) (recipients x) =
    ap (λ (y : ℕ). recipients_after y (1 + c.draw-2.result % 3)) last ∙ ap (λ (y : ℕ). recipients_after (draw x 2) (1 + y % 3)) second in
    let one : c.put_number.new.text.items ≡ (old ++ codes "mail m") ++ number =
    c.in_ok-put_number.ensures ∙ ap (λ (t : List ℕ). t ++ number) c.in_ok-extend_from_slice.ensures.items in
    let two : c.put_sender.new.text.items ≡ (((old ++ codes "mail m") ++ number) ++ 32 ∷ []) ++ sender (draw x 1) =
    c.in_ok-put_sender.ensures ∙ ap (λ (t : List ℕ). t ++ sender c.draw.result) (c.in_ok-push.ensures.items ∙ ap (λ (t : List ℕ). t ++ 32 ∷ []) one)
    ∙ ap (λ (t : List ℕ). (((old ++ codes "mail m") ++ number) ++ 32 ∷ []) ++ t) name in
    let three : c.put_recipients.new.text.items ≡ ((((old ++ codes "mail m") ++ number) ++ 32 ∷ []) ++ sender (draw x 1)) ++ recipients_after (draw x 2) (recipients x) =
    c.in_ok-put_recipients.ensures.text ∙ ap (λ (t : List ℕ). t ++ recipients_after c.draw-2.new.self (1 + c.draw-2.result % 3)) two
    ∙ ap (λ (t : List ℕ). ((((old ++ codes "mail m") ++ number) ++ 32 ∷ []) ++ sender (draw x 1)) ++ t) words in
    c.in_ok-push-2.ensures.items
    ∙ ap (λ (t : List ℕ). t ++ 10 ∷ []) (c.in_ok-put_number-3.ensures
    ∙ ap (λ (t : List ℕ). t ++ number) (c.in_ok-extend_from_slice-3.ensures.items
    ∙ ap (λ (t : List ℕ). t ++ (codes "%0A" ++ 10 ∷ codes "run m")) (c.in_ok-put_number-2.ensures
    ∙ ap (λ (t : List ℕ). t ++ number) (c.in_ok-extend_from_slice-2.ensures.items
    ∙ ap (λ (t : List ℕ). t ++ codes " : body ") three))))
    ∙ mail_lines old (codes "mail m") number (sender (draw x 1)) (recipients_after (draw x 2) (recipients x)) (codes " : body ") (codes "%0A") (codes "run m")

pub returns-clause-draws : goal.returns-clause-draws
returns-clause-draws c =
    let x : ℕ = c.args.draws.now in
    let second : c.draw-2.result ≡ draw x 2 = c.draw-2.ensures.value ∙ ap drawn c.draw.ensures.last in
    let last : c.draw-2.new.self ≡ draw x 2 = c.draw-2.ensures.last ∙ ap drawn c.draw.ensures.last in
    let on : suc (suc (2 * recipients x)) ≡ 2 + 2 * recipients x = omega arith in
    c.in_ok-put_recipients.ensures.draws
    ∙ ap (λ (y : ℕ). draw y (2 * (1 + c.draw-2.result % 3))) last
    ∙ ap (λ (y : ℕ). draw (draw x 2) (2 * (1 + y % 3))) second
    ∙ ap (draw x) on
