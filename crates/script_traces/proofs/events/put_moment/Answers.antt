use Rattle.std.proofs.Common.{◌++◌, ◌∷◌, [], List, ℕ, ap, ◌∙◌, append_assoc}
use Rattle.std.specs.Prelude.{codes}
use Rattle.mail_bytes.specs.Decimal.{digits}
use Rattle.script_traces.proofs.events.put_moment.Goals as goal

pub returns : goal.returns
returns c =
    let text : List ℕ = c.args.text.now.items in
    let words : List ℕ = codes "world moment " in
    let number : List ℕ = digits c.args.moment in
    c.in_ok-push.ensures.items
    ∙ ap (λ t. t ++ 10 ∷ []) (c.in_ok-put_number.ensures ∙ ap (λ t. t ++ number) c.in_ok-extend_from_slice.ensures.items)
    ∙ append_assoc (text ++ words) number (10 ∷ [])
    ∙ append_assoc text words (number ++ 10 ∷ [])
