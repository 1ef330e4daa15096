use Rattle.std.proofs.Common.{◌≡◌, ◌∙◌, ◌++◌, ◌∷◌, ◌<◌, ◌≤◌, [], List, ℕ, ap, sym, map, take, length, arith}
use Rattle.std.proofs.lemmas.List.{length-map, length-take-le, map_more}
use Rattle.script_traces.specs.Fates.{fate_word}
use Rattle.script_traces.specs.declared.fates.RecipientFate.TheVariants.{Pending}
use Rattle.script_traces.specs.Mails.{recipient_lines}
use Rattle.script_traces.proofs.Printed.{recipient-more}
use Rattle.script_traces.proofs.fates.put_fates.Goals as goal

pub loop-index-preserved : goal.loop-index-preserved
loop-index-preserved c =
    let mail = c.args.mail.now in
    let text = c.args.text.now.items in
    let fates = c.args.fates.now in
    let i = c.loop-index.index in
    let before = map fate_word (take i fates) in
    let inside : i < length fates = c.loop-index-test.true in
    let within : i ≤ length fates = omega (arith, inside) in
    let many : i ≡ length before = sym (length-map (take i fates) fate_word ∙ length-take-le i fates within) in
    recipient-more mail text c.loop-index.text.items c.put_recipient.new.text.items c.fate_word.result.now before i c.loop-index.invariant many c.in_ok-put_recipient.ensures
    ∙ ap (λ words. text ++ recipient_lines mail 1 words)
    (ap (λ (word : List ℕ). before ++ word ∷ []) c.fate_word.ensures ∙ sym (map_more fate_word fates i Pending inside))
