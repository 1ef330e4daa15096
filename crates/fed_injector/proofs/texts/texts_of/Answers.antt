use Rattle.std.proofs.Common.{refl, sym, ◌∙◌, []}
use Rattle.std.proofs.lemmas.List.{append-nil}
use Rattle.mail_bytes.specs.Netstring.{netstring}
use Rattle.fed_injector.proofs.Cutting.{same_rest, not_empty}
use Rattle.fed_injector.proofs.texts.texts_of.Goals as goal

pub returns-in_err-envelope-clause-none : goal.returns-in_err-envelope-clause-none
returns-in_err-envelope-clause-none c = λ none message envelope fits fits_too is.
    let rest = same_rest c.args.input.now c.in_ok-message.message.now c.in_ok-message.rest.now message (netstring envelope) fits c.in_ok-message.ensures.fits c.in_ok-message.ensures.text is in
    c.in_err-envelope.ensures.none refl envelope [] fits_too (rest ∙ sym (append-nil (netstring envelope)))

pub returns-else-is_empty-clause-none : goal.returns-else-is_empty-clause-none
returns-else-is_empty-clause-none c = λ none message envelope fits fits_too is.
    let rest = same_rest c.args.input.now c.in_ok-message.message.now c.in_ok-message.rest.now message (netstring envelope) fits c.in_ok-message.ensures.fits c.in_ok-message.ensures.text is in
    let last = same_rest c.in_ok-message.rest.now c.in_ok-envelope.envelope.now c.in_ok-envelope.rest.now envelope [] fits_too c.in_ok-envelope.ensures.fits c.in_ok-envelope.ensures.text (rest ∙ sym (append-nil (netstring envelope))) in
    not_empty c.in_ok-envelope.rest.now last c.if-is_empty.ensures
