use Rattle.std.proofs.Common.{List, ℕ, sym, ◌∙◌, ap, subst}
use Rattle.std.proofs.lemmas.Result.{err_from_is_err_and}
use Rattle.mail_bytes.specs.Escape.{unescaped}
use Rattle.actor_names.specs.MailNames.{IsMailName}
use Rattle.script_words.specs.Reading.{HasEnvelopeAs}
use Rattle.script_words.proofs.Envelopes.{same_envelope_body}
use Rattle.script_lines.proofs.MailLines.{mail_line, mail_has_space, behind_name}
use Rattle.script_lines.proofs.reading.read_mail.Goals as goal

pub returns-in_err-word-clause-err : goal.returns-in_err-word-clause-err
returns-in_err-word-clause-err c =
    let p = err_from_is_err_and c.from_residual.result c.from_residual.ensures.1 in
    rw p.1 (λ malformed mail. c.in_err-word.ensures.err (mail_has_space c.args.form c.args.words.now mail))

pub returns-in_err-name-clause-err : goal.returns-in_err-name-clause-err
returns-in_err-name-clause-err c =
    let p = err_from_is_err_and c.from_residual-in_err-name.result c.from_residual-in_err-name.ensures.1 in
    rw p.1 (λ malformed mail.
    let same = behind_name c.args.form c.args.words.now c.in_ok-word.word.now c.in_ok-word.rest.now c.in_ok-word.ensures.ok mail in
    c.in_err-name.ensures.err (sym p.2 ∙ malformed) (subst IsMailName same.0 mail.is_name))

pub returns-in_err-envelope-clause-err : goal.returns-in_err-envelope-clause-err
returns-in_err-envelope-clause-err c =
    let p = err_from_is_err_and c.from_residual-in_err-envelope.result c.from_residual-in_err-envelope.ensures.1 in
    rw p.1 (λ malformed mail.
    let same = behind_name c.args.form c.args.words.now c.in_ok-word.word.now c.in_ok-word.rest.now c.in_ok-word.ensures.ok mail in
    c.in_err-envelope.ensures.err (sym p.2 ∙ malformed) mail.envelope mail.body
    (subst (λ (t : List ℕ). HasEnvelopeAs c.args.form t mail.envelope mail.body) same.1 mail.has_envelope))

pub returns-in_err-body-clause-err : goal.returns-in_err-body-clause-err
returns-in_err-body-clause-err c =
    let p = err_from_is_err_and c.from_residual-in_err-body.result c.from_residual-in_err-body.ensures.1 in
    rw p.1 (λ malformed mail.
    let same = behind_name c.args.form c.args.words.now c.in_ok-word.word.now c.in_ok-word.rest.now c.in_ok-word.ensures.ok mail in
    let body = same_envelope_body c.args.form c.in_ok-word.rest.now c.in_ok-envelope.envelope.items mail.envelope c.in_ok-envelope.text.now mail.body c.in_ok-envelope.ensures.ok
    (subst (λ (t : List ℕ). HasEnvelopeAs c.args.form t mail.envelope mail.body) same.1 mail.has_envelope) in
    c.in_err-body.ensures.err (sym p.2 ∙ malformed) mail.message (ap unescaped body ∙ mail.message_is))

pub returns-clause-ok : goal.returns-clause-ok
returns-clause-ok c =
    let name = c.in_ok-name.ensures.ok in
    let line = mail_line c.args.form c.args.words.now c.in_ok-word.word.now c.in_ok-word.rest.now c.in_ok-envelope.envelope.items c.in_ok-envelope.text.now c.in_ok-body.body.items
    c.in_ok-word.ensures.ok name.1 c.in_ok-envelope.ensures.ok c.in_ok-body.ensures.ok in
    rw (name.0, c.from_vec.ensures, c.from_vec-2.ensures) line
