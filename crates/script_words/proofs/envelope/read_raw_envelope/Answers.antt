use Rattle.std.proofs.Common.{List, ℕ, [], sym, ◌∙◌, subst}
use Rattle.std.proofs.lemmas.Result.{err_from_is_err_and}
use Rattle.script_words.specs.Reading.{HasRecipients, IsWrittenText}
use Rattle.script_words.proofs.Envelopes.{behind_word, written_text, text_of}
use Rattle.script_words.proofs.envelope.read_raw_envelope.Goals as goal

pub returns-in_err-put_text-clause-err : goal.returns-in_err-put_text-clause-err
returns-in_err-put_text-clause-err c =
    let p = err_from_is_err_and c.from_residual-in_err-put_text.result c.from_residual-in_err-put_text.ensures.1 in
    rw p.1 (λ malformed envelope body h.
    let same = behind_word c.args.words.now c.in_ok-word.word.now c.in_ok-word.rest.now envelope body c.in_ok-word.ensures.ok h in
    c.in_err-put_text.ensures.err (sym p.2 ∙ malformed) envelope
    (subst (λ (w : List ℕ). IsWrittenText w envelope) same.0 (written_text h.word envelope h.stands)))

pub returns-in_err-body-clause-err : goal.returns-in_err-body-clause-err
returns-in_err-body-clause-err c =
    let p = err_from_is_err_and c.from_residual-in_err-body.result c.from_residual-in_err-body.ensures.1 in
    rw p.1 (λ malformed envelope body h.
    let same = behind_word c.args.words.now c.in_ok-word.word.now c.in_ok-word.rest.now envelope body c.in_ok-word.ensures.ok h in
    c.in_err-body.ensures.err body
    (subst (λ (t : List ℕ). HasRecipients t [] body) same.1 h.follow))

pub returns-clause-ok : goal.returns-clause-ok
returns-clause-ok c =
    let text = c.in_ok-put_text.ensures.ok in
    let stands = text_of c.in_ok-word.word.now text.0 c.in_ok-word.ensures.ok.without text.1 in
    record {
      word = c.in_ok-word.word.now;
      more = c.in_ok-word.rest.now;
      words = c.in_ok-word.ensures.ok.parts;
      stands = rw (text.2, c.new-envelope.ensures.items) stands;
      follow = c.in_ok-body.ensures.ok;
    }
