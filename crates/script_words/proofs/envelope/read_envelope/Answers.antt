use Rattle.std.proofs.Common.{List, ℕ, [], ◌∷◌, ◌++◌, sym, ◌∙◌, ap, subst}
use Rattle.std.specs.Prelude.{flat_map}
use Rattle.std.proofs.lemmas.Result.{err_from_is_err_and}
use Rattle.envelope_records.specs.Envelope.{record_of}
use Rattle.script_words.specs.Reading.{HasRecipients, IsWrittenText}
use Rattle.script_words.proofs.Envelopes.{behind_sender, written_text, text_of}
use Rattle.script_words.proofs.envelope.read_envelope.Goals as goal

pub returns-in_err-put_text-clause-err : goal.returns-in_err-put_text-clause-err
returns-in_err-put_text-clause-err c =
    let p = err_from_is_err_and c.from_residual-in_err-put_text.result c.from_residual-in_err-put_text.ensures.1 in
    rw p.1 (λ malformed envelope body h.
    let same = behind_sender c.args.words.now c.in_ok-word.word.now c.in_ok-word.rest.now envelope body c.in_ok-word.ensures.ok h in
    c.in_err-put_text.ensures.err (sym p.2 ∙ malformed) h.sender
    (subst (λ (w : List ℕ). IsWrittenText w h.sender) same.0 (written_text h.from h.sender h.stands)))

pub returns-in_err-body-clause-err : goal.returns-in_err-body-clause-err
returns-in_err-body-clause-err c =
    let p = err_from_is_err_and c.from_residual-in_err-body.result c.from_residual-in_err-body.ensures.1 in
    rw p.1 (λ malformed envelope body h.
    let same = behind_sender c.args.words.now c.in_ok-word.word.now c.in_ok-word.rest.now envelope body c.in_ok-word.ensures.ok h in
    c.in_err-body.ensures.err (sym p.2 ∙ malformed) h.recipients body
    (subst (λ (t : List ℕ). HasRecipients t h.recipients body) same.1 h.follow))

pub returns-clause-ok : goal.returns-clause-ok
returns-clause-ok c =
    let sender = c.in_ok-put_text.ensures.ok in
    let read = c.in_ok-body.ensures.ok in
    let stands = text_of c.in_ok-word.word.now sender.0 c.in_ok-word.ensures.ok.without sender.1 in
    record {
      from = c.in_ok-word.word.now;
      sender = sender.0;
      more = c.in_ok-word.rest.now;
      recipients = read.0;
      words = c.in_ok-word.ensures.ok.parts;
      stands = stands;
      follow = read.1;
      envelope_is =
          c.in_ok-push-2.ensures.items
          ∙ ap (λ t. t ++ 0 ∷ [])
          (read.2 ∙ ap (λ t. t ++ flat_map record_of read.0)
          (c.in_ok-push.ensures.items ∙ ap (λ t. t ++ 0 ∷ [])
          (sender.2 ∙ ap (λ t. t ++ sender.0) c.in_ok-envelope.ensures.items)));
    }
