use Rattle.std.proofs.Common.{List, ℕ, sym, ◌∙◌, ap, subst, ⊎_elim, Some, None}
use Rattle.std.specs.Option.{option_copied}
use Rattle.std.proofs.lemmas.Bool.{false≢true}
use Rattle.std.proofs.lemmas.Result.{err_from_is_err_and}
use Rattle.script_words.specs.Reading.{HasRecipients}
use Rattle.script_words.proofs.WordLists.{passed-none, passed-more, passed-whole, first_word, now_unwrap_or}
use Rattle.script_words.proofs.envelope.read_recipients.Goals as goal

pub words-init : goal.words-init
words-init c = passed-none c.args.words.now c.args.envelope.now.items

pub words-preserved : goal.words-preserved
words-preserved c =
    let cut = rw c.in-Some.is at c.cut.ensures in
    let ok = c.in_ok-put_record.ensures.ok in
    passed-more c.args.words.now c.words.rest.now c.args.envelope.now.items c.words.envelope.items c.cut.result.0.now c.in-Some.after.now ok.0 c.put_record.new.envelope.items
    c.words.invariant cut (λ end. false≢true (sym c.if-is_end.false ∙ c.is_end.ensures.1 end)) ok.1 ok.2

pub returns-then-is_end-clause-ok : goal.returns-then-is_end-clause-ok
returns-then-is_end-clause-ok c =
    let whole = passed-whole c.args.words.now c.words.rest.now c.args.envelope.now.items c.words.envelope.items c.cut.result.0.now (option_copied c.cut.result.1) c.words.invariant c.cut.ensures (c.is_end.ensures.0 c.if-is_end.true) in
    let same = ap (λ b. b.now) c.unwrap_or.ensures ∙ now_unwrap_or c.cut.result.1 _ in
    (c.words.invariant.recipients, subst (λ (b : List ℕ). HasRecipients c.args.words.now c.words.invariant.recipients b) (sym same) whole, c.words.invariant.envelope)

pub returns-in_default-clause-err : goal.returns-in_default-clause-err
returns-in_default-clause-err c = λ malformed recipients body h.
    let cut = rw c.in_default.is at c.cut.ensures in
    let end = first_word c.args.words.now c.words.rest.now c.args.envelope.now.items c.words.envelope.items body c.cut.result.0.now recipients None c.words.invariant h cut in
    false≢true (sym c.if-is_end.false ∙ c.is_end.ensures.1 end)

pub returns-in_err-put_record-clause-err : goal.returns-in_err-put_record-clause-err
returns-in_err-put_record-clause-err c =
    let cut = rw c.in-Some.is at c.cut.ensures in
    let p = err_from_is_err_and c.from_residual.result c.from_residual.ensures.1 in
    rw p.1 (λ malformed recipients body h.
    let first = first_word c.args.words.now c.words.rest.now c.args.envelope.now.items c.words.envelope.items body c.cut.result.0.now recipients (Some c.in-Some.after.now) c.words.invariant h cut in
    ⊎_elim
    (λ end. false≢true (sym c.if-is_end.false ∙ c.is_end.ensures.1 end))
    (λ written. c.in_err-put_record.ensures.err (sym p.2 ∙ malformed) written.0 written.1)
    first)
