use Rattle.std.proofs.Common.{List, ℕ, sym, ◌∙◌, subst}
use Rattle.std.proofs.lemmas.Result.{err_from_is_err_and}
use Rattle.script_words.specs.Words.{StandsFor}
use Rattle.script_words.proofs.Reports.{report_of, report_has_space, report_parts, rest_has_space, letter_parts}
use Rattle.script_words.proofs.report.read_report.Goals as goal

pub returns-in_err-first-clause-err : goal.returns-in_err-first-clause-err
returns-in_err-first-clause-err c =
    let p = err_from_is_err_and c.from_residual.result c.from_residual.ensures.1 in
    rw p.1 (λ malformed slot letter text h. c.in_err-first.ensures.err (report_has_space c.args.words.now text slot letter h))

pub returns-in_err-slot-clause-err : goal.returns-in_err-slot-clause-err
returns-in_err-slot-clause-err c =
    let p = err_from_is_err_and c.from_residual-in_err-slot.result c.from_residual-in_err-slot.ensures.1 in
    rw p.1 (λ malformed slot letter text h.
    c.in_err-slot.ensures.err slot h.is_slot (report_parts c.args.words.now c.in_ok-first.first.now c.in_ok-first.rest.now text slot letter c.in_ok-first.ensures.ok h).0)

pub returns-in_err-second-clause-err : goal.returns-in_err-second-clause-err
returns-in_err-second-clause-err c =
    let p = err_from_is_err_and c.from_residual-in_err-second.result c.from_residual-in_err-second.ensures.1 in
    rw p.1 (λ malformed slot letter text h.
    c.in_err-second.ensures.err (rest_has_space c.args.words.now c.in_ok-first.first.now c.in_ok-first.rest.now text slot letter c.in_ok-first.ensures.ok h))

pub returns-in_err-letter-clause-err : goal.returns-in_err-letter-clause-err
returns-in_err-letter-clause-err c =
    let p = err_from_is_err_and c.from_residual-in_err-letter.result c.from_residual-in_err-letter.ensures.1 in
    rw p.1 (λ malformed slot letter text h.
    c.in_err-letter.ensures.err letter
    (letter_parts c.args.words.now c.in_ok-first.first.now c.in_ok-first.rest.now c.in_ok-second.second.now c.in_ok-second.last.now text slot letter c.in_ok-first.ensures.ok c.in_ok-second.ensures.ok h).0)

pub returns-in_err-text-clause-err : goal.returns-in_err-text-clause-err
returns-in_err-text-clause-err c =
    let p = err_from_is_err_and c.from_residual-in_err-text.result c.from_residual-in_err-text.ensures.1 in
    rw p.1 (λ malformed slot letter text h.
    let same = letter_parts c.args.words.now c.in_ok-first.first.now c.in_ok-first.rest.now c.in_ok-second.second.now c.in_ok-second.last.now text slot letter c.in_ok-first.ensures.ok c.in_ok-second.ensures.ok h in
    c.in_err-text.ensures.err (sym p.2 ∙ malformed) text (subst (λ (w : List ℕ). StandsFor w text) (sym same.1) h.stands))

pub returns-clause-ok : goal.returns-clause-ok
returns-clause-ok c =
    report_of c.args.words.now c.in_ok-first.first.now c.in_ok-first.rest.now c.in_ok-second.second.now c.in_ok-second.last.now c.in_ok-text.text c.in_ok-slot.slot c.in_ok-letter.letter
    c.in_ok-first.ensures.ok c.in_ok-second.ensures.ok c.in_ok-slot.ensures.ok c.in_ok-letter.ensures.ok c.in_ok-text.ensures.ok
