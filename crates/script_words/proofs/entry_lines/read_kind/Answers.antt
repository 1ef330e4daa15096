use Rattle.std.proofs.lemmas.Result.{err_from_is_err_and}
use Rattle.script_words.proofs.EntryTexts.{entry_kind, entry_has_space}
use Rattle.script_words.proofs.entry_lines.read_kind.Goals as goal

pub returns-in_err-word-clause-err : goal.returns-in_err-word-clause-err
returns-in_err-word-clause-err c =
    let p = err_from_is_err_and c.from_residual.result c.from_residual.ensures.1 in
    rw p.1 (λ malformed entry h. c.in_err-word.ensures.err (entry_has_space c.args.text.now entry h))

pub returns-in-None-clause-err : goal.returns-in-None-clause-err
returns-in-None-clause-err c = λ malformed entry h.
    c.in-None.ensures.none (entry_kind c.args.text.now c.in_ok-word.word.now c.in_ok-word.rest.now entry c.in_ok-word.ensures.ok h)
