use Rattle.std.proofs.Common.{List, ℕ, sym, ◌∙◌, subst}
use Rattle.std.proofs.lemmas.Result.{err_from_is_err_and}
use Rattle.script_words.specs.Words.{StandsFor}
use Rattle.script_words.proofs.EntryTexts.{dir_word, only_dir}
use Rattle.script_words.proofs.entry_lines.read_dir.Goals as goal

pub returns-in_err-read_path-clause-err : goal.returns-in_err-read_path-clause-err
returns-in_err-read_path-clause-err c =
    let p = err_from_is_err_and c.from_residual.result c.from_residual.ensures.1 in
    rw p.1 (λ malformed entry h.
    let dir = only_dir c.args.words.now entry h in
    c.in_err-read_path.ensures.err (sym p.2 ∙ malformed) dir.0 (subst (λ (w : List ℕ). StandsFor w dir.0) (dir_word c.args.words.now dir.0 dir.1) dir.1.is_path) dir.1.is_entry_path)
