use Rattle.std.proofs.Common.{[], sym, ◌∙◌, ap}
use Rattle.std.proofs.lemmas.Result.{err_from_is_err_and}
use Rattle.mail_bytes.specs.Escape.{unescaped}
use Rattle.script_words.proofs.Envelopes.{one_body}
use Rattle.script_words.proofs.EntryTexts.{file_line, file_parts, file_has_space, only_file}
use Rattle.script_words.proofs.entry_lines.read_file.Goals as goal

pub returns-in_err-word-clause-err : goal.returns-in_err-word-clause-err
returns-in_err-word-clause-err c =
    let p = err_from_is_err_and c.from_residual.result c.from_residual.ensures.1 in
    rw p.1 (λ malformed entry h.
    let file = only_file c.args.words.now entry h in
    c.in_err-word.ensures.err (file_has_space c.args.words.now file.0 file.1 file.2))

pub returns-in_err-path-clause-err : goal.returns-in_err-path-clause-err
returns-in_err-path-clause-err c =
    let p = err_from_is_err_and c.from_residual-in_err-path.result c.from_residual-in_err-path.ensures.1 in
    rw p.1 (λ malformed entry h.
    let file = only_file c.args.words.now entry h in
    let parts = file_parts c.args.words.now c.in_ok-word.word.now c.in_ok-word.rest.now file.0 file.1 c.in_ok-word.ensures.ok file.2 in
    c.in_err-path.ensures.err (sym p.2 ∙ malformed) file.0 parts.stands parts.is_path)

pub returns-in_err-body-clause-err : goal.returns-in_err-body-clause-err
returns-in_err-body-clause-err c =
    let p = err_from_is_err_and c.from_residual-in_err-body.result c.from_residual-in_err-body.ensures.1 in
    rw p.1 (λ malformed entry h.
    let file = only_file c.args.words.now entry h in
    let parts = file_parts c.args.words.now c.in_ok-word.word.now c.in_ok-word.rest.now file.0 file.1 c.in_ok-word.ensures.ok file.2 in
    c.in_err-body.ensures.err parts.body parts.ends)

pub returns-in_err-bytes-clause-err : goal.returns-in_err-bytes-clause-err
returns-in_err-bytes-clause-err c =
    let p = err_from_is_err_and c.from_residual-in_err-bytes.result c.from_residual-in_err-bytes.ensures.1 in
    rw p.1 (λ malformed entry h.
    let file = only_file c.args.words.now entry h in
    let parts = file_parts c.args.words.now c.in_ok-word.word.now c.in_ok-word.rest.now file.0 file.1 c.in_ok-word.ensures.ok file.2 in
    let body = one_body c.in_ok-word.rest.now c.in_ok-body.body.now parts.body [] [] c.in_ok-body.ensures.ok parts.ends in
    c.in_err-bytes.ensures.err (sym p.2 ∙ malformed) file.1 (ap unescaped body ∙ parts.is))

pub returns-clause-ok : goal.returns-clause-ok
returns-clause-ok c =
    let path = c.in_ok-path.ensures.ok in
    let line = file_line c.args.words.now c.in_ok-word.word.now c.in_ok-word.rest.now c.in_ok-path.path c.in_ok-body.body.now c.in_ok-bytes.bytes.items c.in_ok-word.ensures.ok path.0 path.1 c.in_ok-body.ensures.ok c.in_ok-bytes.ensures.ok in
    rw c.from_vec.ensures line
