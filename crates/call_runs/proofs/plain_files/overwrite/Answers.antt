use Rattle.std.proofs.Common.{rules}
use Rattle.std.proofs.lemmas.Result.{on_ok_weaker}
use Rattle.call_fs.specs.Apply.{overwritten}
use Rattle.call_runs.proofs.Files.{file_changed, file_new}
use Rattle.call_runs.proofs.Lookups.{number_missing}
use Rattle.call_runs.proofs.plain_files.overwrite.Goals as goal

pub returns-in-Some-clause-ok : goal.returns-in-Some-clause-ok
returns-in-Some-clause-ok c =
    on_ok_weaker c.overwrite.result
    (λ is. file_changed c.args.files.now.items c.args.number c.in-Some.at (search rules) c.index_mut-entry.result.now c.index_mut-entry.ensures.value (overwritten c.args.now c.args.place c.args.bytes.now) c.overwrite.new.self is)
    c.overwrite.ensures.ok

pub returns-clause-ok : goal.returns-clause-ok
returns-clause-ok c =
    rw c.in_ok-push.ensures.items
    (file_new c.args.files.now.items c.args.number (number_missing c.args.files.now.items c.args.number (search rules)) (overwritten c.args.now c.args.place c.args.bytes.now) c.in_ok-file.file c.in_ok-file.ensures)
