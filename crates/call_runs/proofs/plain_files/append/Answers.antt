use Rattle.std.proofs.Common.{rules}
use Rattle.std.proofs.lemmas.Result.{on_ok_weaker}
use Rattle.call_fs.specs.Apply.{grown}
use Rattle.call_runs.proofs.Files.{file_changed, file_new}
use Rattle.call_runs.proofs.Lookups.{number_missing}
use Rattle.call_runs.proofs.plain_files.append.Goals as goal

pub returns-in-Some-clause-ok : goal.returns-in-Some-clause-ok
returns-in-Some-clause-ok c =
    on_ok_weaker c.append.result
    (λ is. file_changed c.args.files.now.items c.args.number c.in-Some.at (search rules) c.index_mut-entry.result.now c.index_mut-entry.ensures.value (grown c.args.now c.args.bytes.now) c.append.new.self is)
    c.append.ensures.ok

pub returns-clause-ok : goal.returns-clause-ok
returns-clause-ok c =
    rw c.in_ok-push.ensures.items
    (file_new c.args.files.now.items c.args.number (number_missing c.args.files.now.items c.args.number (search rules)) (grown c.args.now c.args.bytes.now) c.in_ok-file.file c.in_ok-file.ensures)
