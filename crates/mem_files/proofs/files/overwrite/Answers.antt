use Rattle.std.proofs.lemmas.Result.{on_ok_weaker}
use Rattle.call_fs.specs.Apply.{overwritten}
use Rattle.mem_files.proofs.FileTable.{changes-file}
use Rattle.mem_files.proofs.files.overwrite.Goals as goal

pub returns-clause-ok : goal.returns-clause-ok
returns-clause-ok c =
    on_ok_weaker c.overwrite.result
    (λ is. changes-file c.args.files.now.items c.requires.in_order c.args.number c.index_of-at.result (rw c.deref.ensures.value at c.index_of-at.ensures) c.index_mut-entry.result.now c.index_mut-entry.ensures.value
    (overwritten c.args.now c.args.place c.args.bytes.now) c.overwrite.new.self is)
    c.overwrite.ensures.ok
