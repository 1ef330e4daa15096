use Rattle.call_fs.specs.Apply.{cut}
use Rattle.mem_files.proofs.FileTable.{changes-file}
use Rattle.mem_files.proofs.files.cut.Goals as goal

pub returns : goal.returns
returns c =
    changes-file c.args.files.now.items c.requires.in_order c.args.number c.index_of-at.result (rw c.deref.ensures.value at c.index_of-at.ensures) c.index_mut-entry.result.now c.index_mut-entry.ensures.value
    (cut c.args.len) c.cut.new.self c.cut.ensures
