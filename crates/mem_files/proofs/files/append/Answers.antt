use Rattle.std.proofs.lemmas.Result.{on_ok_weaker}
use Rattle.call_fs.specs.Apply.{grown}
use Rattle.mem_files.proofs.FileTable.{changes-file}
use Rattle.mem_files.proofs.files.append.Goals as goal

pub returns-clause-ok : goal.returns-clause-ok
returns-clause-ok c =
    on_ok_weaker c.append.result
    (λ is. changes-file c.args.files.now.items c.requires.in_order c.args.number c.index_of-at.result (rw c.deref.ensures.value at c.index_of-at.ensures) c.index_mut-entry.result.now c.index_mut-entry.ensures.value
    (grown c.args.now c.args.bytes.now) c.append.new.self is)
    c.append.ensures.ok
