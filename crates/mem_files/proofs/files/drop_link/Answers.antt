use Rattle.std.proofs.Common.{arith}
use Rattle.mem_files.specs.MemFiles.{unlinked_inode}
use Rattle.mem_files.proofs.FileTable.{read_entry, links-there, changes-set}
use Rattle.mem_files.proofs.files.drop_link.Goals as goal

pub overflow_sub-entry : goal.overflow_sub-entry
overflow_sub-entry c =
    let found = read_entry c.args.files.now.items c.requires.in_order c.args.number c.index_of-at.result (rw c.deref.ensures.value at c.index_of-at.ensures) c.index_mut-entry.result.now c.index_mut-entry.ensures.value in
    let count = links-there c.args.files.now.items c.args.number c.index_mut-entry.result.now.1 found in
    omega (arith, count, c.requires.linked)

pub returns : goal.returns
returns c = changes-set c.args.files.now.items c.requires.in_order c.args.number c.index_of-at.result (rw c.deref.ensures.value at c.index_of-at.ensures) c.index_mut-entry.result.now c.index_mut-entry.ensures.value unlinked_inode
