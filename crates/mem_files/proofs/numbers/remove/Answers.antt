use Rattle.mem_files.proofs.NumberTable.{number-remove, numbers-remove, count-remove}
use Rattle.mem_files.proofs.numbers.remove.Goals as goal

pub returns-clause-in_order : goal.returns-clause-in_order
returns-clause-in_order g c =
    let at = rw c.deref.ensures.value at c.index_of-at.ensures in
    rw c.remove.ensures.items (numbers-remove c.args.entries.now.items c.requires.in_order c.args.number c.index_of-at.result at.within)

pub returns-clause-value : goal.returns-clause-value
returns-clause-value g c =
    rw c.remove.ensures.items (number-remove c.args.entries.now.items c.requires.in_order c.args.number c.index_of-at.result (rw c.deref.ensures.value at c.index_of-at.ensures))

pub returns-clause-count : goal.returns-clause-count
returns-clause-count g c = λ test value found.
    rw c.remove.ensures.items (count-remove c.args.entries.now.items c.requires.in_order c.args.number test c.index_of-at.result (rw c.deref.ensures.value at c.index_of-at.ensures) value found)
