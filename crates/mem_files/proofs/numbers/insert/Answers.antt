use Rattle.std.proofs.Common.{◌≡◌}
use Rattle.std.specs.List.{insert}
use Rattle.mem_files.proofs.NumberTable.{number-at, number-set, numbers-set, number-insert, numbers-insert, count-insert}
use Rattle.mem_files.proofs.numbers.insert.Goals as goal

pub returns-in-Ok-clause-in_order : goal.returns-in-Ok-clause-in_order
returns-in-Ok-clause-in_order g c = numbers-set c.args.entries.now.items c.requires.in_order c.args.number c.in-Ok.at (rw c.deref.ensures.value at c.in-Ok.ensures) c.args.value

pub returns-in-Ok-clause-value : goal.returns-in-Ok-clause-value
returns-in-Ok-clause-value g c = number-set c.args.entries.now.items c.requires.in_order c.args.number c.in-Ok.at (rw c.deref.ensures.value at c.in-Ok.ensures) c.args.value

pub returns-in-Ok-clause-count : goal.returns-in-Ok-clause-count
returns-in-Ok-clause-count g c = λ test none.
    let there = number-at c.args.entries.now.items c.requires.in_order c.args.number c.in-Ok.at (rw c.deref.ensures.value at c.in-Ok.ensures) c.index_mut.result.now in
    absurd cc

pub returns-in-Err-clause-in_order : goal.returns-in-Err-clause-in_order
returns-in-Err-clause-in_order g c =
    let items = c.insert.ensures.items in
    let made : c.insert.new.self.items ≡ insert c.args.entries.now.items c.in-Err.at (c.args.number, c.args.value) = rw c.unwrap.ensures at items in
    rw made (numbers-insert c.args.entries.now.items c.requires.in_order c.args.number c.in-Err.at (rw c.deref.ensures.value at c.in-Err.ensures) c.requires.positive c.args.value)

pub returns-in-Err-clause-value : goal.returns-in-Err-clause-value
returns-in-Err-clause-value g c =
    let items = c.insert.ensures.items in
    let made : c.insert.new.self.items ≡ insert c.args.entries.now.items c.in-Err.at (c.args.number, c.args.value) = rw c.unwrap.ensures at items in
    rw made (number-insert c.args.entries.now.items c.requires.in_order c.args.number c.in-Err.at (rw c.deref.ensures.value at c.in-Err.ensures) c.args.value)

pub returns-in-Err-clause-count : goal.returns-in-Err-clause-count
returns-in-Err-clause-count g c = λ test none.
    let items = c.insert.ensures.items in
    let made : c.insert.new.self.items ≡ insert c.args.entries.now.items c.in-Err.at (c.args.number, c.args.value) = rw c.unwrap.ensures at items in
    rw made (count-insert c.args.entries.now.items c.requires.in_order c.args.number test c.in-Err.at c.args.value)
