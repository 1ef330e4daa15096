use Rattle.std.proofs.Common.{sym}
use Rattle.mem_files.proofs.NumberTable.{number-at, number-gap}
use Rattle.mem_files.proofs.numbers.value_of.Goals as goal

pub returns-in-Ok : goal.returns-in-Ok
returns-in-Ok g c = sym (number-at c.args.entries.now c.requires c.args.number c.in-Ok.at c.in-Ok.ensures c.index-entries-at.result)

pub returns-in-Err : goal.returns-in-Err
returns-in-Err g c = sym (number-gap c.args.entries.now c.requires c.args.number c.in-Err.field-0 c.in-Err.ensures)
