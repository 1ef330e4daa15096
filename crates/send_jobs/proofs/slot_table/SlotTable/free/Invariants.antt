use Rattle.std.proofs.Common.{◌≡◌, None, replicate}
use Rattle.send_jobs.proofs.slot_table.SlotTable.free.Given as goal

abbrev pub invariant-loop : goal.invariant-loop
invariant-loop l = l.slots.items ≡ replicate l.counter None
