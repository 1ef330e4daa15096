use Rattle.std.proofs.Common.{◌≡◌}
use Rattle.yard_lock.proofs.ticket_lock.TicketLock.look.Given as goal

abbrev pub invariant-loop : goal.invariant-loop
invariant-loop g l = (l.pass.table_id ≡ l.fn.pass.table_id) × (l.pass.id ≡ l.fn.pass.id) × (l.pass.me ≡ l.fn.pass.me)
