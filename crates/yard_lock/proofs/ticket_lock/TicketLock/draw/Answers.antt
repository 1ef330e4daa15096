use Rattle.std.proofs.Common.{rules}
use Rattle.yard_lock.proofs.Steps.{draws}
use Rattle.yard_lock.proofs.ticket_lock.TicketLock.draw.Goals as goal

pub fetch_add-requires : goal.fetch_add-requires
fetch_add-requires g c = (search rules, search rules, draws _ _ _ _ _ c.requires.idle.0 c.requires.idle.1)
