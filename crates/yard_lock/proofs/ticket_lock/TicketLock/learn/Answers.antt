use Rattle.std.proofs.Common.{rules}
use Rattle.yard_lock.proofs.Shares.{looks}
use Rattle.yard_lock.proofs.ticket_lock.TicketLock.learn.Goals as goal

pub load-requires : goal.load-requires
load-requires g c = (search rules, search rules, looks _ _ _ _ _ _ c.requires.facts c.requires.quiet.0 c.requires.quiet.1)
