use Rattle.std.proofs.Common.{rules}
use Rattle.yard_lock.proofs.Shares.{joins}
use Rattle.yard_lock.proofs.ticket_lock.TicketLock.unite.Goals as goal

pub join_seat-requires : goal.join_seat-requires
join_seat-requires g c = (
  search rules,
  search rules,
  search rules,
  search rules,
  rw (c.requires.partner.0, c.requires.partner.1) (joins _ _ _ _ _ _ c.requires.rests.0.1 c.requires.rests.1.1 (search rules) (search rules)),
)
