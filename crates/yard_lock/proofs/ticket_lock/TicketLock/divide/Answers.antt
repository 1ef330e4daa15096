use Rattle.std.proofs.Common.{rules}
use Rattle.yard_lock.proofs.Shares.{splits}
use Rattle.yard_lock.proofs.ticket_lock.TicketLock.divide.Goals as goal

pub split_seat-requires : goal.split_seat-requires
split_seat-requires g c = (
  search rules,
  search rules,
  rw (c.requires.some.0, c.requires.parent) (splits _ _ _ _ c.args.parts c.requires.rests.1 c.requires.some.1 c.requires.some.2),
)
