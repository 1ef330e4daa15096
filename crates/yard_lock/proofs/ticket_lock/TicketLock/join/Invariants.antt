use Rattle.std.proofs.Common.{[]}
use Rattle.yard_lock.proofs.ticket_lock.TicketLock.join.Given as goal

abbrev pub ghosts-unite : goal.ghosts-unite
ghosts-unite g a = record { other = a.other.id; seen = a.other.me.0.seen }

abbrev pub ghosts-learn : goal.ghosts-learn
ghosts-learn g a = record { number = a.pass.now.id; opening = []; turns = [] }
