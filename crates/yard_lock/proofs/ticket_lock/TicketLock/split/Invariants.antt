use Rattle.std.proofs.Common.{[]}
use Rattle.yard_lock.proofs.ticket_lock.TicketLock.split.Given as goal

abbrev pub ghosts-divide : goal.ghosts-divide
ghosts-divide g a = record { parts = a.parts; parent = a.pass.now.id }

abbrev pub ghosts-learn : goal.ghosts-learn
ghosts-learn g a = record { number = a.pass.now.id; opening = []; turns = [] }
