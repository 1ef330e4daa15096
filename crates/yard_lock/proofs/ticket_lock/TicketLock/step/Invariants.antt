use Rattle.std.proofs.Common.{[], ◌∷◌}
use Rattle.yard_lock.specs.Turns.{turn}
use Rattle.yard_lock.proofs.ticket_lock.TicketLock.step.Given as goal

abbrev pub ghosts-enter : goal.ghosts-enter
ghosts-enter g a = record { number = a.pass.now.id; opening = a.self.now.table.shared.key.state.value ∷ []; turns = [] }

abbrev pub ghosts-leave : goal.ghosts-leave
ghosts-leave g a = record { number = a.pass.now.id; opening = []; turns = turn a.pass.now.id a.asked.now.value a.answer.now ∷ [] }
