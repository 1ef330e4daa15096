use Rattle.std.proofs.Common.{rules, ◌≡◌, [], ◌∷◌, Some, arith}
use Rattle.yard_lock.proofs.Shares.{opens}
use Rattle.yard_lock.proofs.ticket_lock.TicketLock.new.Goals as goal

pub new-requires : goal.new-requires
new-requires g c =
    let items : c.push.new.self.items ≡ Some c.args.state ∷ [] = search rules in
    rw items (opens _ _ c.args.state c.requires (omega arith) c.of.ensures)
