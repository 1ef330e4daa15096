use Rattle.std.proofs.Common.{rules, ◌≡◌, ℕ, ◌+◌, ◌%◌, ap, arith}
use Rattle.yard_lock.proofs.Steps.{leaves}
use Rattle.yard_lock.proofs.ticket_lock.TicketLock.leave.Goals as goal

pub store-requires : goal.store-requires
store-requires g c =
    let h = c.requires.has in
    let t : ℕ = h.0 in
    let n : ℕ = c.args.ticket in
    let is : n ≡ t % 18446744073709551616 = h.2 in
    let next : (n + 1) % 18446744073709551616 ≡ (t + 1) % 18446744073709551616 = omega arith in
    (search rules, search rules, rw c.requires.facts (leaves _ _ _ _ _ t c.args.asked.now.value c.args.answer.now h.1 _ h.3 h.4 h.5 h.6 next))

pub returns-clause-replays : goal.returns-clause-replays
returns-clause-replays g c = let h = c.requires.has in (h.1, rw (ap (λ v. v.seen) c.store.ensures.2.0, c.requires.facts) h.6)
