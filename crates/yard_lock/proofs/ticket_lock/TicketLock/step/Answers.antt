use Rattle.std.proofs.Common.{rules, ◌≡◌, [], ◌∷◌, ◌++◌, Some, refl, sym, ap, ◌∙◌, arith}
use Rattle.atomic_table.specs.Table.{rest}
use Rattle.yard_lock.specs.Turns.{turn, Moved}
use Rattle.yard_lock.proofs.Turns.{replay-more, took, the_state}
use Rattle.yard_lock.proofs.ticket_lock.TicketLock.step.Goals as goal

pub exchange-out-requires : goal.exchange-out-requires
exchange-out-requires g c =
    let i = c.enter-ticket.ensures.has.2 in
    let e : c.enter-ticket.new.pass.me.1 ≡ (0, Some i.0) ∷ [] = i.1 ∙ ap (λ l. (0, Some i.0) ∷ l) c.requires.rests.0 in
    (search rules, (Some i.0, e ∙ ap (λ l. (0, Some i.0) ∷ l) (sym (ap rest e))))

pub leave-requires-clause-has : goal.leave-requires-clause-has
leave-requires-clause-has g c =
    let has = c.enter-ticket.ensures.has in
    let i = has.2 in
    let one = c.exchange-out.ensures in
    let two = c.exchange-empty.ensures in
    let e : c.enter-ticket.new.pass.me.1 ≡ (0, Some i.0) ∷ [] = i.1 ∙ ap (λ l. (0, Some i.0) ∷ l) c.requires.rests.0 in
    let no_rest : rest c.exchange-out.new.seat.me.1 ≡ [] = ap (λ m. rest m.1) one.3 ∙ ap rest e in
    let view_is : c.exchange-empty.new.seat.me.0 ≡ c.enter-ticket.new.pass.me.0 = ap (λ m. m.0) two.3 ∙ ap (λ m. m.0) one.3 in
    let out : (0, Some c.in-Some.state) ∷ rest c.enter-ticket.new.pass.me.1 ≡ (0, Some i.0) ∷ [] = ap (λ x. (0, x) ∷ rest c.enter-ticket.new.pass.me.1) (sym c.in-Some.is) ∙ (sym one.2 ∙ e) in
    let same : c.in-Some.state ≡ i.0 = the_state _ _ _ _ out in
    let parts : c.exchange-empty.new.seat.me.0.parts ≡ c.args.pass.now.me.0.parts = ap (λ v. v.parts) view_is ∙ i.3 in
    let live = c.requires.rests.3 in
    let move : Moved g.Y.Stepped.moves c.in-Some.state (turn c.exchange-empty.new.seat.id c.args.input c.apply-answer.result) c.apply-answer.new.self = (c.apply-answer.ensures.moves, c.apply-answer.ensures.memory) in (
      has.0,
      c.apply-answer.new.self,
      has.1,
      ap (λ m. m.1) two.3 ∙ ap (λ l. (0, Some c.apply-answer.new.self) ∷ l) no_rest,
      ap (λ v. v.stage) view_is ∙ i.2,
      omega arith,
      rw (ap (λ v. v.seen) view_is, c.of-asked.ensures) (replay-more _ _ _ c.in-Some.state _ _ (rw same i.6) move),
    )

pub returns-clause-took : goal.returns-clause-took
returns-clause-took g c =
    let i = c.enter-ticket.ensures.has.2 in
    let one = c.exchange-out.ensures in
    let two = c.exchange-empty.ensures in
    let seen_is : c.exchange-empty.new.seat.me.0.seen ≡ c.enter-ticket.new.pass.me.0.seen = ap (λ m. m.0.seen) two.3 ∙ ap (λ m. m.0.seen) one.3 in
    let id_is : c.exchange-empty.new.seat.id ≡ c.args.pass.now.id = two.1 ∙ (one.1 ∙ c.enter-ticket.ensures.same.1) in
    let after : c.leave.new.pass.me.0.seen ≡ c.enter-ticket.new.pass.me.0.seen ++ turn c.args.pass.now.id c.args.input c.apply-answer.result ∷ [] =
    ap (λ v. v.seen) c.leave.ensures.left.0 ∙ rw (seen_is, id_is, c.of-asked.ensures) refl in
    took _ _ _ _ _ _ c.enter-ticket.new.pass.me.0.seen _ _ i.4 i.5 after c.leave.ensures.replays.1
