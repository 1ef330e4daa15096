use Rattle.std.proofs.Common.{◌<◌, sym, subst, arith}
use Rattle.queue_inject.specs.Machine.{room_of}
use Rattle.queue_inject.specs.declared.injection.InputEnd.TheVariants.{Unread, Malformed}
use Rattle.queue_command.specs.declared.input.Form.TheVariants.{Netstrings}
use Rattle.queue_command.specs.declared.netstring.Place.TheVariants.{Head}
use Rattle.queue_command.specs.Feeding.{Feeds}
use Rattle.queue_command.proofs.Feeding.{step_end}
use Rattle.queue_command.proofs.Sources.{feeds_none, net_bad_head, net_cut_head}
use Rattle.queue_command.proofs.netstring.feed_head.Goals as goal

pub returns-then-room-eq0-clause-feeds : goal.returns-then-room-eq0-clause-feeds
returns-then-room-eq0-clause-feeds g c =
    subst (λ p. Feeds Netstrings Head p c.args.injector.now c.args.injector.now
    (record { old = g.S.Source.left c.args.source.now; new = g.S.Source.left c.args.source.now; faults_old = g.S.Source.faults c.args.source.now; faults_new = g.S.Source.faults c.args.source.now })) (sym c.requires)
    (feeds_none Netstrings Head c.args.injector.now (g.S.Source.left c.args.source.now) (g.S.Source.faults c.args.source.now))

pub returns-in-Bad-clause-feeds : goal.returns-in-Bad-clause-feeds
returns-in-Bad-clause-feeds g c =
    let some : 0 < room_of c.args.injector.now = (let room = c.room.ensures.room in let full = c.if-room-eq0.false in omega arith) in
    net_bad_head c.args.injector.now c.tell_end.new.injector (g.S.Source.left c.args.source.now) (g.S.Source.left c.take_head.new.source) (g.S.Source.faults c.args.source.now) (g.S.Source.faults c.take_head.new.source)
    c.take_head.ensures.later c.args.place.now
    (step_end c.args.injector.now c.tell_end.new.injector Malformed some c.tell_end.ensures.stands c.tell_end.ensures.over c.tell_end.ensures.none) c.in-Bad.ensures.read

pub returns-in-Cut-clause-feeds : goal.returns-in-Cut-clause-feeds
returns-in-Cut-clause-feeds g c =
    let some : 0 < room_of c.args.injector.now = (let room = c.room.ensures.room in let full = c.if-room-eq0.false in omega arith) in
    net_cut_head c.args.injector.now c.tell_end-in-Cut.new.injector (g.S.Source.left c.args.source.now) (g.S.Source.left c.take_head.new.source) (g.S.Source.faults c.args.source.now) (g.S.Source.faults c.take_head.new.source)
    c.take_head.ensures.later c.args.place.now
    (step_end c.args.injector.now c.tell_end-in-Cut.new.injector Unread some c.tell_end-in-Cut.ensures.stands c.tell_end-in-Cut.ensures.over c.tell_end-in-Cut.ensures.none) c.in-Cut.ensures.read
