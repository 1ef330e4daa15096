use Rattle.std.proofs.Common.{arith}
use Rattle.std.proofs.lemmas.List.{length-take-le}
use Rattle.qmqp_server.proofs.Feeding.{feeds_bytes, feeds_end, feeds_nothing}
use Rattle.qmqp_server.proofs.injecting.feed_next.Goals as goal

pub next-requires-clause-some : goal.next-requires-clause-some
next-requires-clause-some g c = let room = c.room.ensures.room in let asks = c.requires.asks in omega arith

pub returns-in-Bytes : goal.returns-in-Bytes
returns-in-Bytes g c =
    feeds_bytes c.args.injector.now c.feed.new.self c.args.reader.now c.next.new.reader (record { old = g.S.Source.left c.args.source.now; new = g.S.Source.left c.next.new.source; faults_old = g.S.Source.faults c.args.source.now; faults_new = g.S.Source.faults c.next.new.source }) c.room.result c.next.new.buffer c.next.ensures.nearer c.requires.asks
    c.in-Bytes.count c.in-Bytes.ensures.steps
    (let few = c.in-Bytes.ensures.steps.some.1 in let room = c.room.ensures.room in let short = c.room.ensures.short in let long = c.next.array_long in let size = length-take-le c.in-Bytes.count c.next.new.buffer (omega arith) in omega arith)
    c.feed.ensures.stands c.feed.ensures.rest c.feed.ensures.fed c.feed.ensures.message

pub returns-in-MessageOver : goal.returns-in-MessageOver
returns-in-MessageOver g c =
    feeds_end c.args.injector.now c.end_input.new.self c.args.reader.now c.next.new.reader (record { old = g.S.Source.left c.args.source.now; new = g.S.Source.left c.next.new.source; faults_old = g.S.Source.faults c.args.source.now; faults_new = g.S.Source.faults c.next.new.source }) c.room.result c.next.new.buffer c.next.ensures.nearer c.requires.asks
    c.in-MessageOver.ensures.steps c.end_input.ensures.stands c.end_input.ensures.over c.end_input.ensures.none

pub returns-in-Nothing : goal.returns-in-Nothing
returns-in-Nothing g c =
    feeds_nothing c.args.injector.now c.fail_input.new.self c.args.reader.now c.next.new.reader (record { old = g.S.Source.left c.args.source.now; new = g.S.Source.left c.next.new.source; faults_old = g.S.Source.faults c.args.source.now; faults_new = g.S.Source.faults c.next.new.source }) c.room.result c.next.new.buffer c.next.ensures.nearer c.requires.asks
    c.in-Nothing.ensures.steps c.fail_input.ensures.stands c.fail_input.ensures.over c.fail_input.ensures.none
