use Rattle.std.proofs.Common.{◌≡◌, false, refl}
use Rattle.qmqp_server.specs.inside.Places.{is_over}
use Rattle.qmqp_server.proofs.Passing.{passes_none, passes_then}
use Rattle.qmqp_server.proofs.reading.pass_over.Goals as goal

pub loop-buffer-init : goal.loop-buffer-init
loop-buffer-init g c = record { passes = passes_none c.args.reader.now (g.S.Source.left c.args.source.now) (g.S.Source.faults c.args.source.now); room = refl }

pub loop-buffer-preserved : goal.loop-buffer-preserved
loop-buffer-preserved g c =
    let over = c.is_over.ensures in
    let test = c.loop-buffer-test.true in
    let under : is_over c.loop-buffer.reader ≡ false = cc in
    record {
      passes = passes_then c.args.reader.now c.loop-buffer.reader c.next.new.reader (g.S.Source.left c.args.source.now) (g.S.Source.left c.loop-buffer.source) (g.S.Source.left c.next.new.source)
          (g.S.Source.faults c.args.source.now) (g.S.Source.faults c.loop-buffer.source) (g.S.Source.faults c.next.new.source) 8192 c.next.result c.next.new.buffer
          under c.loop-buffer.invariant.passes c.next.ensures.steps;
      room = c.next.array_long;
    }
