use Rattle.std.proofs.Common.{arith}
use Rattle.queue_inject.proofs.Feeding.{reads_more, reads_all}
use Rattle.queue_inject.proofs.intake.Intake.feed_envelope.Goals as goal

pub loop-byte-preserved : goal.loop-byte-preserved
loop-byte-preserved c =
    let fed = c.loop-byte.invariant.fed in
    let piece = c.loop-byte.invariant.piece in
    record {
      fed = let on = c.feed_byte.ensures.fed in omega arith;
      within = c.feed_byte.ensures.within;
      piece = let on = c.feed_byte.ensures.piece in omega arith;
      grows = let before = c.loop-byte.invariant.grows in let on = c.feed_byte.ensures.grows in omega arith;
      kept = λ going. let before = c.loop-byte.invariant.kept (c.feed_byte.ensures.still going) in let on = c.feed_byte.ensures.kept going in omega arith;
      reads = λ done head read r. reads_more c.feed_byte.new.self done head read c.args.bytes.now c.loop-byte.byte-index c.loop-byte-test.true
          (c.feed_byte.ensures.reads done head _ (c.loop-byte.invariant.reads done head read r));
    }

pub returns-clause-reads : goal.returns-clause-reads
returns-clause-reads c = λ done head read r.
    reads_all c.loop-byte.self done head read c.args.bytes.now c.loop-byte.byte-index c.loop-byte-test.false (c.loop-byte.invariant.reads done head read r)
