use Rattle.std.proofs.Common.{◌≡◌, length}
use Rattle.queue_command.specs.declared.input.Form.TheVariants.{Netstrings}
use Rattle.queue_command.specs.declared.netstring.Place.TheVariants.{Value}
use Rattle.queue_command.specs.Feeding.{Feeds}
use Rattle.queue_command.proofs.Feeding.{left_to_feed}
use Rattle.queue_command.proofs.netstring.feed_bytes.Given as goal

abbrev pub invariant-loop-left : goal.invariant-loop-left
invariant-loop-left g l = record {
  feeds : Feeds Netstrings (Value l.initial.left) (Value l.left) l.initial.injector l.injector
      (record { old = g.S.Source.left l.initial.source; new = g.S.Source.left l.source; faults_old = g.S.Source.faults l.initial.source; faults_new = g.S.Source.faults l.source });
  room : length l.buffer ≡ 8192;
}

abbrev pub decreases-loop-left : goal.decreases-loop-left
decreases-loop-left g l = left_to_feed l.injector
