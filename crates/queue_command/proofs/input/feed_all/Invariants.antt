use Rattle.std.proofs.Common.{◌≡◌, length}
use Rattle.queue_command.specs.declared.input.Form.TheVariants.{Beside}
use Rattle.queue_command.specs.declared.netstring.Place.TheVariants.{Head}
use Rattle.queue_command.specs.Feeding.{Feeds}
use Rattle.queue_command.proofs.Feeding.{left_to_feed}
use Rattle.queue_command.proofs.input.feed_all.Given as goal

abbrev pub invariant-loop-buffer : goal.invariant-loop-buffer
invariant-loop-buffer g l = record {
  feeds : Feeds Beside Head Head l.initial.injector l.injector
      (record { old = g.S.Source.left l.initial.source; new = g.S.Source.left l.source; faults_old = g.S.Source.faults l.initial.source; faults_new = g.S.Source.faults l.source });
  room : length l.buffer ≡ 8192;
}

abbrev pub decreases-loop-buffer : goal.decreases-loop-buffer
decreases-loop-buffer g l = left_to_feed l.injector
