use Rattle.std.proofs.Common.{◌<◌, subst}
use Rattle.queue_command.specs.declared.input.Form.TheVariants.{Netstrings}
use Rattle.queue_command.specs.declared.netstring.Place.TheVariants.{Head, Value}
use Rattle.queue_command.specs.Feeding.{Feeds}
use Rattle.queue_command.proofs.Sources.{feeds_then}
use Rattle.queue_command.proofs.netstring.feed_value.Goals as goal

pub returns-then-room-gt0-clause-feeds : goal.returns-then-room-gt0-clause-feeds
returns-then-room-gt0-clause-feeds g c =
    let first : Feeds Netstrings (Value c.args.left) (Value 0) c.args.injector.now c.feed_bytes-left.new.injector
    (record { old = g.S.Source.left c.args.source.now; new = g.S.Source.left c.feed_bytes-left.new.source; faults_old = g.S.Source.faults c.args.source.now; faults_new = g.S.Source.faults c.feed_bytes-left.new.source })
    = rw c.if-left-eq0.true at c.feed_bytes-left.ensures.feeds in
    feeds_then Netstrings (Value c.args.left) (Value 0) Head c.args.injector.now c.feed_bytes-left.new.injector c.feed_comma.new.injector
    (g.S.Source.left c.args.source.now) (g.S.Source.left c.feed_bytes-left.new.source) (g.S.Source.left c.feed_comma.new.source)
    (g.S.Source.faults c.args.source.now) (g.S.Source.faults c.feed_bytes-left.new.source) (g.S.Source.faults c.feed_comma.new.source)
    (subst (λ r. 0 < r) c.room.ensures.room c.if-room-gt0.true) first c.feed_comma.ensures.feeds
