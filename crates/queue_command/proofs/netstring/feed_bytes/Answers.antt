use Rattle.std.proofs.Common.{◌<◌, ◌-◌, refl, subst, arith, take}
use Rattle.std.proofs.lemmas.List.{length-take-le}
use Rattle.queue_inject.specs.declared.injection.InputEnd.TheVariants.{Unread}
use Rattle.queue_command.specs.declared.input.Form.TheVariants.{Netstrings}
use Rattle.queue_command.specs.declared.netstring.Place.TheVariants.{Value}
use Rattle.queue_command.proofs.Feeding.{step_bytes, step_end}
use Rattle.queue_command.proofs.Sources.{feeds_none, feeds_then, net_bytes, net_cut, cut_by}
use Rattle.queue_command.proofs.netstring.feed_bytes.Goals as goal

pub loop-left-init : goal.loop-left-init
loop-left-init g c = record { feeds = feeds_none Netstrings (Value c.args.left) c.args.injector.now (g.S.Source.left c.args.source.now) (g.S.Source.faults c.args.source.now); room = refl }

pub loop-left-preserved-in-Got : goal.loop-left-preserved-in-Got
loop-left-preserved-in-Got g c =
    let l = c.loop-left in
    let bytes = take c.in-Got.count c.take.new.buffer in
    let some = subst (λ r. 0 < r) c.room.ensures.room c.if-room-gt0.true in
    let few = c.in-Got.ensures.fits.0 in
    let room = c.room-in-loop-left.ensures.room in
    let most = c.min-most.ensures in
    let size = length-take-le c.in-Got.count c.take.new.buffer (let long = c.take.array_long in omega arith) in
    record {
      feeds = feeds_then Netstrings (Value c.args.left) (Value l.left) (Value (l.left - c.in-Got.count)) c.args.injector.now l.injector c.feed.new.self (g.S.Source.left c.args.source.now) (g.S.Source.left l.source) (g.S.Source.left c.take.new.input)
          (g.S.Source.faults c.args.source.now) (g.S.Source.faults l.source) (g.S.Source.faults c.take.new.input) some l.invariant.feeds
          (net_bytes l.injector c.feed.new.self (g.S.Source.left l.source) (g.S.Source.left c.take.new.input) (g.S.Source.faults l.source) (g.S.Source.faults c.take.new.input) c.take.ensures.cause.later l.left (l.left - c.in-Got.count) bytes (omega arith)
          (step_bytes l.injector c.feed.new.self bytes some (omega arith)
          c.feed.ensures.stands c.feed.ensures.rest c.feed.ensures.fed c.feed.ensures.message) c.in-Got.ensures.told);
      room = c.take.array_long;
    }

pub loop-left-preserved : goal.loop-left-preserved
loop-left-preserved g c =
    let l = c.loop-left in
    let some = subst (λ r. 0 < r) c.room.ensures.room c.if-room-gt0.true in
    record {
      feeds = feeds_then Netstrings (Value c.args.left) (Value l.left) (Value l.left) c.args.injector.now l.injector c.tell_end.new.injector (g.S.Source.left c.args.source.now) (g.S.Source.left l.source) (g.S.Source.left c.take.new.input)
          (g.S.Source.faults c.args.source.now) (g.S.Source.faults l.source) (g.S.Source.faults c.take.new.input) some l.invariant.feeds
          (net_cut l.injector c.tell_end.new.injector (g.S.Source.left l.source) (g.S.Source.left c.take.new.input) (g.S.Source.faults l.source) (g.S.Source.faults c.take.new.input) c.take.ensures.cause.later l.left (Value l.left)
          (step_end l.injector c.tell_end.new.injector Unread some
          c.tell_end.ensures.stands c.tell_end.ensures.over c.tell_end.ensures.none) (cut_by c.take.result (g.S.Source.left l.source) (g.S.Source.left c.take.new.input) (g.S.Source.faults l.source) (g.S.Source.faults c.take.new.input) c.take.new.buffer c.in-End.is c.take.ensures.told c.take.ensures.cause.rose));
      room = c.take.array_long;
    }
