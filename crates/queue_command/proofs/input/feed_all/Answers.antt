use Rattle.std.proofs.Common.{◌<◌, ◌≤◌, refl, subst, arith, take, length}
use Rattle.std.proofs.lemmas.List.{length-take-le}
use Rattle.queue_inject.specs.declared.injection.InputEnd.TheVariants.{Whole, Unread}
use Rattle.queue_inject.specs.Machine.{room_of}
use Rattle.queue_command.specs.declared.input.Form.TheVariants.{Beside}
use Rattle.queue_command.specs.declared.netstring.Place.TheVariants.{Head}
use Rattle.queue_command.proofs.Feeding.{step_bytes, step_end}
use Rattle.queue_command.proofs.Sources.{feeds_none, feeds_then, alone_bytes, alone_end, alone_failed}
use Rattle.queue_command.proofs.input.feed_all.Goals as goal

pub loop-buffer-init : goal.loop-buffer-init
loop-buffer-init g c = record { feeds = feeds_none Beside Head c.args.injector.now (g.S.Source.left c.args.source.now) (g.S.Source.faults c.args.source.now); room = refl }

pub loop-buffer-preserved-in-Got : goal.loop-buffer-preserved-in-Got
loop-buffer-preserved-in-Got g c =
    let l = c.loop-buffer in
    let bytes = take c.in-Got.count c.take.new.buffer in
    let some = subst (λ r. 0 < r) c.room.ensures.room c.loop-buffer-test.true in
    let fits : length bytes ≤ room_of l.injector =
    (let few = c.in-Got.ensures.fits.0 in let room = c.room-in-loop-buffer.ensures.room in let long = c.take.array_long in let size = length-take-le c.in-Got.count c.take.new.buffer (omega arith) in omega arith) in
    record {
      feeds = feeds_then Beside Head Head Head c.args.injector.now l.injector c.feed.new.self (g.S.Source.left c.args.source.now) (g.S.Source.left l.source) (g.S.Source.left c.take.new.input)
          (g.S.Source.faults c.args.source.now) (g.S.Source.faults l.source) (g.S.Source.faults c.take.new.input) some l.invariant.feeds
          (alone_bytes l.injector c.feed.new.self (g.S.Source.left l.source) (g.S.Source.left c.take.new.input) (g.S.Source.faults l.source) (g.S.Source.faults c.take.new.input) c.take.ensures.cause.later bytes
          (step_bytes l.injector c.feed.new.self bytes some fits
          c.feed.ensures.stands c.feed.ensures.rest c.feed.ensures.fed c.feed.ensures.message) c.in-Got.ensures.told);
      room = c.take.array_long;
    }

pub loop-buffer-preserved-in-End : goal.loop-buffer-preserved-in-End
loop-buffer-preserved-in-End g c =
    let l = c.loop-buffer in
    let some = subst (λ r. 0 < r) c.room.ensures.room c.loop-buffer-test.true in
    record {
      feeds = feeds_then Beside Head Head Head c.args.injector.now l.injector c.tell_end.new.injector (g.S.Source.left c.args.source.now) (g.S.Source.left l.source) (g.S.Source.left c.take.new.input)
          (g.S.Source.faults c.args.source.now) (g.S.Source.faults l.source) (g.S.Source.faults c.take.new.input) some l.invariant.feeds
          (alone_end l.injector c.tell_end.new.injector (g.S.Source.left l.source) (g.S.Source.left c.take.new.input) (g.S.Source.faults l.source) (g.S.Source.faults c.take.new.input) c.take.ensures.cause.later
          (step_end l.injector c.tell_end.new.injector Whole some
          c.tell_end.ensures.stands c.tell_end.ensures.over c.tell_end.ensures.none) c.in-End.ensures.told);
      room = c.take.array_long;
    }

pub loop-buffer-preserved : goal.loop-buffer-preserved
loop-buffer-preserved g c =
    let l = c.loop-buffer in
    let some = subst (λ r. 0 < r) c.room.ensures.room c.loop-buffer-test.true in
    record {
      feeds = feeds_then Beside Head Head Head c.args.injector.now l.injector c.tell_end-in-Failed.new.injector (g.S.Source.left c.args.source.now) (g.S.Source.left l.source) (g.S.Source.left c.take.new.input)
          (g.S.Source.faults c.args.source.now) (g.S.Source.faults l.source) (g.S.Source.faults c.take.new.input) some l.invariant.feeds
          (alone_failed l.injector c.tell_end-in-Failed.new.injector (g.S.Source.left l.source) (g.S.Source.left c.take.new.input) (g.S.Source.faults l.source) (g.S.Source.faults c.take.new.input) c.take.ensures.cause.later
          (step_end l.injector c.tell_end-in-Failed.new.injector Unread some
          c.tell_end-in-Failed.ensures.stands c.tell_end-in-Failed.ensures.over c.tell_end-in-Failed.ensures.none) c.in-Failed.ensures.told (c.take.ensures.cause.rose c.in-Failed.is));
      room = c.take.array_long;
    }
