use Rattle.std.proofs.Common.{refl, arith, length}
use Rattle.std.proofs.lemmas.Option.{slice_get_read}
use Rattle.call_runs.specs.Running.{Performs, none_held}
use Rattle.call_fs.proofs.Held.{has_room}
use Rattle.std.specs.Ordering.{nat_cmp}
use Rattle.std.specs.BTreeMap.{get}
use Rattle.call_runs.proofs.RunCalls.{may_make, on_err, ran_more, running_more, running_none, stops_after, stops_here}
use Rattle.call_runs.proofs.running.run_calls.Goals as goal

pub loop-call-init : goal.loop-call-init
loop-call-init g c =
    running_none g.D.CallFs.disk (Performs g.D.CallFs.disk g.D.CallFs.calls g.D.CallFs.plan g.D.CallFs.faults) c.args.disk.now c.args.calls.now c.new-all.result.items c.new-held.result c.new-all.ensures.items c.new-held.ensures.empty

pub returns-then-not-may-clause-ran : goal.returns-then-not-may-clause-ran
returns-then-not-may-clause-ran g c = c.loop-call.invariant.ran

pub returns-then-not-may-clause-stops : goal.returns-then-not-may-clause-stops
returns-then-not-may-clause-stops g c =
    let l = c.loop-call in
    let here = slice_get_read c.args.calls.now (length c.args.calls.now) l.call-index c.call-item.result refl c.loop-call-test.true c.call-item.is in
    stops_here g.D.CallFs.disk (Performs g.D.CallFs.disk g.D.CallFs.calls g.D.CallFs.plan g.D.CallFs.faults) c.args.disk.now l.disk c.args.calls.now l.call-index l.all.items l.held c.call-item.result l.invariant here
    (λ one. let is = c.may.ensures.1 one in let other = c.if-not-may.true in absurd (cc))

pub make-requires-clause-fits : goal.make-requires-clause-fits
make-requires-clause-fits g c =
    let l = c.loop-call in
    let here = slice_get_read c.args.calls.now (length c.args.calls.now) l.call-index c.call-item.result refl c.loop-call-test.true c.call-item.is in
    may_make g.D.CallFs.disk (Performs g.D.CallFs.disk g.D.CallFs.calls g.D.CallFs.plan g.D.CallFs.faults) c.args.disk.now l.disk c.args.calls.now l.call-index l.all.items l.held c.call-item.result l.invariant here
    (c.may.ensures.0 c.if-not-may.false)

pub make-requires-clause-piece : goal.make-requires-clause-piece
make-requires-clause-piece g c = let may = c.may.ensures.0 c.if-not-may.false in has_room (get nat_cmp c.loop-call.held) c.call-item.result.1 may.1

pub loop-call-preserved : goal.loop-call-preserved
loop-call-preserved g c =
    let l = c.loop-call in
    let here = slice_get_read c.args.calls.now (length c.args.calls.now) l.call-index c.call-item.result refl c.loop-call-test.true c.call-item.is in
    rw c.in_ok-push.ensures.items
    (running_more g.D.CallFs.disk (Performs g.D.CallFs.disk g.D.CallFs.calls g.D.CallFs.plan g.D.CallFs.faults) c.args.disk.now l.disk c.args.calls.now l.call-index l.all.items l.held c.call-item.result l.invariant here
    c.make.new.disk c.keep.new.held c.in_ok-told.told (c.may.ensures.0 c.if-not-may.false) c.in_ok-told.ensures.made c.in_ok-told.ensures.made.told (rw c.copy.ensures at c.in_ok-keep.ensures))

pub returns-clause-ran : goal.returns-clause-ran
returns-clause-ran g c = c.loop-call.invariant.ran

pub returns-clause-stops : goal.returns-clause-stops
returns-clause-stops g c = stops_after none_held c.args.calls.now c.loop-call.all.items c.loop-call.invariant.might (omega (arith, c.loop-call.invariant.count, c.loop-call-test.false))

-- after `Memory` the call was made too
pub returns-in_err-told-clause-err : goal.returns-in_err-told-clause-err
returns-in_err-told-clause-err g c =
    let l = c.loop-call in
    let here = slice_get_read c.args.calls.now (length c.args.calls.now) l.call-index c.call-item.result refl c.loop-call-test.true c.call-item.is in
    let w = c.in_err-told.ensures.err in
    on_err c.from_residual.result (ran_more g.D.CallFs.disk (Performs g.D.CallFs.disk g.D.CallFs.calls g.D.CallFs.plan g.D.CallFs.faults) c.args.disk.now l.disk c.args.calls.now l.call-index l.all.items l.held c.call-item.result l.invariant here c.make.new.disk w.0 w.1)

pub returns-in_err-keep-clause-err : goal.returns-in_err-keep-clause-err
returns-in_err-keep-clause-err g c =
    let l = c.loop-call in
    let here = slice_get_read c.args.calls.now (length c.args.calls.now) l.call-index c.call-item.result refl c.loop-call-test.true c.call-item.is in
    on_err c.from_residual-in_err-keep.result (ran_more g.D.CallFs.disk (Performs g.D.CallFs.disk g.D.CallFs.calls g.D.CallFs.plan g.D.CallFs.faults) c.args.disk.now l.disk c.args.calls.now l.call-index l.all.items l.held c.call-item.result l.invariant here c.make.new.disk c.in_ok-told.told c.in_ok-told.ensures.made)

pub returns-in_err-push-clause-err : goal.returns-in_err-push-clause-err
returns-in_err-push-clause-err g c =
    let l = c.loop-call in
    let here = slice_get_read c.args.calls.now (length c.args.calls.now) l.call-index c.call-item.result refl c.loop-call-test.true c.call-item.is in
    on_err c.from_residual-in_err-push.result (ran_more g.D.CallFs.disk (Performs g.D.CallFs.disk g.D.CallFs.calls g.D.CallFs.plan g.D.CallFs.faults) c.args.disk.now l.disk c.args.calls.now l.call-index l.all.items l.held c.call-item.result l.invariant here c.make.new.disk c.in_ok-told.told c.in_ok-told.ensures.made)
