use Rattle.std.proofs.Common.{ap}
use Rattle.qmail_top.proofs.Commands.{checked_script, bad_line_printed, nothing_reached}
use Rattle.qmail_top.proofs.Works.{begun_of, never_malformed, printed_of, run_ended, run_reached, run_read, run_reason, run_refuses, run_unended, run_unwritten}
use Rattle.qmail_top.proofs.work_command.work_message.Goals as goal

pub returns-clause-prints : goal.returns-clause-prints
returns-clause-prints g c =
    let script = rw c.deref.ensures.value at c.in-Ok.ensures.ok in
    printed_of (g.M.Source.left c.args.message.now) (g.M.Source.left c.read_whole.new.message) (g.O.Sink.taken c.args.out.now) (g.O.Sink.taken c.run_script.new.out) c.in_ok-bytes.bytes.items c.in-Ok.script c.run_script.result
    c.in_ok-bytes.ensures.read script c.run_script.ensures.printed

pub returns-clause-begins : goal.returns-clause-begins
returns-clause-begins g c =
    let script = rw c.deref.ensures.value at c.in-Ok.ensures.ok in
    begun_of (g.M.Source.left c.args.message.now) (g.M.Source.left c.read_whole.new.message) (g.O.Sink.taken c.args.out.now) (g.O.Sink.taken c.run_script.new.out) c.in_ok-bytes.bytes.items c.in-Ok.script c.run_script.result
    c.in_ok-bytes.ensures.read script c.run_script.ensures.begun

pub returns-clause-refuses : goal.returns-clause-refuses
returns-clause-refuses g c = run_refuses c.run_script.result (g.M.Source.left c.args.message.now) _ (never_malformed _ _ c.run_script.result c.run_script.ensures.cause)

pub returns-clause-reached : goal.returns-clause-reached
returns-clause-reached g c =
    let script = rw c.deref.ensures.value at c.in-Ok.ensures.ok in
    run_reached (g.M.Source.left c.args.message.now) (g.M.Source.left c.read_whole.new.message) c.in_ok-bytes.bytes.items c.in-Ok.script _ _ c.in_ok-bytes.ensures.read script

pub returns-clause-ended : goal.returns-clause-ended
returns-clause-ended g c =
    let script = rw c.deref.ensures.value at c.in-Ok.ensures.ok in
    run_read (g.M.Source.left c.args.message.now) (g.M.Source.left c.read_whole.new.message) c.in_ok-bytes.bytes.items c.in-Ok.script _ c.in_ok-bytes.ensures.read script

pub returns-in_err-bytes-clause-reached : goal.returns-in_err-bytes-clause-reached
returns-in_err-bytes-clause-reached g c = nothing_reached _ _ (g.M.Source.left c.args.message.now) (g.M.Source.left c.read_whole.new.message) c.args.out.now c.read_whole.ensures.tells

pub returns-clause-unended : goal.returns-clause-unended
returns-clause-unended g c =
    let script = rw c.deref.ensures.value at c.in-Ok.ensures.ok in
    run_unended (g.M.Source.ended c.read_whole.new.message) _ _ (g.M.Source.left c.args.message.now) c.in_ok-bytes.bytes.items c.in-Ok.script c.in_ok-bytes.ensures.told_end script

pub returns-clause-told_end : goal.returns-clause-told_end
returns-clause-told_end g c =
    let script = rw c.deref.ensures.value at c.in-Ok.ensures.ok in
    run_ended c.run_script.result (g.M.Source.ended c.read_whole.new.message) c.in_ok-bytes.bytes.items c.in-Ok.script c.in_ok-bytes.ensures.told_end script

pub returns-clause-cause : goal.returns-clause-cause
returns-clause-cause g c = run_reason c.run_script.result _ _ _ c.run_script.ensures.cause (λ same. ap g.O.Sink.faults same) c.in_ok-bytes.ensures.unfailed

pub returns-clause-unwritten : goal.returns-clause-unwritten
returns-clause-unwritten g c = run_unwritten c.run_script.result _ _ c.run_script.ensures.cause

pub returns-clause-checked : goal.returns-clause-checked
returns-clause-checked g c =
    let script = rw c.deref.ensures.value at c.in-Ok.ensures.ok in
    checked_script (g.M.Source.left c.args.message.now) (g.M.Source.left c.read_whole.new.message) c.in_ok-bytes.bytes.items c.in-Ok.script c.run_script.result c.in_ok-bytes.ensures.read script
    (never_malformed _ _ c.run_script.result c.run_script.ensures.cause)

pub returns-in-Err-Line-clause-refuses : goal.returns-in-Err-Line-clause-refuses
returns-in-Err-Line-clause-refuses g c =
    let fault = rw c.deref.ensures.value at c.in-Err-Line.ensures.err in
    let bad = rw c.in-Err-Line.field-0-is at fault in
    bad_line_printed _ (g.M.Source.left c.args.message.now) (g.M.Source.left c.read_whole.new.message) (g.O.Sink.taken c.args.out.now) (g.O.Sink.taken c.refuse.new.out) c.in_ok-bytes.bytes.items c.in-Err-Line.number _
    c.in_ok-bytes.ensures.read bad (rw c.in-Err-Line.number-is at c.refuse.ensures)
