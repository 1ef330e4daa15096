use Rattle.std.proofs.Common.{Ok, Err}
use Rattle.qmail_top.specs.declared.play_command.Failure.TheVariants.{Output}
use Rattle.qmail_top.proofs.Commands.{checked_script, few_said, nothing_reached, bad_line_printed}
use Rattle.qmail_top.proofs.play_command.play_message.Goals as goal

pub returns-in-Ok-play-clause-checked : goal.returns-in-Ok-play-clause-checked
returns-in-Ok-play-clause-checked g c =
    let script = rw c.deref.ensures.value at c.in-Ok.ensures.ok in
    checked_script (g.M.Source.left c.args.message.now) (g.M.Source.left c.read_whole.new.message) c.in_ok-bytes.bytes.items c.in-Ok.script (Ok tt) c.in_ok-bytes.ensures.read script (λ e. cc)

pub returns-in-Err-Failed-clause-checked : goal.returns-in-Err-Failed-clause-checked
returns-in-Err-Failed-clause-checked g c =
    let script = rw c.deref.ensures.value at c.in-Ok.ensures.ok in
    checked_script (g.M.Source.left c.args.message.now) (g.M.Source.left c.read_whole.new.message) c.in_ok-bytes.bytes.items c.in-Ok.script (Err Output) c.in_ok-bytes.ensures.read script (λ e. cc)

pub returns-in_err-bytes-clause-reached : goal.returns-in_err-bytes-clause-reached
returns-in_err-bytes-clause-reached g c = nothing_reached _ _ (g.M.Source.left c.args.message.now) (g.M.Source.left c.read_whole.new.message) c.args.out.now c.read_whole.ensures.tells

pub returns-in-Err-Line-clause-refuses : goal.returns-in-Err-Line-clause-refuses
returns-in-Err-Line-clause-refuses g c =
    let fault = rw c.deref.ensures.value at c.in-Err-Line.ensures.err in
    let bad = rw c.in-Err-Line.field-0-is at fault in
    bad_line_printed _ (g.M.Source.left c.args.message.now) (g.M.Source.left c.read_whole.new.message) (g.O.Sink.taken c.args.out.now) (g.O.Sink.taken c.refuse.new.out) c.in_ok-bytes.bytes.items c.in-Err-Line.number _
    c.in_ok-bytes.ensures.read bad (rw c.in-Err-Line.number-is at c.refuse.ensures)

pub returns-in-Ok-play-clause-few : goal.returns-in-Ok-play-clause-few
returns-in-Ok-play-clause-few g c =
    let script = rw c.deref.ensures.value at c.in-Ok.ensures.ok in
    few_said (g.M.Source.left c.args.message.now) (g.M.Source.left c.read_whole.new.message) c.in_ok-bytes.bytes.items c.in-Ok.script c.in_ok-bytes.ensures.read script c.in-Ok-play.ensures.few
