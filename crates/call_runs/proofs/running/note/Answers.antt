use Rattle.std.proofs.Common.{Some}
use Rattle.call_runs.proofs.RunCalls.{put_from}
use Rattle.call_runs.proofs.running.note.Goals as goal

pub returns : goal.returns
returns c = λ q. put_from c.args.held.now c.insert.new.self c.args.fd.0 (Some c.args.mode) c.in_ok-insert.ensures.updates q
