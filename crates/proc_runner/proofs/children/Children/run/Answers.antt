use Rattle.std.proofs.Common.{arith}
use Rattle.proc_runner.proofs.Held.{follows}
use Rattle.proc_runner.proofs.children.Children.run.Goals as goal

pub returns-clause-chan : goal.returns-clause-chan
returns-clause-chan g c = follows c.args.self.now.count c.chan-chan.result (omega arith)
