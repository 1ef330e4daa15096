use Rattle.todo_pass.proofs.Holds.{uses}
use Rattle.todo_pass.proofs.machine.TodoPassMachine.uses_held.Goals as goal

pub returns : goal.returns
returns c = record { uses = λ args past now ready run. uses args.controls args.n past run }
