use Rattle.mail_world.proofs.Programs.{program_uses}
use Rattle.mail_world.proofs.any_machine.AnyMachineMachine.uses_held.Goals as goal

pub returns : goal.returns
returns c = record { uses = program_uses }
