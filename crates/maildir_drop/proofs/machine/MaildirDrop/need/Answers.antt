use Rattle.std.proofs.Common.{◌∙◌}
use Rattle.maildir_drop.proofs.Standing.{due_is}
use Rattle.maildir_drop.proofs.machine.MaildirDrop.need.Goals as goal

pub returns-clause-stands : goal.returns-clause-stands
returns-clause-stands c = λ args past s. c.asks.ensures ∙ due_is c.args.self.now args past c.args.self.now.present c.args.self.now.ready s
