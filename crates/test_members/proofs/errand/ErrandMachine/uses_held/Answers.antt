use Rattle.call_fs.specs.Past.{held}
use Rattle.test_members.specs.Errands.{row_after}
use Rattle.test_members.proofs.Asked.{uses}
use Rattle.test_members.proofs.errand.ErrandMachine.uses_held.Goals as goal

pub returns : goal.returns
returns c = record { uses = λ args past now ready run. uses (held past) args (row_after past) }
