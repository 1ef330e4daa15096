use Rattle.queue_clean.proofs.Follows.{new_stands}
use Rattle.queue_clean.proofs.machine.Cleaner.new.Goals as goal

pub returns : goal.returns
returns c = λ args. new_stands _ args c.new.ensures c.new-2.ensures c.new-3.ensures
