use Rattle.queue_clean.proofs.Parts.{passed}
use Rattle.queue_clean.proofs.taken.Taken.pass.Goals as goal

pub returns : goal.returns
returns c = passed c.self.inside.bytes _ c.self.inside.from c.self.inside.to c.args.count c.self.view_is c.self.invariant.0 c.requires
