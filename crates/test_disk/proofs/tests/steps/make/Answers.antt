use Rattle.mem_fs.proofs.InTurn.{told_after}
use Rattle.test_disk.proofs.TwoNames.{may_append}
use Rattle.test_disk.proofs.tests.steps.make.Goals as goal

pub perform-requires-clause-fits : goal.perform-requires-clause-fits
perform-requires-clause-fits g c =
    told_after (g.D.CallFs.disk c.args.disk.now) (g.D.CallFs.disk c.perform-made.new.disk) (λ x y a. may_append x y 7 c.args.name.now c.in-Created.fd c.in-Created.number a) c.in-Created.ensures.told
