use Rattle.mem_fs.proofs.InTurn.{told_after}
use Rattle.test_disk.proofs.Opened.{may_append}
use Rattle.test_disk.proofs.tests.steps.append.Goals as goal

pub perform-requires-in-Opened-clause-fits : goal.perform-requires-in-Opened-clause-fits
perform-requires-in-Opened-clause-fits g c =
    told_after (g.D.CallFs.disk c.args.disk.now) (g.D.CallFs.disk c.perform.new.disk) (λ x y a. may_append x y c.args.name.now c.in-Opened.fd a) c.in-Opened.ensures.told
