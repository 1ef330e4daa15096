use Rattle.mem_fs.proofs.InTurn.{told_after}
use Rattle.test_disk.proofs.OpenInTurn.{may_write}
use Rattle.test_disk.proofs.tests.clients.mend.Goals as goal

pub write_at-requires-clause-fits : goal.write_at-requires-clause-fits
write_at-requires-clause-fits g c =
    told_after (g.D.CallFs.disk c.args.disk.now) (g.D.CallFs.disk c.open.new.self) (λ x y a. may_write x y c.args.name.now c.in_ok-fd.fd a) c.in_ok-fd.ensures.went.told
