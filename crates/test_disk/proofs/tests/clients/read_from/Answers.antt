use Rattle.call_fs.specs.declared.calls.How.TheVariants.{Read}
use Rattle.mem_fs.proofs.InTurn.{told_after}
use Rattle.test_disk.proofs.OpenInTurn.{may_read}
use Rattle.test_disk.proofs.tests.clients.read_from.Goals as goal

pub read_at-requires : goal.read_at-requires
read_at-requires g c =
    told_after (g.D.CallFs.disk c.args.disk.now) (g.D.CallFs.disk c.open.new.self) (λ x y a. may_read x y c.args.name.now Read c.in_ok-fd.fd a) c.in_ok-fd.ensures.went.told
