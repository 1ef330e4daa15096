use Rattle.test_sender.proofs.Unlinked.{keeps_open}
use Rattle.test_sender.proofs.disk_runs.is_removed.Goals as goal

pub returns : goal.returns
returns g c = keeps_open (g.D.CallFs.disk c.args.disk.now) (g.D.CallFs.disk c.unlink.new.self) c.args.name.now c.unlink.result c.unlink.ensures.went.told
