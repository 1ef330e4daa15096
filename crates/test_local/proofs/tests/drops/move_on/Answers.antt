use Rattle.call_fs.specs.declared.calls.CallData.TheVariants as call
use Rattle.test_local.proofs.RunningDrops.{left_by}
use Rattle.test_local.proofs.tests.drops.move_on.Goals as goal

pub returns : goal.returns
returns g c =
    let first = left_by c.args.machine.now (g.D.CallFs.disk c.args.disk.now) (g.D.CallFs.disk c.perform-linked.new.disk) 5 (call.Link _ _) c.perform-linked.result tt
    c.perform-linked.ensures.kind c.requires c.perform-linked.ensures.told in
    left_by c.args.machine.now (g.D.CallFs.disk c.perform-linked.new.disk) (g.D.CallFs.disk c.perform-unlinked.new.disk) 5 (call.Unlink _) c.perform-unlinked.result tt
    c.perform-unlinked.ensures.kind first c.perform-unlinked.ensures.told
