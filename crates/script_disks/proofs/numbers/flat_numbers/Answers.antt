use Rattle.std.proofs.Common.{[], subst, sym}
use Rattle.mem_fs.specs.MemDisk.{disk_of}
use Rattle.script_disks.proofs.Gathered.{Gathered, gathered_none, flat_at, seen_all}
use Rattle.script_disks.proofs.numbers.flat_numbers.Goals as goal

pub loop-dir-init : goal.loop-dir-init
loop-dir-init c = subst (Gathered (disk_of c.args.disk.now.held) [] []) (sym c.new-numbers.ensures.items) (gathered_none (disk_of c.args.disk.now.held))

pub loop-dir-preserved : goal.loop-dir-preserved
loop-dir-preserved c =
    let added = c.in_ok-gather.ensures in
    flat_at (disk_of c.args.disk.now.held) _ c.loop-dir.dir-index (record { ref_ptr = (0, 0); now = [] }) [] c.loop-dir.numbers.items c.gather.new.numbers.items
    c.loop-dir.invariant c.loop-dir-test.true added.kept added.only added.all

pub returns : goal.returns
returns c =
    let all = subst (λ flats. Gathered (disk_of c.args.disk.now.held) flats [] c.loop-dir.numbers.items) (seen_all _ c.loop-dir.dir-index c.loop-dir-test.false) c.loop-dir.invariant in
    record { only = all.only; all = all.flat }
