use Rattle.std.proofs.Common.{[], subst}
use Rattle.mem_fs.specs.MemDisk.{disk_of}
use Rattle.std.proofs.lemmas.List.Filters.{dedup_is}
use Rattle.script_disks.proofs.Gathered.{Gathered, flats_gathered, deep_at, seen_all, flat_dirs}
use Rattle.script_disks.proofs.NumbersInUse.{numbers_in}
use Rattle.script_disks.proofs.numbers.numbers_of.Goals as goal

pub loop-dir-init : goal.loop-dir-init
loop-dir-init c =
    let flat = c.in_ok-numbers.ensures in
    flats_gathered (disk_of c.args.disk.now.held) c.in_ok-numbers.numbers.items flat.only flat.all

pub loop-dir-preserved : goal.loop-dir-preserved
loop-dir-preserved c =
    let added = c.in_ok-gather_splits.ensures in
    deep_at (disk_of c.args.disk.now.held) _ c.loop-dir.dir-index (record { ref_ptr = (0, 0); now = [] }) flat_dirs c.loop-dir.numbers.items
    c.gather_splits.new.numbers.items c.loop-dir.invariant c.loop-dir-test.true added.kept added.only added.all

pub returns : goal.returns
returns c =
    let d = disk_of c.args.disk.now.held in
    let all = subst (λ deeps. Gathered d flat_dirs deeps c.loop-dir.numbers.items) (seen_all _ c.loop-dir.dir-index c.loop-dir-test.false) c.loop-dir.invariant in
    let sorted = c.in_ok-sort.ensures in
    numbers_in d c.loop-dir.numbers.items c.sort.new.self.items c.dedup.new.self.items all sorted.permutation sorted.sorted
    (dedup_is _ _ _ c.dedup.ensures.filtered)
