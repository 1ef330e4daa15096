use Rattle.std.proofs.Common.{◌∙◌}
use Rattle.mem_fs.specs.MemDisk.{disk_of}
use Rattle.script_disks.proofs.Gathered.{splitting_none, splitting_more, splitting_all}
use Rattle.script_disks.proofs.numbers.gather_splits.Goals as goal

pub loop-split-init : goal.loop-split-init
loop-split-init c = splitting_none (disk_of c.args.disk.now.held) c.args.dir.now c.args.numbers.now.items

pub loop-split-preserved : goal.loop-split-preserved
loop-split-preserved c =
    let added = c.in_ok-gather.ensures in
    splitting_more (disk_of c.args.disk.now.held) c.args.dir.now c.deref.result.now c.loop-split.split c.args.numbers.now.items c.loop-split.numbers.items
    c.gather.new.numbers.items c.loop-split.invariant (c.deref.ensures.value ∙ c.in_ok-split_dir.ensures) added.kept added.only added.all

pub returns : goal.returns
returns c =
    let d = disk_of c.args.disk.now.held in
    let old = c.args.numbers.now.items in
    let new = c.loop-split.numbers.items in
    let s = c.loop-split.invariant in
    record {
      kept = s.kept;
      only = s.only;
      all = splitting_all d c.args.dir.now c.loop-split.split old new s c.loop-split-test.false;
    }
