use Rattle.std.proofs.Common.{ap, ◌∙◌}
use Rattle.mem_fs.specs.MemDisk.{disk_of, with_held, Planned}
use Rattle.script_disks.proofs.MadeDirs.{entered_to}
use Rattle.script_disks.proofs.opening_disk.enter_all.Goals as goal

pub loop-entry-preserved : goal.loop-entry-preserved
loop-entry-preserved c = (
  entered_to (disk_of c.args.disk.now.held) (disk_of c.loop-entry.disk.held) (disk_of c.enter.new.disk.held) c.args.entries.now c.loop-entry.entry-index c.entry-item.result
      c.loop-entry-test.true c.entry-item.is c.loop-entry.invariant.0 c.in_ok-enter.ensures.entered,
  c.in_ok-enter.ensures.listed,
  c.in_ok-enter.ensures.rest ∙ ap (λ (m : Planned). with_held m c.enter.new.disk.held) c.loop-entry.invariant.2,
)
