use Rattle.std.proofs.Common.{◌∙◌}
use Rattle.mem_fs.specs.MemDisk.{disk_of}
use Rattle.script_disks.proofs.Dirs.{bare_disk}
use Rattle.script_disks.proofs.opening_disk.entered_disk.Goals as goal

pub returns-clause-disk : goal.returns-clause-disk
returns-clause-disk c =
    let start = disk_of c.in_ok-disk.disk.held in
    record {
      bare = start;
      is_bare = bare_disk start c.deref.result.now c.in_ok-disk.ensures.disk (c.deref.ensures.value ∙ c.in_ok-dirs.ensures);
      entered = c.in_ok-enter_all.ensures.entered;
    }
