use Rattle.std.proofs.Common.{◌∙◌, sym}
use Rattle.std.proofs.lemmas.Result.{on_ok_weaker}
use Rattle.mem_fs.specs.MemDisk.{disk_of}
use Rattle.script_disks.proofs.MadeDirs.{entered_dir, placed_dirs}
use Rattle.script_disks.proofs.opening_disk.enter.Goals as goal

pub returns-in_ok-make_above-in-File-clause-listed : goal.returns-in_ok-make_above-in-File-clause-listed
returns-in_ok-make_above-in-File-clause-listed c =
    on_ok_weaker c.place.result
    (λ places. c.in_ok-make_above-in-File.ensures.listed
    ∙ sym (placed_dirs (disk_of c.make_above.new.disk.held) _ _ (disk_of c.place.new.self.held) places))
    c.place.ensures.ok

pub returns-in_ok-make_above-in-Dir-clause-entered : goal.returns-in_ok-make_above-in-Dir-clause-entered
returns-in_ok-make_above-in-Dir-clause-entered c =
    on_ok_weaker c.make.result
    (λ made. entered_dir (disk_of c.args.disk.now.held) (disk_of c.make_above-in-Dir.new.disk.held) (disk_of c.make.new.disk.held) c.args.entry.now c.in-Dir.path
    c.as_slice-in-Dir.result.now c.as_slice-in-Dir-2.result.now c.in-Dir.is c.as_slice-in-Dir.ensures c.as_slice-in-Dir-2.ensures c.in_ok-make_above-in-Dir.ensures.made made)
    c.make.ensures.made
