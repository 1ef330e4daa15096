use Rattle.std.proofs.Common.{sym, rules}
use Rattle.call_fs.specs.Apply.{cut}
use Rattle.mem_fs.specs.MemDisk.{disk_of}
use Rattle.mem_files.specs.Tables.{at_number}
use Rattle.mem_fs.specs.Tables.{at_name}
use Rattle.call_runs.specs.Lists.{held_of}
use Rattle.call_runs.proofs.Files.{disk_changed, disk_unopened}
use Rattle.call_runs.proofs.plain_lists.PlainLists.truncate.Goals as goal

pub returns-in-Some : goal.returns-in-Some
returns-in-Some c =
    let l = c.args.self.now in
    disk_changed l.dirs.items (at_name l.names.items) l.files.items c.cut.new.files.items l.opens.items c.args.fd.0 c.in-Some.number (cut c.args.len) (search rules) c.cut.ensures

pub returns-in_default : goal.returns-in_default
returns-in_default c = sym (disk_unopened (disk_of (held_of c.args.self.now)) (at_number c.args.self.now.opens.items c.args.fd.0) (cut c.args.len) (search rules))
