use Rattle.std.proofs.Common.{sym, rules}
use Rattle.std.proofs.lemmas.Result.{on_ok_weaker}
use Rattle.call_fs.specs.Apply.{overwritten}
use Rattle.mem_fs.specs.MemDisk.{disk_of}
use Rattle.mem_files.specs.Tables.{at_number}
use Rattle.mem_fs.specs.Tables.{at_name}
use Rattle.call_runs.specs.Lists.{held_of}
use Rattle.call_runs.proofs.Files.{disk_changed, disk_unopened}
use Rattle.call_runs.proofs.plain_lists.PlainLists.write_at.Goals as goal

pub returns-in-Some-clause-ok : goal.returns-in-Some-clause-ok
returns-in-Some-clause-ok c =
    let l = c.args.self.now in
    on_ok_weaker c.overwrite.result
    (λ changes. disk_changed l.dirs.items (at_name l.names.items) l.files.items c.overwrite.new.files.items l.opens.items c.args.fd.0 c.in-Some.number (overwritten c.args.now c.args.at c.args.bytes.now) (search rules) changes)
    c.overwrite.ensures.ok

pub returns-in-None-clause-ok : goal.returns-in-None-clause-ok
returns-in-None-clause-ok c = sym (disk_unopened (disk_of (held_of c.args.self.now)) (at_number c.args.self.now.opens.items c.args.fd.0) (overwritten c.args.now c.args.at c.args.bytes.now) (search rules))
