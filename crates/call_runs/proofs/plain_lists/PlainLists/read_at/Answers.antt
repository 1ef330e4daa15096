use Rattle.std.proofs.Common.{[], length, drop, refl, ◌∙◌, rules}
use Rattle.call_fs.specs.Apply.{empty_file}
use Rattle.mem_fs.specs.MemDisk.{disk_of}
use Rattle.mem_files.specs.Tables.{at_number}
use Rattle.call_runs.specs.Lists.{held_of}
use Rattle.call_runs.proofs.Files.{drop_nothing, file_missing, file_there, from_there, least_zero, read_there}
use Rattle.call_runs.proofs.plain_lists.PlainLists.read_at.Goals as goal

pub returns-in-Some-value_of : goal.returns-in-Some-value_of
returns-in-Some-value_of c =
    let l = c.args.self.now in
    let file = c.in-Some-value_of.file.now in
    read_there (disk_of (held_of l)) c.args.fd.0 c.args.at (length c.args.into.now) c.read_at.result c.read_at.new.into (drop c.args.at file.bytes)
    (from_there (disk_of (held_of l)) (at_number l.opens.items c.args.fd.0) c.in-Some.number file c.args.at (search rules) (file_there l.files.items c.in-Some.number file (search rules)))
    c.read_at.ensures.count c.read_at.ensures.bytes

pub returns-in-None : goal.returns-in-None
returns-in-None c =
    let l = c.args.self.now in
    read_there (disk_of (held_of l)) c.args.fd.0 c.args.at (length c.args.into.now) 0 c.args.into.now []
    (from_there (disk_of (held_of l)) (at_number l.opens.items c.args.fd.0) c.in-Some.number (empty_file 0) c.args.at (search rules) (file_missing l.files.items c.in-Some.number (search rules)) ∙ drop_nothing c.args.at)
    (least_zero (length c.args.into.now)) refl
