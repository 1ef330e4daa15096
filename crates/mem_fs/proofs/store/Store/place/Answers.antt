use Rattle.std.proofs.Common.{sym, ◌∙◌, ap}
use Rattle.call_fs.specs.Placing.{with_file}
use Rattle.mem_fs.specs.MemDisk.{disk_of}
use Rattle.mem_fs.proofs.Steps.{replaced-place}
use Rattle.mem_fs.proofs.store.Store.place.Goals as goal

pub returns-in-Some-clause-ok : goal.returns-in-Some-clause-ok
returns-in-Some-clause-ok c =
    replaced-place (disk_of c.args.self.now) c.args.name.now c.args.bytes.now c.in-Some.number (disk_of c.put_file.new.self) (sym c.number_of.ensures ∙ c.in-Some.is)
    (c.put_file.ensures ∙ ap (with_file (disk_of c.args.self.now) c.in-Some.number) c.in_ok-file.ensures)
