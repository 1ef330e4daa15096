use Rattle.std.proofs.Common.{◌≡◌, Some, subst}
use Rattle.call_fs.specs.Placing.{with_file}
use Rattle.mem_fs.specs.Tables.{at_name, texts}
use Rattle.mem_fs.specs.MemDisk.{Held, disk_of}
use Rattle.mem_fs.proofs.Uses.{named_entry}
use Rattle.mem_fs.proofs.Steps.{sound-file, disk-replaced}
use Rattle.mem_fs.proofs.Indexed.{file_indexed}
use Rattle.mem_fs.proofs.store.Store.put_file.Goals as goal

pub replace-requires-clause-there : goal.replace-requires-clause-there
replace-requires-clause-there c = named_entry _ c.self.invariant.0 c.args.name.now c.args.number (rw (← c.self.view_is) at c.requires)

pub invariant_of-self : goal.invariant_of-self
invariant_of-self c =
    let found : at_name (texts c.self.inside.names.entries) c.args.name.now ≡ Some c.args.number = rw (← c.self.view_is) at c.requires in
    let there = named_entry _ c.self.invariant.0 c.args.name.now c.args.number found in (
      sound-file c.self.invariant.0 c.replace.new.files.items c.args.number (λ _. c.args.file) there c.replace.ensures,
      file_indexed c.self.inside.files.items c.replace.new.files.items c.args.number (λ _. c.args.file) there c.replace.ensures c.self.inside.free c.self.inside.low c.self.invariant.1,
    )

pub returns : goal.returns
returns c =
    let found : at_name (texts c.self.inside.names.entries) c.args.name.now ≡ Some c.args.number = rw (← c.self.view_is) at c.requires in
    subst (λ (h : Held). disk_of (record { dirs = c.self.inside.dirs.items; names = texts c.self.inside.names.entries; files = c.replace.new.files.items; opens = c.self.inside.opens.items }) ≡ with_file (disk_of h) c.args.number c.args.file) c.self.view_is
    (disk-replaced _ c.replace.new.files.items c.args.number c.args.file (named_entry _ c.self.invariant.0 c.args.name.now c.args.number found) c.replace.ensures)
