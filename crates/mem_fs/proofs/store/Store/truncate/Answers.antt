use Rattle.std.proofs.Common.{ap, ◌∙◌}
use Rattle.call_fs.specs.Apply.{changed, cut}
use Rattle.mem_files.specs.Tables.{at_number}
use Rattle.mem_fs.specs.MemDisk.{Held, disk_of}
use Rattle.mem_fs.proofs.Steps.{open_entry, sound-file, disk-changed}
use Rattle.mem_fs.proofs.Indexed.{file_indexed}
use Rattle.mem_fs.proofs.store.Store.truncate.Goals as goal

pub cut-requires-clause-there : goal.cut-requires-clause-there
cut-requires-clause-there c = open_entry c.self.invariant.0 c.args.fd.0 c.opened-number.result (rw (← c.self.view_is) at c.opened-number.ensures)

pub invariant_of-self : goal.invariant_of-self
invariant_of-self c = (
  sound-file c.self.invariant.0 c.cut.new.files.items c.opened-number.result (cut c.args.len)
      (open_entry c.self.invariant.0 c.args.fd.0 c.opened-number.result (rw (← c.self.view_is) at c.opened-number.ensures)) c.cut.ensures,
  file_indexed c.self.inside.files.items c.cut.new.files.items c.opened-number.result (cut c.args.len)
      (open_entry c.self.invariant.0 c.args.fd.0 c.opened-number.result (rw (← c.self.view_is) at c.opened-number.ensures)) c.cut.ensures c.self.inside.free c.self.inside.low c.self.invariant.1,
)

pub returns : goal.returns
returns c =
    disk-changed c.self.invariant.0 c.cut.new.files.items c.args.fd.0 c.opened-number.result (cut c.args.len) (rw (← c.self.view_is) at c.opened-number.ensures) c.cut.ensures
    ∙ ap (λ (h : Held). changed (disk_of h) (at_number h.opens c.args.fd.0) (cut c.args.len)) c.self.view_is
