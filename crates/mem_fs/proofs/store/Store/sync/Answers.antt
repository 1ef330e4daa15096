use Rattle.std.proofs.Common.{ap, ◌∙◌}
use Rattle.call_fs.specs.Apply.{changed, synced}
use Rattle.mem_files.specs.Tables.{at_number}
use Rattle.mem_fs.specs.MemDisk.{Held, disk_of}
use Rattle.mem_fs.proofs.Steps.{open_entry, sound-file, disk-changed}
use Rattle.mem_fs.proofs.Indexed.{file_indexed}
use Rattle.mem_fs.proofs.store.Store.sync.Goals as goal

pub sync-requires-clause-there : goal.sync-requires-clause-there
sync-requires-clause-there c = open_entry c.self.invariant.0 c.args.fd.0 c.opened-number.result (rw (← c.self.view_is) at c.opened-number.ensures)

pub invariant_of-self : goal.invariant_of-self
invariant_of-self c = (
  sound-file c.self.invariant.0 c.sync.new.files.items c.opened-number.result synced
      (open_entry c.self.invariant.0 c.args.fd.0 c.opened-number.result (rw (← c.self.view_is) at c.opened-number.ensures)) c.sync.ensures,
  file_indexed c.self.inside.files.items c.sync.new.files.items c.opened-number.result synced
      (open_entry c.self.invariant.0 c.args.fd.0 c.opened-number.result (rw (← c.self.view_is) at c.opened-number.ensures)) c.sync.ensures c.self.inside.free c.self.inside.low c.self.invariant.1,
)

pub returns : goal.returns
returns c =
    disk-changed c.self.invariant.0 c.sync.new.files.items c.args.fd.0 c.opened-number.result synced (rw (← c.self.view_is) at c.opened-number.ensures) c.sync.ensures
    ∙ ap (λ (h : Held). changed (disk_of h) (at_number h.opens c.args.fd.0) synced) c.self.view_is
