use Rattle.std.proofs.Common.{ap, ◌∙◌}
use Rattle.std.proofs.lemmas.Result.{on_ok_weaker}
use Rattle.call_fs.specs.Apply.{changed, grown}
use Rattle.mem_files.specs.Tables.{at_number}
use Rattle.mem_fs.specs.MemDisk.{Held, disk_of}
use Rattle.mem_fs.proofs.Steps.{open_entry, sound-file_or, disk-changed}
use Rattle.mem_fs.proofs.Indexed.{file_indexed_or}
use Rattle.mem_fs.proofs.store.Store.append.Goals as goal

pub append-requires-clause-there : goal.append-requires-clause-there
append-requires-clause-there c = open_entry c.self.invariant.0 c.args.fd.0 c.opened-number.result (rw (← c.self.view_is) at c.opened-number.ensures)

pub invariant_of-self : goal.invariant_of-self
invariant_of-self c = (
  sound-file_or c.self.invariant.0 c.append.new.files.items c.opened-number.result (grown c.args.now c.args.bytes.now) c.append.result
      (open_entry c.self.invariant.0 c.args.fd.0 c.opened-number.result (rw (← c.self.view_is) at c.opened-number.ensures))
      c.append.ensures.ok c.append.ensures.err,
  file_indexed_or c.self.inside.files.items c.append.new.files.items c.opened-number.result (grown c.args.now c.args.bytes.now) c.append.result
      (open_entry c.self.invariant.0 c.args.fd.0 c.opened-number.result (rw (← c.self.view_is) at c.opened-number.ensures))
      c.append.ensures.ok c.append.ensures.err c.self.inside.free c.self.inside.low c.self.invariant.1,
)

pub returns-clause-ok : goal.returns-clause-ok
returns-clause-ok c =
    let f = grown c.args.now c.args.bytes.now in
    on_ok_weaker c.append.result
    (λ changes. disk-changed c.self.invariant.0 c.append.new.files.items c.args.fd.0 c.opened-number.result f (rw (← c.self.view_is) at c.opened-number.ensures) changes
    ∙ ap (λ (h : Held). changed (disk_of h) (at_number h.opens c.args.fd.0) f) c.self.view_is)
    c.append.ensures.ok
