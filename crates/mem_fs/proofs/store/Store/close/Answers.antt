use Rattle.std.proofs.Common.{ℕ, nat_eq, ap, refl, subst, ◌∙◌}
use Rattle.call_fs.specs.declared.calls.CallData.TheVariants.{Close}
use Rattle.call_fs.specs.declared.calls.Answer.TheVariants.{Done}
use Rattle.call_fs.specs.Apply.{effect}
use Rattle.mem_files.specs.Tables.{at_number}
use Rattle.mem_files.specs.MemFiles.{closed_inode}
use Rattle.mem_fs.specs.MemDisk.{Held, disk_of}
use Rattle.mem_fs.proofs.Changes.{OpensGain}
use Rattle.mem_fs.proofs.Steps.{open_entry, open_holds, open_on, sound-closed, files-same, disk-closed}
use Rattle.mem_fs.proofs.Indexed.{beside_change, entry_positive, held_used}
use Rattle.mem_fs.proofs.store.Store.close.Goals as goal

pub drop_open-requires-clause-there : goal.drop_open-requires-clause-there
drop_open-requires-clause-there c = open_entry c.self.invariant.0 c.args.fd.0 c.opened-number.result (rw (← c.self.view_is) at c.opened-number.ensures)

pub drop_open-requires-clause-open : goal.drop_open-requires-clause-open
drop_open-requires-clause-open c = open_holds c.self.invariant.0 c.args.fd.0 c.opened-number.result (rw (← c.self.view_is) at c.opened-number.ensures)

pub returned-self-inside-requires-clause-indexed : goal.returned-self-inside-requires-clause-indexed
returned-self-inside-requires-clause-indexed c =
    rw c.deref.ensures.value
    (beside_change c.self.inside.files.items c.drop_open.new.files.items c.opened-number.result closed_inode (open_entry c.self.invariant.0 c.args.fd.0 c.opened-number.result (rw (← c.self.view_is) at c.opened-number.ensures)) c.drop_open.ensures c.self.inside.free c.self.inside.low c.self.invariant.1
    (entry_positive c.self.inside.files.items c.self.invariant.0.files c.opened-number.result (open_entry c.self.invariant.0 c.args.fd.0 c.opened-number.result (rw (← c.self.view_is) at c.opened-number.ensures)))
    (held_used c.self.inside.files.items c.opened-number.result (open_holds c.self.invariant.0 c.args.fd.0 c.opened-number.result (rw (← c.self.view_is) at c.opened-number.ensures))))

pub invariant_of-self : goal.invariant_of-self
invariant_of-self c =
    let at = open_on (at_number c.self.inside.opens.items c.args.fd.0) c.opened-number.result (rw (← c.self.view_is) at c.opened-number.ensures) in (
      sound-closed c.self.invariant.0 c.drop_open.new.files.items c.remove.new.entries.items c.opened-number.result
          (open_entry c.self.invariant.0 c.args.fd.0 c.opened-number.result (rw (← c.self.view_is) at c.opened-number.ensures))
          c.remove.ensures.in_order (subst (λ (n : ℕ). OpensGain c.remove.new.entries.items c.self.inside.opens.items n) at.2 (λ m. c.remove.ensures.count (λ e. nat_eq e.1.number m) at.0 at.1)) c.drop_open.ensures,
      rw c.deref.ensures.value at c.returned-self-inside.ensures,
    )

pub returns : goal.returns
returns c =
    let there = open_entry c.self.invariant.0 c.args.fd.0 c.opened-number.result (rw (← c.self.view_is) at c.opened-number.ensures) in
    disk-closed _ c.drop_open.new.files.items c.remove.new.entries.items c.args.fd (files-same c.self.inside.files.items c.drop_open.new.files.items c.opened-number.result closed_inode (λ i. refl) there c.drop_open.ensures) c.remove.ensures.value
    ∙ ap (λ (h : Held). effect (disk_of h) 0 (Close c.args.fd) Done 0) c.self.view_is
