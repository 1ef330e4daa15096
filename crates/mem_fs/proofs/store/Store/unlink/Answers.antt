use Rattle.std.proofs.Common.{◌≡◌, Some, ap, refl, sym, ◌∙◌}
use Rattle.call_fs.specs.declared.calls.CallData.TheVariants.{Unlink}
use Rattle.call_fs.specs.declared.calls.Answer.TheVariants.{Done}
use Rattle.call_fs.specs.Apply.{effect}
use Rattle.mem_fs.specs.Tables.{at_name, texts}
use Rattle.mem_files.specs.MemFiles.{unlinked_inode}
use Rattle.mem_fs.specs.MemDisk.{Held, disk_of}
use Rattle.mem_fs.proofs.Uses.{named_links, named_entry}
use Rattle.mem_fs.proofs.Steps.{sound-unlinked, files-same, disk-unlinked}
use Rattle.mem_fs.proofs.Indexed.{beside_change, entry_positive, linked_used}
use Rattle.mem_fs.proofs.store.Store.unlink.Goals as goal

pub drop_link-requires-clause-there : goal.drop_link-requires-clause-there
drop_link-requires-clause-there c =
    let found : at_name (texts c.self.inside.names.entries) c.args.name.now ≡ Some c.unwrap-number.result = sym c.number_of.ensures ∙ c.unwrap-number.ensures in
    named_entry _ c.self.invariant.0 c.args.name.now c.unwrap-number.result found

pub drop_link-requires-clause-linked : goal.drop_link-requires-clause-linked
drop_link-requires-clause-linked c =
    let found : at_name (texts c.self.inside.names.entries) c.args.name.now ≡ Some c.unwrap-number.result = sym c.number_of.ensures ∙ c.unwrap-number.ensures in
    named_links _ c.self.invariant.0 c.args.name.now c.unwrap-number.result found

pub returned-self-inside-requires-clause-indexed : goal.returned-self-inside-requires-clause-indexed
returned-self-inside-requires-clause-indexed c =
    let found : at_name (texts c.self.inside.names.entries) c.args.name.now ≡ Some c.unwrap-number.result = sym c.number_of.ensures ∙ c.unwrap-number.ensures in
    rw c.deref.ensures.value
    (beside_change c.self.inside.files.items c.drop_link.new.files.items c.unwrap-number.result unlinked_inode (named_entry _ c.self.invariant.0 c.args.name.now c.unwrap-number.result found) c.drop_link.ensures c.self.inside.free c.self.inside.low c.self.invariant.1
    (entry_positive c.self.inside.files.items c.self.invariant.0.files c.unwrap-number.result (named_entry _ c.self.invariant.0 c.args.name.now c.unwrap-number.result found))
    (linked_used c.self.inside.files.items c.unwrap-number.result (named_links _ c.self.invariant.0 c.args.name.now c.unwrap-number.result found)))

pub invariant_of-self : goal.invariant_of-self
invariant_of-self c =
    let found : at_name (texts c.self.inside.names.entries) c.args.name.now ≡ Some c.unwrap-number.result = sym c.number_of.ensures ∙ c.unwrap-number.ensures in (
      sound-unlinked c.self.invariant.0 (texts c.remove.new.names.entries) c.drop_link.new.files.items c.unwrap-number.result
          (named_entry _ c.self.invariant.0 c.args.name.now c.unwrap-number.result found)
          c.remove.ensures.in_order (c.remove.ensures.count c.unwrap-number.result found) c.drop_link.ensures,
      rw c.deref.ensures.value at c.returned-self-inside.ensures,
    )

pub returns : goal.returns
returns c =
    let found : at_name (texts c.self.inside.names.entries) c.args.name.now ≡ Some c.unwrap-number.result = sym c.number_of.ensures ∙ c.unwrap-number.ensures in
    disk-unlinked _ (texts c.remove.new.names.entries) c.drop_link.new.files.items c.args.name.now c.remove.ensures.value
    (files-same c.self.inside.files.items c.drop_link.new.files.items c.unwrap-number.result unlinked_inode (λ i. refl) (named_entry _ c.self.invariant.0 c.args.name.now c.unwrap-number.result found) c.drop_link.ensures)
    ∙ ap (λ (h : Held). effect (disk_of h) 0 (Unlink c.args.name.now) Done 0) c.self.view_is
