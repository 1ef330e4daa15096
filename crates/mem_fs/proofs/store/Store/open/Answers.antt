use Rattle.std.proofs.Common.{◌≡◌, ℕ, List, Some, None, nat_eq, ap, refl, sym, ◌∙◌, arith, inr}
use Rattle.call_fs.specs.declared.calls.CallData.TheVariants.{Open}
use Rattle.call_fs.specs.declared.calls.Answer.TheVariants.{Opened}
use Rattle.call_fs.specs.Disk.{Open as OpenFile}
use Rattle.call_fs.specs.Apply.{effect}
use Rattle.call_fs.specs.Maps.{put}
use Rattle.mem_files.specs.Tables.{at_number}
use Rattle.mem_fs.specs.Tables.{at_name, texts}
use Rattle.mem_files.specs.MemFiles.{opened_inode}
use Rattle.mem_fs.specs.MemDisk.{Held, disk_of}
use Rattle.mem_fs.proofs.Uses.{named_entry, named_links}
use Rattle.mem_fs.proofs.Steps.{sound-opened, files-same, disk-opened}
use Rattle.mem_fs.proofs.Indexed.{linked_used, used_change}
use Rattle.mem_fs.proofs.store.Store.open.Goals as goal

pub add_open-requires-clause-there : goal.add_open-requires-clause-there
add_open-requires-clause-there c =
    let found : at_name (texts c.self.inside.names.entries) c.args.name.now ≡ Some c.unwrap-number.result = sym c.number_of.ensures ∙ c.unwrap-number.ensures in
    named_entry _ c.self.invariant.0 c.args.name.now c.unwrap-number.result found

pub invariant_of-self-2 : goal.invariant_of-self-2
invariant_of-self-2 c =
    let found : at_name (texts c.self.inside.names.entries) c.args.name.now ≡ Some c.unwrap-number.result = sym c.number_of.ensures ∙ c.unwrap-number.ensures in
    let closed : at_number c.self.inside.opens.items c.args.fd.0 ≡ None = rw (← c.self.view_is) at c.requires.descriptor.not_open in (
      sound-opened c.self.invariant.0 c.add_open.new.files.items c.insert.new.entries.items c.unwrap-number.result c.opened.result
          (named_entry _ c.self.invariant.0 c.args.name.now c.unwrap-number.result found)
          c.insert.ensures.in_order (λ m. rw (← c.in_ok-reserve.ensures.items) (c.insert.ensures.count (λ e. nat_eq e.1.number m) (ap (λ (es : List (ℕ × OpenFile)). at_number es c.args.fd.0) c.in_ok-reserve.ensures.items ∙ closed)))
          (ap (λ (o : OpenFile). o.number) c.opened.ensures) c.add_open.ensures,
      used_change c.self.inside.files.items c.add_open.new.files.items c.unwrap-number.result opened_inode (named_entry _ c.self.invariant.0 c.args.name.now c.unwrap-number.result found) c.add_open.ensures
          c.self.inside.free c.self.inside.low c.self.invariant.1
          (linked_used c.self.inside.files.items c.unwrap-number.result (named_links _ c.self.invariant.0 c.args.name.now c.unwrap-number.result found)) (λ i. inr (omega arith, omega arith)),
    )

pub returns-clause-ok : goal.returns-clause-ok
returns-clause-ok c =
    let found : at_name (texts c.self.inside.names.entries) c.args.name.now ≡ Some c.unwrap-number.result = sym c.number_of.ensures ∙ c.unwrap-number.ensures in
    disk-opened _ c.add_open.new.files.items c.insert.new.entries.items c.args.name.now c.args.how c.args.fd c.unwrap-number.result c.opened.result
    found
    (files-same c.self.inside.files.items c.add_open.new.files.items c.unwrap-number.result opened_inode (λ i. refl) (named_entry _ c.self.invariant.0 c.args.name.now c.unwrap-number.result found) c.add_open.ensures)
    (c.insert.ensures.value ∙ ap (λ (es : List (ℕ × OpenFile)). put (at_number es) c.args.fd.0 (Some c.opened.result)) c.in_ok-reserve.ensures.items) c.opened.ensures
    ∙ ap (λ (h : Held). effect (disk_of h) 0 (Open c.args.name.now c.args.how) (Opened c.args.fd) 0) c.self.view_is
