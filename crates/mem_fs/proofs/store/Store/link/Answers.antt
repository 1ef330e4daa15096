use Rattle.std.proofs.Common.{◌≡◌, ℕ, List, Some, nat_eq, ap, refl, sym, ◌∙◌, arith, inr}
use Rattle.std.proofs.lemmas.List.Sums.{count_by-le-length}
use Rattle.call_fs.specs.declared.calls.CallData.TheVariants.{Link}
use Rattle.call_fs.specs.declared.calls.Answer.TheVariants.{Done}
use Rattle.call_fs.specs.Apply.{effect}
use Rattle.call_fs.specs.Maps.{put_at}
use Rattle.mem_fs.specs.Tables.{at_name, texts}
use Rattle.mem_files.specs.MemFiles.{linked_inode}
use Rattle.mem_fs.specs.MemDisk.{Held, disk_of}
use Rattle.mem_fs.proofs.Changes.{gain_here}
use Rattle.mem_fs.proofs.Uses.{named_entry, named_links}
use Rattle.mem_fs.proofs.Steps.{sound-linked, files-same, disk-linked}
use Rattle.mem_fs.proofs.Indexed.{linked_used, used_change}
use Rattle.mem_fs.proofs.store.Store.link.Goals as goal

pub add_link-requires-clause-there : goal.add_link-requires-clause-there
add_link-requires-clause-there c =
    let found : at_name (texts c.self.inside.names.entries) c.args.old.now ≡ Some c.unwrap-number.result = sym c.number_of.ensures ∙ c.unwrap-number.ensures in
    named_entry _ c.self.invariant.0 c.args.old.now c.unwrap-number.result found

pub add_link-requires-clause-room : goal.add_link-requires-clause-room
add_link-requires-clause-room c =
    let n = c.unwrap-number.result in
    let count = count_by-le-length (λ e. nat_eq e.1 n) (texts c.insert.new.names.entries) in
    let gained = gain_here (λ (k : ℕ). k) (texts c.self.inside.names.entries) (texts c.insert.new.names.entries) n c.in_ok-insert.ensures.count in
    let links = c.self.invariant.0.links n in
    let small = c.in_ok-insert.ensures.small in
    omega (arith, count, gained, links, small)

pub invariant_of-self-2 : goal.invariant_of-self-2
invariant_of-self-2 c =
    let found : at_name (texts c.self.inside.names.entries) c.args.old.now ≡ Some c.unwrap-number.result = sym c.number_of.ensures ∙ c.unwrap-number.ensures in (
      sound-linked c.self.invariant.0 (texts c.insert.new.names.entries) c.add_link.new.files.items c.unwrap-number.result
          (named_entry _ c.self.invariant.0 c.args.old.now c.unwrap-number.result found)
          c.insert.ensures.in_order c.in_ok-insert.ensures.count c.add_link.ensures,
      used_change c.self.inside.files.items c.add_link.new.files.items c.unwrap-number.result linked_inode (named_entry _ c.self.invariant.0 c.args.old.now c.unwrap-number.result found) c.add_link.ensures
          c.self.inside.free c.self.inside.low c.self.invariant.1
          (linked_used c.self.inside.files.items c.unwrap-number.result (named_links _ c.self.invariant.0 c.args.old.now c.unwrap-number.result found)) (λ i. inr (omega arith, omega arith)),
    )

pub returns-clause-ok : goal.returns-clause-ok
returns-clause-ok c =
    let found : at_name (texts c.self.inside.names.entries) c.args.old.now ≡ Some c.unwrap-number.result = sym c.number_of.ensures ∙ c.unwrap-number.ensures in
    let named : at_name (texts c.insert.new.names.entries) ≡ put_at (at_name (texts c.self.inside.names.entries)) c.args.new.now (Some c.unwrap-number.result) =
    c.in_ok-insert.ensures.value ∙ ap (λ (x : List ℕ). put_at (at_name (texts c.self.inside.names.entries)) x (Some c.unwrap-number.result)) c.in_ok-name.ensures.items in
    disk-linked _ (texts c.insert.new.names.entries) c.add_link.new.files.items c.args.old.now c.args.new.now c.unwrap-number.result found named
    (files-same c.self.inside.files.items c.add_link.new.files.items c.unwrap-number.result linked_inode (λ i. refl) (named_entry _ c.self.invariant.0 c.args.old.now c.unwrap-number.result found) c.add_link.ensures)
    ∙ ap (λ (h : Held). effect (disk_of h) 0 (Link c.args.old.now c.args.new.now) Done 0) c.self.view_is
