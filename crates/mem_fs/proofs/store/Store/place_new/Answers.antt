use Rattle.std.proofs.Common.{◌≡◌, ℕ, List, Some, ap, subst, ◌∙◌, arith}
use Rattle.mem_files.specs.declared.file.Inode.{Inode}
use Rattle.call_fs.specs.Maps.{put, put_at}
use Rattle.mem_files.specs.Tables.{at_number}
use Rattle.mem_fs.specs.Tables.{at_name, texts}
use Rattle.call_fs.specs.Placing.{PlacesNew}
use Rattle.mem_fs.specs.MemDisk.{Held, disk_of}
use Rattle.mem_fs.proofs.Uses.{unused_idle}
use Rattle.mem_fs.proofs.Steps.{sound-placed, disk-placed}
use Rattle.mem_fs.proofs.Indexed.{with_put}
use Rattle.mem_fs.proofs.store.Store.place_new.Goals as goal

pub taken-self-inside-requires : goal.taken-self-inside-requires
taken-self-inside-requires c =
    rw c.deref.ensures.value
    (with_put c.self.inside.files.items c.insert-2.new.entries.items c.in-Some.number (record { links = 1; opens = 0; file = c.args.file })
    (rw (← c.in_ok-reserve.ensures.items) c.insert-2.ensures.value) c.self.inside.free c.self.inside.low c.self.invariant.1 (λ none. absurd (omega (arith, none.0))))

pub invariant_of-self-2 : goal.invariant_of-self-2
invariant_of-self-2 c =
    let free = rw (← c.self.view_is) at c.in-Some.ensures.some in (
      sound-placed c.self.invariant.0 (texts c.insert.new.names.entries) c.insert-2.new.entries.items c.in-Some.number c.args.file
          (unused_idle _ c.self.invariant.0 c.in-Some.number free.free.1)
          c.insert.ensures.in_order c.in_ok-insert.ensures.count
          c.insert-2.ensures.in_order (rw (← c.in_ok-reserve.ensures.items) c.insert-2.ensures.value),
      rw c.deref.ensures.value at c.taken-self-inside.ensures,
    )

pub returns-clause-ok : goal.returns-clause-ok
returns-clause-ok c =
    let free = rw (← c.self.view_is) at c.in-Some.ensures.some in
    let named : at_name (texts c.insert.new.names.entries) ≡ put_at (at_name (texts c.self.inside.names.entries)) c.args.name.now (Some c.in-Some.number) =
    c.in_ok-insert.ensures.value ∙ ap (λ (x : List ℕ). put_at (at_name (texts c.self.inside.names.entries)) x (Some c.in-Some.number)) c.in_ok-name.ensures.items in
    let made = c.insert-2.ensures.value ∙ ap (λ (es : List (ℕ × Inode)). put (at_number es) c.in-Some.number (Some (record { links = 1; opens = 0; file = c.args.file }))) c.in_ok-reserve.ensures.items in
    subst (λ (h : Held). PlacesNew (disk_of h) c.args.name.now c.args.file (disk_of (record { dirs = c.self.inside.dirs.items; names = texts c.insert.new.names.entries; files = c.insert-2.new.entries.items; opens = c.self.inside.opens.items }))) c.self.view_is
    (disk-placed _ (texts c.insert.new.names.entries) c.insert-2.new.entries.items c.args.name.now c.in-Some.number c.args.file named made free)
