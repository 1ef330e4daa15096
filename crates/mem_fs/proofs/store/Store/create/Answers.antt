use Rattle.std.proofs.Common.{◌≡◌, ℕ, List, Some, None, nat_eq, ap, ◌∙◌, arith}
use Rattle.call_fs.specs.declared.calls.CallData.TheVariants.{CreateExcl}
use Rattle.call_fs.specs.declared.calls.Answer.TheVariants.{Created}
use Rattle.mem_files.specs.declared.file.Inode.{Inode}
use Rattle.call_fs.specs.Apply.{effect}
use Rattle.call_fs.specs.Disk.{Open}
use Rattle.call_fs.specs.Maps.{put, put_at}
use Rattle.mem_files.specs.Tables.{at_number}
use Rattle.mem_fs.specs.Tables.{at_name, texts}
use Rattle.mem_fs.specs.MemDisk.{Held, disk_of}
use Rattle.mem_fs.proofs.Uses.{unused_idle}
use Rattle.mem_fs.proofs.Steps.{sound-created, disk-created}
use Rattle.mem_fs.proofs.Indexed.{with_put}
use Rattle.mem_fs.proofs.store.Store.create.Goals as goal

pub taken-self-inside-requires : goal.taken-self-inside-requires
taken-self-inside-requires c =
    rw c.deref.ensures.value
    (with_put c.self.inside.files.items c.insert-2.new.entries.items c.args.number (record { links = 1; opens = 1; file = c.new.result })
    (rw (← c.in_ok-reserve.ensures.items) c.insert-2.ensures.value) c.self.inside.free c.self.inside.low c.self.invariant.1 (λ none. absurd (omega (arith, none.0))))

pub invariant_of-self-2 : goal.invariant_of-self-2
invariant_of-self-2 c =
    let free = rw (← c.self.view_is) at c.requires.number in
    let closed : at_number c.self.inside.opens.items c.args.fd.0 ≡ None = rw (← c.self.view_is) at c.requires.descriptor.not_open in (
      sound-created c.self.invariant.0 (texts c.insert.new.names.entries) c.insert-2.new.entries.items c.insert-3.new.entries.items c.args.number c.created.result c.new.result
          (unused_idle _ c.self.invariant.0 c.args.number free.1)
          c.insert.ensures.in_order c.in_ok-insert.ensures.count
          c.insert-2.ensures.in_order (rw (← c.in_ok-reserve.ensures.items) c.insert-2.ensures.value)
          c.insert-3.ensures.in_order (λ m. rw (← c.in_ok-reserve-2.ensures.items) (c.insert-3.ensures.count (λ e. nat_eq e.1.number m) (ap (λ (es : List (ℕ × Open)). at_number es c.args.fd.0) c.in_ok-reserve-2.ensures.items ∙ closed)))
          (ap (λ (o : Open). o.number) c.created.ensures),
      rw c.deref.ensures.value at c.taken-self-inside.ensures,
    )

pub returns-clause-ok : goal.returns-clause-ok
returns-clause-ok c =
    let named : at_name (texts c.insert.new.names.entries) ≡ put_at (at_name (texts c.self.inside.names.entries)) c.args.name.now (Some c.args.number) =
    c.in_ok-insert.ensures.value ∙ ap (λ (x : List ℕ). put_at (at_name (texts c.self.inside.names.entries)) x (Some c.args.number)) c.in_ok-name.ensures.items in
    disk-created _ (texts c.insert.new.names.entries) c.insert-2.new.entries.items c.insert-3.new.entries.items c.args.now c.args.name.now c.args.fd c.args.number (record { links = 1; opens = 1; file = c.new.result }) c.created.result
    named
    (c.insert-2.ensures.value ∙ ap (λ (es : List (ℕ × Inode)). put (at_number es) c.args.number (Some (record { links = 1; opens = 1; file = c.new.result }))) c.in_ok-reserve.ensures.items) c.new.ensures
    (c.insert-3.ensures.value ∙ ap (λ (es : List (ℕ × Open)). put (at_number es) c.args.fd.0 (Some c.created.result)) c.in_ok-reserve-2.ensures.items) c.created.ensures
    ∙ ap (λ (h : Held). effect (disk_of h) c.args.now (CreateExcl c.args.name.now) (Created c.args.fd c.args.number) 0) c.self.view_is
