use Rattle.std.proofs.Common.{◌<◌, ℕ, List, length, subst, arith}
use Rattle.std.specs.List.{All}
use Rattle.std.proofs.lemmas.List.{take_all}
use Rattle.std.proofs.lemmas.List.Elements.{All-more}
use Rattle.mem_files.specs.declared.file.Inode.{Inode}
use Rattle.mem_files.specs.MemFile.{IsSurvivor}
use Rattle.mem_files.specs.MemHalt.{seed_of, settled_entries}
use Rattle.mem_files.proofs.Halts.{entries-more}
use Rattle.mem_files.proofs.halt.settled_entries.Goals as goal

pub loop-entry-preserved : goal.loop-entry-preserved
loop-entry-preserved c =
    let files = c.args.files.now in
    let i = c.loop-entry.entry-index in
    let e = c.entry-item.result in
    let within : i < length files = c.loop-entry-test.true in
    let made = c.in_ok-inode.ensures.value in (
      rw c.in_ok-push.ensures.items
          (entries-more c.args.how c.loop-entry.next c.in_ok-inode.following files c.loop-entry.settled.items (settled_entries c.args.how (seed_of c.args.how) files) i e c.in_ok-inode.inode within c.entry-item.is made.0 made.1 c.loop-entry.invariant.0),
      c.in_ok-inode.ensures.small,
      All-more (λ (e : ℕ × Inode). IsSurvivor e.1.file) files i e within c.loop-entry.invariant.2 (subst (λ (x : ℕ × Inode). IsSurvivor x.1.file) c.entry-item.is c.settled_entry.ensures.survivor),
    )

pub returns-clause-survivors : goal.returns-clause-survivors
returns-clause-survivors c =
    let files = c.args.files.now in
    subst (λ (es : List (ℕ × Inode)). All (λ (e : ℕ × Inode). IsSurvivor e.1.file) es) (take_all c.loop-entry.entry-index files (omega arith)) c.loop-entry.invariant.2
