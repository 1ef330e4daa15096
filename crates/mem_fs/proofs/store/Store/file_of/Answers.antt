use Rattle.std.proofs.Common.{◌≡◌, ℕ, List, Some, IsSome, ap, ◌∙◌, sym, subst}
use Rattle.mem_files.specs.declared.file.Inode.{Inode}
use Rattle.mem_files.specs.Tables.{at_number}
use Rattle.mem_fs.specs.Tables.{at_name, texts}
use Rattle.mem_fs.proofs.Uses.{named_entry}
use Rattle.mem_fs.proofs.Steps.{some_copied}
use Rattle.mem_fs.proofs.store.Store.file_of.Goals as goal

pub unwrap-inode-requires : goal.unwrap-inode-requires
unwrap-inode-requires c =
    let found : at_name (texts c.self.inside.names.entries) c.args.name.now ≡ Some c.in_ok-number.number = sym c.in_ok-number.ensures in
    let there = named_entry _ c.self.invariant.0 c.args.name.now c.in_ok-number.number found in
    some_copied c.value_of.result (subst IsSome (ap (λ (es : List (ℕ × Inode)). at_number es c.in_ok-number.number) (sym c.deref.ensures.value) ∙ sym c.value_of.ensures) there)
