use Rattle.std.proofs.Common.{◌+◌, List, ℕ, cond, nat_eq, ap, sym, ◌∙◌}
use Rattle.mem_fs.specs.MemDisk.{names_of}
use Rattle.mem_fs.specs.Tables.{at_name, texts}
use Rattle.mem_fs.proofs.NameTable.{removed, in_order-texts, name-remove, count-remove}
use Rattle.mem_fs.proofs.names.remove.Goals as goal

pub returns-clause-in_order : goal.returns-clause-in_order
returns-clause-in_order c = in_order-texts c.remove.new.self.entries c.remove.ensures.ordered

pub returns-clause-value : goal.returns-clause-value
returns-clause-value c =
    ap (λ (es : List (List ℕ × ℕ)). at_name es) (removed c.args.names.now.entries c.remove.new.self.entries c.args.name.now c.remove.ensures.entries)
    ∙ name-remove (texts c.args.names.now.entries) c.requires.in_order c.args.name.now

pub returns-clause-count : goal.returns-clause-count
returns-clause-count c = λ number found n.
    count-remove (texts c.args.names.now.entries) c.args.name.now number found n
    ∙ ap (λ (es : List (List ℕ × ℕ)). names_of es n + cond (nat_eq number n) 1 0) (sym (removed c.args.names.now.entries c.remove.new.self.entries c.args.name.now c.remove.ensures.entries))
