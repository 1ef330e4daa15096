use Rattle.std.proofs.Common.{List, ℕ, ap, ◌∙◌}
use Rattle.mem_fs.specs.MemDisk.{names_of}
use Rattle.mem_fs.specs.Tables.{at_name, texts}
use Rattle.mem_fs.proofs.NameTable.{inserted, in_order-texts, name-insert, count-insert}
use Rattle.mem_fs.proofs.names.insert.Goals as goal

pub returns-in_err-insert-clause-in_order : goal.returns-in_err-insert-clause-in_order
returns-in_err-insert-clause-in_order c = in_order-texts c.insert.new.self.entries c.insert.ensures.ordered

pub returns-clause-in_order : goal.returns-clause-in_order
returns-clause-in_order c = in_order-texts c.insert.new.self.entries c.insert.ensures.ordered

pub returns-clause-value : goal.returns-clause-value
returns-clause-value c =
    ap (λ (es : List (List ℕ × ℕ)). at_name es) (inserted c.args.names.now.entries c.insert.new.self.entries c.args.name c.args.number c.in_ok-insert.ensures.entries)
    ∙ name-insert (texts c.args.names.now.entries) c.args.name.items c.args.number

pub returns-clause-count : goal.returns-clause-count
returns-clause-count c = λ n.
    ap (λ (es : List (List ℕ × ℕ)). names_of es n) (inserted c.args.names.now.entries c.insert.new.self.entries c.args.name c.args.number c.in_ok-insert.ensures.entries)
    ∙ count-insert (texts c.args.names.now.entries) (in_order-texts c.args.names.now.entries c.insert.ensures.was_ordered) c.args.name.items c.args.number c.requires n
