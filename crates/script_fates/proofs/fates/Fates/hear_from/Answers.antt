use Rattle.std.proofs.Common.{rules}
use Rattle.std.proofs.lemmas.Result.{on_ok_weaker}
use Rattle.script_fates.proofs.Quiet.{other_enters}
use Rattle.script_fates.proofs.fates.Fates.hear_from.Goals as goal

pub returns-in-Give-clause-books : goal.returns-in-Give-clause-books
returns-in-Give-clause-books c =
    on_ok_weaker c.give_by.result
    (λ went child past books has stands h. went child past books c.in-Give.field-0 c.in-Give.field-1 c.in-Give.is has stands h)
    c.give_by.ensures.books

pub returns-in_default-clause-books : goal.returns-in_default-clause-books
returns-in_default-clause-books c =
    on_ok_weaker c.go_on.result
    (λ went child past books has stands h.
    other_enters c.args.self.now child past c.args.own.now books has (search rules) (search rules) (search rules) h)
    c.go_on.ensures
