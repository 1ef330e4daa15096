use Rattle.std.proofs.Common.{subst, rules}
use Rattle.std.proofs.lemmas.Result.{on_ok_weaker}
use Rattle.script_fates.specs.Fates.{AreFates}
use Rattle.script_fates.proofs.Takings.{taking_is}
use Rattle.script_fates.proofs.fates.Fates.take_from.Goals as goal

pub returns-clause-books : goal.returns-clause-books
returns-clause-books c =
    on_ok_weaker c.enter.result
    (λ enters child past books takes due stands h.
    let old = c.args.sender.now in
    let new = c.go_on.new.sender in
    subst (AreFates c.enter.new.self)
    (taking_is child past c.args.own.now c.args.channel books old new c.len-before.result c.marks-2.result.now due takes stands (c.in_ok-go_on.ensures past due stands) (search rules) (search rules))
    (enters books h))
    c.enter.ensures
