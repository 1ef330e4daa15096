use Rattle.std.proofs.Common.{◌≡◌, ◌<◌, length, sym, subst, ◌∙◌, arith}
use Rattle.std.proofs.lemmas.Bool.{false≢true}
use Rattle.std.proofs.lemmas.Result.{err_from_is_err_and}
use Rattle.local_spawn.specs.Assign.{IsFile}
use Rattle.local_spawn.proofs.FileLemmas.{added, begins, dot_comes, no_dot, refused}
use Rattle.local_spawn.proofs.assign.Assign.read.Goals as goal

pub loop-rest-init : goal.loop-rest-init
loop-rest-init c = begins c.args.bytes.now c.new-lines.result.items c.new-lines.ensures.items

pub returns-then-is_dot-clause-ok : goal.returns-then-is_dot-clause-ok
returns-then-is_dot-clause-ok c =
    let some : 0 < length c.loop-rest.rest.now = grind arith in
    subst (IsFile c.args.bytes.now) (sym c.from_vec.ensures)
    (dot_comes c.args.bytes.now c.loop-rest.lines.items c.loop-rest.rest.now c.cut_line.result.0.now c.cut_line.result.1.now c.loop-rest.invariant some c.cut_line.ensures.line (c.is_dot.ensures.0 c.if-is_dot.true))

pub returns-in_err-add_line-clause-err : goal.returns-in_err-add_line-clause-err
returns-in_err-add_line-clause-err c =
    let some : 0 < length c.loop-rest.rest.now = grind arith in
    let p = err_from_is_err_and c.from_residual.result c.from_residual.ensures.1 in
    rw (p.1, p.2)
    (refused c.args.bytes.now c.loop-rest.lines.items c.loop-rest.rest.now c.cut_line.result.0.now c.cut_line.result.1.now c.in_err-add_line.field-0.0 c.loop-rest.invariant some c.cut_line.ensures.line
    (λ same. false≢true (sym c.if-is_dot.false ∙ c.is_dot.ensures.1 same)) c.in_err-add_line.ensures.err)

pub loop-rest-preserved : goal.loop-rest-preserved
loop-rest-preserved c =
    let some : 0 < length c.loop-rest.rest.now = grind arith in
    added c.args.bytes.now c.loop-rest.lines.items c.add_line.new.lines.items c.loop-rest.rest.now c.cut_line.result.0.now c.cut_line.result.1.now c.loop-rest.invariant some c.cut_line.ensures.line
    c.in_ok-add_line.ensures.ok

pub returns-clause-err : goal.returns-clause-err
returns-clause-err c =
    let none : length c.loop-rest.rest.now ≡ 0 = grind arith in
    no_dot c.args.bytes.now c.loop-rest.lines.items c.loop-rest.rest.now c.loop-rest.invariant none
