use Rattle.std.proofs.Common.{◌∙◌, ◌≤◌, arith, refl, rules, subst}
use Rattle.call_fs.specs.Columns.{IsAnswerTo}
use Rattle.call_runs.proofs.RunCalls.{count_within, on_err, performs}
use Rattle.call_runs.proofs.running.make.Goals as goal

pub bytes_read-requires : goal.bytes_read-requires
bytes_read-requires g c = λ n is.
    let kind = subst (λ x. IsAnswerTo c.args.call.now x) is (rw c.lend.ensures at c.perform-answer.ensures.kind) in
    let within : n ≤ 8192 = count_within c.args.call.now n kind c.requires.piece in first_of (omega (arith, within), search (rules, within), grind (arith, within))

-- Both ends are one record of the clauses of `perform`, in which the bytes of a read stand at the beginning of the buffer:
-- `performs` makes it of them. `lend` says that the call is the same, so each clause is rewritten by that.
pub returns-clause-made : goal.returns-clause-made
returns-clause-made g c = let e = c.perform-answer.ensures in
    performs g.D.CallFs.disk g.D.CallFs.calls g.D.CallFs.plan g.D.CallFs.faults _ _ _ _ c.args.call.now _ _ _ _ c.lend.ensures c.in_ok-answer.ensures (c.in_ok-bytes.ensures ∙ c.bytes_read.ensures)
    (record { told = e.told; recorded = e.recorded; read = e.read; kind = e.kind; moment = e.moment; number = e.number; plan = e.plan; cause = e.cause })

pub returns-in_err-bytes-clause-err : goal.returns-in_err-bytes-clause-err
returns-in_err-bytes-clause-err g c = let e = c.perform-answer.ensures in on_err c.from_residual.result (
  _,
  performs g.D.CallFs.disk g.D.CallFs.calls g.D.CallFs.plan g.D.CallFs.faults _ _ _ _ c.args.call.now _ _ _ _ c.lend.ensures refl refl
      (record { told = e.told; recorded = e.recorded; read = e.read; kind = e.kind; moment = e.moment; number = e.number; plan = e.plan; cause = e.cause }),
)

pub returns-in_err-answer-clause-err : goal.returns-in_err-answer-clause-err
returns-in_err-answer-clause-err g c = let e = c.perform-answer.ensures in on_err c.from_residual-in_err-answer.result (
  _,
  performs g.D.CallFs.disk g.D.CallFs.calls g.D.CallFs.plan g.D.CallFs.faults _ _ _ _ c.args.call.now _ _ _ _ c.lend.ensures refl refl
      (record { told = e.told; recorded = e.recorded; read = e.read; kind = e.kind; moment = e.moment; number = e.number; plan = e.plan; cause = e.cause }),
)
