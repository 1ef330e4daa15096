use Rattle.std.proofs.Common.{None, ◌∙◌, rules, sym}
use Rattle.std.specs.Ordering.{nat_cmp}
use Rattle.std.specs.BTreeMap.{get}
use Rattle.call_runs.proofs.RunCalls.{held_closed, put_from}
use Rattle.call_runs.proofs.running.keep.Goals as goal

pub returns-in-Close-Done : goal.returns-in-Close-Done
returns-in-Close-Done c = let w = c.in-Close-Done in λ q.
    put_from c.args.held.now c.remove.new.self w.fd.0 None c.remove.ensures.updates q
    ∙ sym (held_closed (get nat_cmp c.args.held.now) c.args.call.now c.args.answer.now w.fd (search rules) (search rules) q)
