use Rattle.std.proofs.Common.{None, ◌∙◌}
use Rattle.std.proofs.Math.Nat.{min-eq_left}
use Rattle.script_fates.proofs.Quiet.{goes_on}
use Rattle.script_fates.proofs.fates.go_on.Goals as goal

pub returns : goal.returns
returns c = λ past has stands.
    let looked = c.look.new.self in
    goes_on c.args.sender.now looked c.done.new.self c.clear_log.new.self past c.args.own.now c.min.result _ c.look.ensures.rest (c.min.ensures ∙ min-eq_left has.moment) c.got_of.ensures (c.in_ok-done.ensures.stands None past (c.look.ensures.stands None past stands)) c.clear_log.ensures.rest
