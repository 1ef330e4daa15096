use Rattle.std.proofs.Common.{◌≡◌}
use Rattle.std.specs.Prelude.{Some}
use Rattle.spawn_protocol.proofs.Cuts.{told_by}
use Rattle.spawn_protocol.proofs.cut.cut_request.Goals as goal

pub returns-in-Some-clause-cut : goal.returns-in-Some-clause-cut
returns-in-Some-clause-cut c =
    let some = c.in-Some.is in
    let is : c.in_ok-cut.field-0 ≡ Some c.in-Some.cut = cc in
    told_by c.args.bytes.now c.loop-at.at c.loop-at.reader c.cut_byte.new.reader c.in_ok-cut.field-0 c.in-Some.cut is c.loop-at-test.true c.loop-at.invariant.cut c.in_ok-cut.ensures
