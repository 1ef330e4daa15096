use Rattle.std.proofs.Common.{codes}
use Rattle.std.specs.List.{count_by}
use Rattle.script_traces.specs.Fates.{was_accepted}
use Rattle.script_traces.proofs.Counts.{line_put, with_same}
use Rattle.script_traces.proofs.sums.put_sum.Goals as goal

pub returns : goal.returns
returns c =
    line_put c.args.text.now.items _ _ _ _ _ _ _ _ (count_by was_accepted c.args.entries.now) c.args.fates.now
    (with_same _ _ (codes "accepted") c.accepted_in.result _ c.in_ok-put_with.ensures c.accepted_in.ensures)
    c.in_ok-put_with-2.ensures
    (with_same _ _ (codes " pending") c.count_of.result _ c.in_ok-put_with-3.ensures c.count_of.ensures)
    (with_same _ _ (codes " delivered") c.count_of-2.result _ c.in_ok-put_with-4.ensures c.count_of-2.ensures)
    (with_same _ _ (codes " noted") c.count_of-3.result _ c.in_ok-put_with-5.ensures c.count_of-3.ensures)
    (with_same _ _ (codes " bounced") c.count_of-4.result _ c.in_ok-put_with-6.ensures c.count_of-4.ensures)
    (with_same _ _ (codes " dropped") c.count_of-5.result _ c.in_ok-put_with-7.ensures c.count_of-5.ensures)
    c.in_ok-push.ensures.items
