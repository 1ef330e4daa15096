use Rattle.test_members.specs.Errands.{row_after}
use Rattle.test_members.proofs.Asked.{is_carried}
use Rattle.test_members.proofs.tests.errands.run.Goals as goal

pub run_member-requires-clause-new : goal.run_member-requires-clause-new
run_member-requires-clause-new g c = (c.args.kind, c.new-errand.ensures)

pub run_member-requires-clause-carried : goal.run_member-requires-clause-carried
run_member-requires-clause-carried g c = λ args past now ready run. is_carried args (row_after past)
