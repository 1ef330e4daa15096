use Rattle.queue_clean.specs.Table.{Next}
use Rattle.test_members.proofs.Asked.{is_carried_of}
use Rattle.test_members.proofs.tests.cleaners.run.Goals as goal

pub run_member-requires-clause-new : goal.run_member-requires-clause-new
run_member-requires-clause-new g c = (tt, c.new-cleaner.ensures tt)

pub run_member-requires-clause-carried : goal.run_member-requires-clause-carried
run_member-requires-clause-carried g c = λ args past now ready run. is_carried_of (Next args past now ready) (c.asks_for_little.ensures args past now ready)
