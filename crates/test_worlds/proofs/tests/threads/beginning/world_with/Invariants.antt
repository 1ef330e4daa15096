use Rattle.mail_world.specs.LivingMails.{AreLivingMails}
use Rattle.test_worlds.proofs.tests.threads.beginning.world_with.Given as goal

abbrev pub invariant-loop-at : goal.invariant-loop-at
invariant-loop-at g l = AreLivingMails l.world.events l.mails.items
