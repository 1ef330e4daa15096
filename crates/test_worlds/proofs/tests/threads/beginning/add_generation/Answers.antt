use Rattle.mail_world.proofs.LivingMails.{generation_starts_if}
use Rattle.test_worlds.proofs.tests.threads.beginning.add_generation.Goals as goal

pub returns : goal.returns
returns g c = generation_starts_if c.start_generation.result _ _ _ c.start_generation.ensures.started c.start_generation.ensures.err c.requires
