use Rattle.test_worlds.proofs.Mails.{mail_put}
use Rattle.test_worlds.proofs.tests.threads.beginning.add_mail.Goals as goal

pub returns-in-Ok-start_mail : goal.returns-in-Ok-start_mail
returns-in-Ok-start_mail g c =
    let pushed = rw c.unwrap.ensures at c.push.ensures.items in
    mail_put c.args.world.now c.start_mail.new.self _ _ _ c.args.name.now c.copy.result _ _ c.in-Ok-start_mail.ensures.started c.reserve.ensures.items c.copy.ensures pushed c.requires
