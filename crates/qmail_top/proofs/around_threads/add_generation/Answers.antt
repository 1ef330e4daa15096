use Rattle.std.proofs.Common.{[]}
use Rattle.mail_world.proofs.LivingMails.{generation_starts}
use Rattle.scenario.proofs.GenerationLines.{generation_played}
use Rattle.qmail_top.proofs.around_threads.add_generation.Goals as goal

pub returns-in-Ok-clause-mails : goal.returns-in-Ok-clause-mails
returns-in-Ok-clause-mails c = rw c.in-Ok.ensures.started (generation_starts _ _ _ c.requires)

pub returns-in-Ok-clause-played : goal.returns-in-Ok-clause-played
returns-in-Ok-clause-played c = λ d plan h playing.
    ([], generation_played d c.args.world.now c.start_generation.new.self plan [] h playing c.in-Ok.ensures.started c.in-Ok.ensures.goes_on)
