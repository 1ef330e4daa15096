use Rattle.std.proofs.Common.{Some, ap, ◌∙◌}
use Rattle.command_words.proofs.Commands.{none_tells, tells_none}
use Rattle.command_words.proofs.threads.threads_told.Goals as goal

pub returns-in-Err-clause-usage : goal.returns-in-Err-clause-usage
returns-in-Err-clause-usage c = λ is. none_tells _ (c.in-Err.ensures.usage (cc))

pub returns-in-Some-clause-ok : goal.returns-in-Some-clause-ok
returns-in-Some-clause-ok c = c.in-Ok.ensures.ok ∙ ap Some ((c.threads_in-told.ensures c.in-Some.threads).0 c.in-Some.is)

pub returns-in-None-clause-usage : goal.returns-in-None-clause-usage
returns-in-None-clause-usage c = λ is. tells_none _ c.in-Ok.command c.threads_in-told.result c.in-Ok.ensures.ok c.threads_in-told.ensures c.in-None.is
