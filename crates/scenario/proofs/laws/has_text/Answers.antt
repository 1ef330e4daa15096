use Rattle.scenario.proofs.WholePlays.{has_text, has_whole}
use Rattle.scenario.proofs.laws.has_text.Goals as goal

pub returns-clause-text : goal.returns-clause-text
returns-clause-text c = has_text

pub returns-clause-whole : goal.returns-clause-whole
returns-clause-whole c = has_whole
