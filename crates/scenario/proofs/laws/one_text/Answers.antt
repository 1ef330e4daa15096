use Rattle.scenario.proofs.OneText.{one_text, begins_prefix, one_list}
use Rattle.scenario.proofs.laws.one_text.Goals as goal

pub returns-clause-one : goal.returns-clause-one
returns-clause-one c = one_text

pub returns-clause-prefix : goal.returns-clause-prefix
returns-clause-prefix c = begins_prefix

pub returns-clause-deeds : goal.returns-clause-deeds
returns-clause-deeds c = one_list
