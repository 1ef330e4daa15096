use Rattle.settle_law.proofs.PreprocessedKnown.{preprocessed_are_known}
use Rattle.settle_law.proofs.steps.preprocessed_are_known.Goals as goal

pub returns : goal.returns
returns c = preprocessed_are_known
