use Rattle.local_deliver.proofs.Whole.{are_whole}
use Rattle.local_deliver.proofs.laws.links_are_of_whole_files.Goals as goal

pub returns : goal.returns
returns c = λ args past run. are_whole args past run
