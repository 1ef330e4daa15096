use Rattle.world_law.proofs.Standing.{links_are_of_whole_files}
use Rattle.world_law.proofs.laws.links_are_of_whole_files.Goals as goal

pub returns : goal.returns
returns c = links_are_of_whole_files
