use Rattle.program_law.proofs.Post.Plains.{requests_are_plain}
use Rattle.program_law.proofs.posts.requests_are_plain.Goals as goal

pub returns : goal.returns
returns c = requests_are_plain
