use Rattle.dot_qmail.proofs.Places.{first_is, all_missing}
use Rattle.dot_qmail.proofs.laws.the_first_is_taken.Goals as goal

pub returns : goal.returns
returns c = record { found = first_is; none = all_missing }
