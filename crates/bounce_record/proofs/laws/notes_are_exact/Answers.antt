use Rattle.bounce_record.proofs.Naming.{named_heading, heading_named, marked_return, plain_return}
use Rattle.bounce_record.proofs.Softening.{softened_is}
use Rattle.bounce_record.proofs.laws.notes_are_exact.Goals as goal

pub returns : goal.returns
returns c = record {
  softened = softened_is;
  named = λ line address. (heading_named line address, named_heading line address);
  marked = marked_return;
  unmarked = plain_return;
}
