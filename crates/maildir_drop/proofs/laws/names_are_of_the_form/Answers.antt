use Rattle.maildir_drop.proofs.Forms.{name_decides}
use Rattle.maildir_drop.proofs.laws.names_are_of_the_form.Goals as goal

pub returns : goal.returns
returns c = name_decides
