use Rattle.actor_names.proofs.Children.{no_mail, no_member}
use Rattle.actor_names.proofs.laws.child_names_are_their_own.Goals as goal

pub returns-clause-mails : goal.returns-clause-mails
returns-clause-mails c = λ a n is. (no_mail 98 n a is, no_mail 108 n a is, no_mail 102 n a is)

pub returns-clause-members : goal.returns-clause-members
returns-clause-members c = λ n. (no_member 98 n, no_member 108 n, no_member 102 n)
