use Rattle.mail_world.proofs.ModelBooks.{books_told}
use Rattle.mail_world.proofs.laws.books_are_the_models.Goals as goal

pub returns : goal.returns
returns c = books_told
