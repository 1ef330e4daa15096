-- The message that a local delivery took is the one that was entered.
use Rattle.std.specs.Prelude.{◌≡◌, ℕ, List, true, Some}
use Rattle.queue_inject.specs.Texts.{entered}
use Rattle.queue_law.specs.Books.{Injection}
use Rattle.mail_world.specs.History.{State}

-- an accepted injection of this number, whose life lasts, entered this message
pub record IsEntered (s : State) (n : ℕ) (message : List ℕ) : Type 0 where
  pub injection : Injection
  pub lives : s.books.living n ≡ Some injection
  pub accepted : injection.accepted ≡ true
  pub text : message ≡ entered injection.args
