-- What a world keeps.
use Rattle.std.specs.Prelude.{ℕ, List, Option, reverse}
use Rattle.call_fs.specs.Disk.{Disk}
use Rattle.world_events.specs.declared.books.Books.{Books}
use Rattle.world_events.specs.declared.event.History.{History}
use Rattle.world_events.specs.declared.starts.Starts.{Starts}
use Rattle.world_pipes.specs.declared.mouths.Mouths.{Mouths}
use Rattle.mail_world.specs.declared.actor.Actor.{Actor as Held}
use Rattle.mail_world.specs.Books.{AreBooked, entries_of}
use Rattle.mail_world.specs.Generations.{starts_of}
use Rattle.mail_world.specs.Inside.{IsWorld, ArePiped, among_all, known, living}
use Rattle.mail_world.specs.Kept.{HasRoom}
use Rattle.mail_world.specs.Starts.{AreStarts}
use Rattle.mail_world.specs.World.{Counts}

-- By its disk, if that tells; how many members there are, and where each other actor stands after them; the actors; the history; the present
-- moment; the next process number; how many bounces were injected and deliveries started; the pipes; the books; and the order of starts.
pub record IsWhole (disk : Option Disk) (crew : ℕ) (places : List ℕ → Option ℕ) (actors : List Held) (history : History) (present next : ℕ) (counts : Counts) (mouths : List Mouths) (books : Books) (starts : Starts) : Type 0 where
  -- the actors are those that the events tell, in the state that these tell, over this disk
  pub world : IsWorld disk (among_all crew places) actors (known history.events.items) history.events.items present next counts
  -- there is room for the stop of each living actor
  pub room : HasRoom history (living actors)
  -- the books have an entry for each injector, by the events
  pub booked : AreBooked crew (entries_of books) actors history.events.items
  -- what lies in the pipes is what the events tell
  pub piped : ArePiped crew mouths actors (known history.events.items) history.events.items
  -- who started is kept in order
  pub started : AreStarts starts crew places (starts_of (reverse history.events.items))
