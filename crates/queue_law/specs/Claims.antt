-- What a sound queue is safe by: the states of its numbers, and its messages. That each recipient is accounted for stands in Accounts.antt.
use Rattle.std.specs.Prelude.{◌≡◌, ℕ, true, Some, None}
use Rattle.call_fs.specs.Disk.{IsSynced}
use Rattle.queue_inject.specs.Texts.{entered}
use Rattle.queue_paths.specs.Names.Name.{Of}
use Rattle.queue_paths.specs.Names.Part.{Mess, Info, Bounce}
use Rattle.queue_paths.specs.Parts.{in_intd, in_todo}
use Rattle.queue_law.specs.Books.{Injection, IsInjected, IsValid}
use Rattle.queue_law.specs.Numbers.{Entry, Queue, look, About, about, IsUnsorted, Sound}

-- The five states of a number, by which of its names are there (INTERNALS, "Queue structure"). In the fourth, which is queued, intd, info
-- and the channel files may be there or not; in the fifth, which is preprocessed, the channel files and the bounce file.
pub data InState (w : About) : Type 0 where
  First : w.parts Mess ≡ None → in_intd w.parts ≡ None → in_todo w.parts ≡ None → IsUnsorted w → InState w
  Second : (mess : Entry) → w.parts Mess ≡ Some mess → in_intd w.parts ≡ None → in_todo w.parts ≡ None → IsUnsorted w → InState w
  Third : (mess intd : Entry) → w.parts Mess ≡ Some mess → in_intd w.parts ≡ Some intd → in_todo w.parts ≡ None → IsUnsorted w → InState w
  Fourth : (mess todo : Entry) → w.parts Mess ≡ Some mess → in_todo w.parts ≡ Some todo → w.parts Bounce ≡ None → InState w
  Fifth : (mess info : Entry) → w.parts Mess ≡ Some mess → in_intd w.parts ≡ None → in_todo w.parts ≡ None → w.parts Info ≡ Some info → InState w

pub record IsSafe (q : Queue) : Type 0 where
  -- each number is in one of the five states
  pub states : (n : ℕ) → InState (about q n)
  -- the name of a message is the file of its own number
  pub numbers : (n : ℕ) (y : Entry) → look q (Of Mess n) ≡ Some y → y.number ≡ n
  -- while the life of an accepted injection lasts and its message is there, the message reads as entered, and all of it is on the disk
  pub messages : (i : Injection) (y : Entry) → q.books.living i.number ≡ Some i → i.accepted ≡ true → look q (Of Mess i.number) ≡ Some y
      → IsSynced y.file (entered i.args)
  -- what was accepted is valid
  pub valid : (i : Injection) → IsInjected q.books i → i.accepted ≡ true → IsValid i.args

abbrev pub SoundIsSafe : Type 0
SoundIsSafe = (q : Queue) → Sound q → IsSafe q
