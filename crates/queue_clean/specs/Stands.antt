-- Which cleaner stands for which past, that it doesn't store.
use Rattle.std.specs.Prelude.{◌≡◌, ℕ, ◌%◌, List, [], ◌++◌, length, take, All, flat_map}
use Rattle.call_fs.specs.declared.past.Own.{Own}
use Rattle.queue_clean.specs.declared.row.Row.TheVariants as at
use Rattle.queue_clean.specs.Commands.{ended}
use Rattle.mail_bytes.specs.Texts.{HasNoNul}
use Rattle.queue_clean.specs.Table.{Place, place_after}
use Rattle.queue_clean.specs.Machine.{Intake, Machine}
use Rattle.queue_clean.specs.declared.command.TheConstants.{MOST_COMMAND}
use Rattle.queue_clean.specs.declared.intake.TheConstants.{ROUND}

-- All that was taken is the commands that were taken up, each with its NUL; then what was read of the next one, of which
-- the first bytes are kept; then what wasn't read yet.
pub record Hears (i : Intake) (taken : List ℕ) (begun : ℕ) : Type 0 where
  pub before : List (List ℕ)
  pub read : List ℕ
  pub taken_is : taken ≡ flat_map ended before ++ (read ++ i.pending)
  pub count : length before ≡ begun
  pub each : All HasNoNul before
  pub plain : HasNoNul read
  pub word_is : i.word ≡ take MOST_COMMAND read
  pub turn_is : i.turn ≡ begun % ROUND

-- the cleaner stands where the table does, and takes more only once all that it took was read
pub record StandsAt (m : Machine) (p : Place) : Type 0 where
  pub row : m.row ≡ p.row
  pub name : m.name ≡ p.name
  pub hears : Hears m.intake p.taken p.begun
  pub idle : m.row ≡ at.TakeInput → m.intake.pending ≡ []

-- the cleaner stands for this past, newest event first
abbrev pub Stands : Machine → Unit {0} → List Own → Type 0
Stands m args past = StandsAt m (place_after past)
