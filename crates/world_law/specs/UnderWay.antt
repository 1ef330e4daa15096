-- The commands of a sender that are under way at its cleaner, and what holds of their numbers.
use Rattle.std.specs.Prelude.{◌≡◌, ◌⊎◌, ℕ, List, true, Some, codes}
use Rattle.call_fs.specs.Disk.{Among, Disk}
use Rattle.queue_clean.specs.declared.command.Command.{Command}
use Rattle.queue_clean.specs.Commands.{message_of, text_of}
use Rattle.queue_law.specs.Cleaners.{Needs}
use Rattle.queue_paths.specs.Names.{path}
use Rattle.queue_paths.specs.Names.Name.{Of}
use Rattle.queue_paths.specs.Names.Part.{Mess}
use Rattle.program_law.specs.Errand.Errands.{Link, waiting, work_at}
use Rattle.mail_world.specs.History.{Event, Legal, State, after}
use Rattle.mail_world.specs.Untouched.{about_in}
use Rattle.world_law.specs.Crew.{link_in, lives_in}
use Rattle.world_law.specs.Standing.{IsInjecting}

-- the cleaner was given the whole command and hasn't taken it up, or is at an unlink of it
abbrev pub IsUnderWay : Link → Command → Type 0
IsUnderWay x command = Among (text_of command) (waiting x) ⊎ (work_at x.place.row ≡ Some command)

-- The number of a command rests: its message is there, no injector is at it that may call still, and all that concerns it is as the command
-- needs.
pub record NumberRests (s : State) (command : Command) : Type 0 where
  pub mess : ℕ
  pub there : s.disk.names (path (Of Mess (message_of command))) ≡ Some mess
  pub left : (a : List ℕ) → IsInjecting s a (message_of command) → ⊥
  pub needs : Needs command (about_in s (message_of command))

-- that of each such command does
abbrev pub EachRests : State → Type 0
EachRests s = (command : Command) → IsUnderWay (link_in s) command → NumberRests s command

-- A command is under way at a living cleaner only if its number rests: no injector is at it that may call still; of `foop/n` nothing of it is
-- wanted; of `todo/n` it is preprocessed except that todo is there, with info and its channel files whole and on the disk.
abbrev pub CommandsRest : Type 0
CommandsRest = (d : Disk) (before : List Event) → Legal d before
    → lives_in ((after d before).actors (codes "clean")) ≡ true → EachRests (after d before)
