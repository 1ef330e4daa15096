-- The commands that a sender gives its cleaner, over the queue: which rest, and what the cleaner relies on when it takes one up.
use Rattle.std.specs.Prelude.{◌≡◌, ◌≢◌, ℕ, ◌≤◌, Option, Some}
use Rattle.call_fs.specs.declared.past.NeedData.{NeedData}
use Rattle.call_fs.specs.declared.past.NeedData.TheVariants as needs
use Rattle.call_fs.specs.declared.past.Own.{Own}
use Rattle.queue_clean.specs.declared.command.Command.{Command}
use Rattle.queue_clean.specs.Commands.{message_of}
use Rattle.queue_clean.specs.Table.{due_by, moved}
use Rattle.program_law.specs.Errand.Errands.{Link, Errand, IsOffered}
use Rattle.program_law.specs.Errand.Errands.Awaits.{Nothing}
use Rattle.queue_law.specs.Numbers.{Queue}
use Rattle.queue_law.specs.Rests.{RestsAs, Spares}
use Rattle.queue_law.specs.Cleaners.{Needs, CleanerStands, IsBeside}

-- the number of a command rests as the command needs
abbrev pub RestsFor : ℕ → Queue → Command → Type 0
RestsFor now q command = RestsAs now q (message_of command) (Needs command)

-- so does that of the one that waits, if one does
abbrev pub WaitsAtRest : ℕ → Queue → Option Command → Type 0
WaitsAtRest now q waits = (command : Command) → waits ≡ Some command → RestsFor now q command

abbrev pub IsNoCall : NeedData → Type 0
IsNoCall (needs.File call) = ⊥
IsNoCall due = Unit {0}

-- The laws

pub record CleanersGoOn : Type 0 where
  -- a taking and a giving of a cleaner lead to a row at which it has what it relies on
  pub goes_on : (now : ℕ) (q : Queue) (waits : Option Command) (x : Link) (event : Own) → Errand waits x
      → WaitsAtRest now q waits → event.due ≡ due_by x.place event.read → IsNoCall event.due → IsOffered x.given event.due event.came
      → CleanerStands now q (moved x.place event)
  -- while the sender waits for nothing, the cleaner is at work at no number, and takes up none
  pub beside : (waits : Option Command) (x : Link) → Errand waits x → x.awaits ≡ Nothing → (m : Option ℕ) → IsBeside m x.place

-- A command that waits rests on, as time goes on and by what others do.
pub record WaitingRestsOn : Type 0 where
  pub later : (now m : ℕ) → now ≤ m → (q : Queue) (command : Command) → RestsFor now q command → RestsFor m q command
  pub spared : (now : ℕ) (m : Option ℕ) (q r : Queue) → Spares now m q r → (command : Command) → m ≢ Some (message_of command)
      → RestsFor now q command → RestsFor now r command
