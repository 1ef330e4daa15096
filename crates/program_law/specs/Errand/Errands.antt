-- Errands: what a sender asks of its cleaner, from the command that it gives to the answer that it takes (qmail-send(8), qmail-clean(8)).
use Rattle.std.specs.Prelude.{◌≡◌, ◌⊎◌, ℕ, ◌+◌, ◌≤◌, List, [], ◌∷◌, ◌++◌, length, take, drop, Option, Some, None, flat_map}
use Rattle.call_fs.specs.declared.program.Port.TheVariants.{Input, Output}
use Rattle.call_fs.specs.declared.past.NeedData.{NeedData}
use Rattle.call_fs.specs.declared.past.NeedData.TheVariants.{Take, Give}
use Rattle.call_fs.specs.declared.past.GotData.{GotData}
use Rattle.call_fs.specs.declared.past.GotData.TheVariants.{Took, Gave, Failed}
use Rattle.call_fs.specs.declared.past.Own.{Own}
use Rattle.queue_clean.specs.declared.command.Command.{Command}
use Rattle.queue_clean.specs.declared.row.Reply.TheVariants.{Removed}
use Rattle.queue_clean.specs.declared.row.Row.{Row}
use Rattle.queue_clean.specs.declared.row.Row.TheVariants as at
use Rattle.queue_clean.specs.Commands.{text_of, commands, ended}
use Rattle.queue_clean.specs.Table.{Place, start, moved}

-- What a sender waits for: nothing; the answer to this command; or it gives and takes nothing more, since it has lost the cleaner,
-- has ended, or was stopped.
pub data Awaits : Type 0 where
  Nothing : Awaits
  Answer : (command : Command) → Awaits
  Over : Awaits

-- Both sides and the two pipes between them: what the sender waits for; where the cleaner stands; what lies in the pipe to the
-- cleaner; and what lies in the pipe from it.
pub record Link : Type 0 where
  pub awaits : Awaits
  pub place : Place
  pub given : List ℕ
  pub answers : List ℕ

-- What is under way

-- all that the cleaner was given: what it took, and what it may take still
abbrev pub heard : Link → List ℕ
heard x = x.place.taken ++ x.given

-- the texts of commands that were given whole, and that the cleaner hasn't taken up
abbrev pub waiting : Link → List (List ℕ)
waiting x = drop x.place.begun (commands (heard x))

-- the command at work at a row, as far as the row tells, and how many there are, which is one at most
abbrev pub work_at : Row → Option Command
work_at (at.UnlinkIntd command) = Some command
work_at (at.UnlinkSecond command) = Some command
work_at row = None

abbrev pub at_work : Row → ℕ
at_work (at.UnlinkIntd command) = 1
at_work (at.UnlinkSecond command) = 1
at_work (at.Answer reply) = 1
at_work row = 0

-- how many commands there may be to which the sender took no answer
abbrev pub most : Awaits → ℕ
most Nothing = 0
most (Answer command) = 1
most Over = 1

-- What holds of it

-- the text of a command that waits, if one does, and how many there are
abbrev pub texts_of : Option Command → List (List ℕ)
texts_of None = []
texts_of (Some command) = text_of command ∷ []

abbrev pub count : Option Command → ℕ
count None = 0
count (Some command) = 1

-- only whole commands were given, unless the sender gives no more
abbrev pub GivesWhole : Awaits → List ℕ → Type 0
GivesWhole Over bytes = Unit {0}
GivesWhole other bytes = bytes ≡ flat_map ended (commands bytes)

-- all that waits or is at work is this command
pub record IsOf (command : Command) (waits : Option Command) (row : Row) : Type 0 where
  pub waiting_is : (other : Command) → waits ≡ Some other → other ≡ command
  pub working_is : (other : Command) → work_at row ≡ Some other → other ≡ command

-- What holds between a sender and its cleaner, of which at most this command waits.
pub record Errand (waits : Option Command) (x : Link) : Type 0 where
  pub texts : waiting x ≡ texts_of waits
  -- it took up none that it didn't take
  pub taken_up : x.place.begun ≤ length (commands x.place.taken)
  -- commands that wait, are at work or were answered are at most what the sender waits for
  pub one : count waits + (at_work x.place.row + length x.answers) ≤ most x.awaits
  pub whole : GivesWhole x.awaits (heard x)
  -- while the sender waits for the answer to a command, all that is under way is that command or its answer
  pub errand : (command : Command) → x.awaits ≡ Answer command → IsOf command waits x.place.row

-- `+` was given, or is due
abbrev pub SaysWell : Link → Type 0
SaysWell x = (x.place.row ≡ at.Answer Removed) ⊎ (x.answers ≡ 43 ∷ [])

-- What happens to it

-- a generation begins: nothing was given
abbrev pub fresh : Link
fresh = record { awaits = Nothing; place = start; given = []; answers = [] }

-- the sender gives a command, with its NUL
abbrev pub asks : Command → Link → Link
asks command x = record { awaits = Answer command; place = x.place; given = x.given ++ ended (text_of command); answers = x.answers }

-- or so many bytes of it, after which it gives no more
abbrev pub asks_in_part : Command → ℕ → Link → Link
asks_in_part command wrote x =
    record { awaits = Over; place = x.place; given = x.given ++ take wrote (ended (text_of command)); answers = x.answers }

-- the sender takes an answer, of which these bytes are left
abbrev pub takes_up : List ℕ → Link → Link
takes_up rest x = record { awaits = Nothing; place = x.place; given = x.given; answers = rest }

-- the sender is lost: it ended, or was stopped, or the link to the cleaner failed
abbrev pub loses : Link → Link
loses x = record { awaits = Over; place = x.place; given = x.given; answers = x.answers }

-- a machine stop: the pipes are gone, and nobody goes on
abbrev pub halts : Link → Link
halts x = record { awaits = Over; place = x.place; given = []; answers = [] }

-- what an event of the cleaner takes out of its pipe, and what it gives
abbrev pub left_by : NeedData → GotData → List ℕ → List ℕ
left_by (Take Input) (Took bytes) given = drop (length bytes) given
left_by due came given = given

abbrev pub answers_by : NeedData → GotData → ℕ → List ℕ → List ℕ
answers_by (Give Output text) Gave wrote answers = answers ++ text
answers_by (Give Output text) Failed wrote answers = answers ++ take wrote text
answers_by due came wrote answers = answers

-- the cleaner has one event more; of a giving that failed so many bytes were given
abbrev pub cleans : Own → ℕ → Link → Link
cleans event wrote x = record {
  awaits = x.awaits;
  place = moved x.place event;
  given = left_by event.due event.came x.given;
  answers = answers_by event.due event.came wrote x.answers;
}

-- a taking of the cleaner brings first bytes of what lies in its pipe
abbrev pub IsOffered : List ℕ → NeedData → GotData → Type 0
IsOffered given (Take Input) (Took bytes) = (rest : List ℕ) × (given ≡ bytes ++ rest)
IsOffered given due came = Unit {0}
