-- The commands that a cleaner takes (qmail-clean(8)). `foop/7` and a NUL ask it to remove intd/7 and mess/7/7; `todo/7`
-- and a NUL, intd/7 and todo/7.
use Rattle.std.specs.Prelude.{◌≡◌, ◌↔◌, ℕ, ◌+◌, ◌^◌, ◌<◌, ◌≤◌, List, [], ◌∷◌, ◌++◌, length, take, drop, All, Option, Some, None, Bool, ◌&&◌, if◌then◌else◌, ◌==◌, nat_le, bytes_eq, codes, flat_map}
use Rattle.mail_bytes.specs.Decimal.{number_of}
use Rattle.queue_paths.specs.Names.{Name, foop_command, todo_command}
use Rattle.queue_paths.specs.Names.Name.{Of}
use Rattle.queue_paths.specs.Names.Part.{Mess, Intd, Todo as TodoPart}
use Rattle.queue_clean.specs.declared.command.Command.{Command}
use Rattle.queue_clean.specs.declared.command.Command.TheVariants.{Foop, Todo}
use Rattle.queue_clean.specs.declared.command.TheConstants.{LEAST_COMMAND, MOST_COMMAND}
use Rattle.mail_bytes.specs.Texts.{HasNoNul}

-- One command

-- its text, without its NUL
abbrev pub text_of : Command → List ℕ
text_of (Foop n) = foop_command n
text_of (Todo n) = todo_command n

-- the message that it is about
abbrev pub message_of : Command → ℕ
message_of (Foop n) = n
message_of (Todo n) = n

-- the name that it removes first, and the one that it removes then
abbrev pub first_name : Command → Name
first_name command = Of Intd (message_of command)

abbrev pub second_name : Command → Name
second_name (Foop n) = Of Mess n
second_name (Todo n) = Of TodoPart n

-- a command has 7 to 100 bytes, its NUL among them
abbrev pub is_sized : List ℕ → Bool
is_sized text = nat_le LEAST_COMMAND (length text + 1) && nat_le (length text + 1) MOST_COMMAND

abbrev pub named : List ℕ → ℕ → Option Command
named word n =
    if bytes_eq word (codes "foop/") then Some (Foop n) else (if bytes_eq word (codes "todo/") then Some (Todo n) else None)

-- a message's number is from 1
abbrev pub command_by : List ℕ → Option ℕ → Option Command
command_by word None = None
command_by word (Some n) = if n == 0 then None else named word n

-- The command that a text is, without its NUL: `foop/` or `todo/`, and the decimal text of a u64 from 1. Any other text
-- is no command.
unfoldable pub command_of : List ℕ → Option Command
command_of text = if is_sized text then command_by (take 5 text) (number_of (drop 5 text)) else None

-- Each command has one text, and no other text is one.
pub record IsCommand (text : List ℕ) (command : Command) : Type 0 where
  pub positive : 1 ≤ message_of command
  pub fits : message_of command < 2 ^ 64
  pub text_is : text ≡ text_of command

-- A text of commands

-- a byte more before the first of them
abbrev pub put_before : ℕ → List (List ℕ) → List (List ℕ)
put_before b [] = []
put_before b (command ∷ commands) = (b ∷ command) ∷ commands

-- The commands that a text is cut into at its NULs, each without its NUL. What comes after the last NUL is none yet.
abbrev pub commands : List ℕ → List (List ℕ)
commands [] = []
commands (b ∷ bs) = if b == 0 then [] ∷ commands bs else put_before b (commands bs)

-- a command with its NUL
abbrev pub ended : List ℕ → List ℕ
ended command = command ++ 0 ∷ []

-- the text is these commands, and then the start of one more
pub record IsCut (text : List ℕ) (cut : List (List ℕ)) : Type 0 where
  pub rest : List ℕ
  pub text_is : text ≡ flat_map ended cut ++ rest
  pub each : All HasNoNul cut
  pub open_rest : HasNoNul rest

-- what a text is, and what it is cut into, exactly
pub record CommandsAreExact : Type 0 where
  pub one : (text : List ℕ) (command : Command) → (command_of text ≡ Some command) ↔ IsCommand text command
  pub all : (text : List ℕ) (cut : List (List ℕ)) → (commands text ≡ cut) ↔ IsCut text cut
