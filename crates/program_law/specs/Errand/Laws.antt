-- What each event of a sender and its cleaner keeps of their errands.
use Rattle.std.specs.Prelude.{◌≡◌, ◌≢◌, ◌⊎◌, ℕ, List, [], ◌∷◌, ◌++◌, Option, Some, None, slice_get}
use Rattle.call_fs.specs.declared.past.Own.{Own}
use Rattle.queue_clean.specs.declared.command.Command.{Command}
use Rattle.queue_clean.specs.declared.row.Reply.TheVariants.{Removed}
use Rattle.queue_clean.specs.declared.row.Row.TheVariants as at
use Rattle.queue_clean.specs.Commands.{commands, command_of}
use Rattle.queue_clean.specs.Table.{due_by, moved}
use Rattle.program_law.specs.Errand.Errands.{Link, Errand, SaysWell, at_work, fresh, asks, asks_in_part, takes_up, loses, halts, cleans, IsOffered}
use Rattle.program_law.specs.Errand.Errands.Awaits.{Nothing, Answer}

-- At its begin a generation has no errand.
abbrev pub StartsWithNone : Type 0
StartsWithNone = Errand None fresh

-- Nothing is under way while the sender waits for nothing. While a command is at work, no other waits, and none was answered.
pub record IsAlone : Type 0 where
  pub idle : (waits : Option Command) (x : Link) → Errand waits x → x.awaits ≡ Nothing
      → (waits ≡ None) × ((at_work x.place.row ≡ 0) × (x.answers ≡ []))
  pub working : (waits : Option Command) (x : Link) → Errand waits x → at_work x.place.row ≡ 1 → (waits ≡ None) × (x.answers ≡ [])

-- A sender that waits for nothing gives a command, whole or in part. Then this waits, or nothing does, and none was answered.
pub record Asks (waits : Option Command) (command : Command) (x : Link) : Type 0 where
  pub keeps : Errand waits x
  pub from : (other : Command) → waits ≡ Some other → other ≡ command
  pub unanswered : SaysWell x → ⊥

pub record AsksKeep : Type 0 where
  pub whole : (waits : Option Command) (command : Command) (x : Link) → Errand waits x → x.awaits ≡ Nothing
      → Asks (Some command) command (asks command x)
  pub part : (waits : Option Command) (command : Command) (wrote : ℕ) (x : Link) → Errand waits x → x.awaits ≡ Nothing
      → (some : Option Command) × Asks some command (asks_in_part command wrote x)

-- What a sender takes that waits for the answer to a command is all that lies there, and then nothing is under way. If it is `+`, that was
-- given by the cleaner.
pub record Answers (bytes rest : List ℕ) (x : Link) : Type 0 where
  pub keeps : Errand None (takes_up rest x)
  pub all : rest ≡ []
  pub well : bytes ≡ 43 ∷ [] → SaysWell x

abbrev pub AnswersAreOfErrands : Type 0
AnswersAreOfErrands = (waits : Option Command) (command : Command) (bytes rest : List ℕ) (x : Link) → Errand waits x
    → x.awaits ≡ Answer command → x.answers ≡ bytes ++ rest → bytes ≢ [] → Answers bytes rest x

-- by this event of the cleaner `+` is due, to the command that the sender waits for
pub record IsAnsweredBy (event : Own) (x : Link) : Type 0 where
  pub command : Command
  pub row : x.place.row ≡ at.UnlinkSecond command
  pub next : (moved x.place event).row ≡ at.Answer Removed
  pub only : (asked : Command) → x.awaits ≡ Answer asked → command ≡ asked

-- What an event of the cleaner leaves: no other command waits, and what is answered well was answered so before, or by this event.
pub record Cleans (waits : Option Command) (event : Own) (wrote : ℕ) (x : Link) : Type 0 where
  pub still : Option Command
  pub keeps : Errand still (cleans event wrote x)
  pub from : (command : Command) → still ≡ Some command → waits ≡ Some command
  pub well : SaysWell (cleans event wrote x) → SaysWell x ⊎ IsAnsweredBy event x

-- An event of the cleaner that is due: of a file call with any answer, of a taking, and of a giving, also a failed one.
abbrev pub CleansKeep : Type 0
CleansKeep = (waits : Option Command) (event : Own) (wrote : ℕ) (x : Link) → Errand waits x → event.due ≡ due_by x.place event.read
    → IsOffered x.given event.due event.came → Cleans waits event wrote x

-- What the stop or end of the sender, and a machine stop, leave of it.
pub record LossesKeep : Type 0 where
  pub lost : (waits : Option Command) (x : Link) → Errand waits x → Errand waits (loses x)
  pub halted : (waits : Option Command) (x : Link) → Errand waits x
      → (still : Option Command) × Errand still (halts x) × ((command : Command) → still ≡ Some command → waits ≡ Some command)

-- What the cleaner takes up next, of what it took before and of these first bytes of what lies in its pipe, is the command that waits,
-- which is the one that the sender waits for if it waits for one.
pub record IsNext (waits : Option Command) (x : Link) (command : Command) : Type 0 where
  pub waiting_is : waits ≡ Some command
  pub only : (asked : Command) → x.awaits ≡ Answer asked → command ≡ asked

abbrev pub NextWaits : Type 0
NextWaits = (waits : Option Command) (x : Link) (bytes rest text : List ℕ) (command : Command) → Errand waits x → x.given ≡ bytes ++ rest
    → slice_get (commands (x.place.taken ++ bytes)) x.place.begun ≡ Some text → command_of text ≡ Some command → IsNext waits x command
