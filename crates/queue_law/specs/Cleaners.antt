-- What a cleaner relies on at each row of its table, and what a call of it leaves.
use Rattle.std.specs.Prelude.{◌≡◌, ◌≢◌, ◌⊎◌, ℕ, ◌≤◌, List, ◌∷◌, Contains, Option, Some, None, slice_get}
use Rattle.call_fs.specs.declared.calls.CallData.{CallData}
use Rattle.call_fs.specs.declared.calls.Told.{Told}
use Rattle.call_fs.specs.declared.program.Ready.{Ready as Found}
use Rattle.call_fs.specs.declared.past.NeedData.TheVariants as needs
use Rattle.call_fs.specs.declared.past.Own.{Own}
use Rattle.call_fs.specs.Apply.{Fits}
use Rattle.call_fs.specs.Disk.{Disk}
use Rattle.call_fs.specs.Survival.{AllSurvive}
use Rattle.queue_inject.specs.declared.injection.Arguments.{Arguments}
use Rattle.queue_clean.specs.declared.command.Command.{Command}
use Rattle.queue_clean.specs.declared.command.Command.TheVariants.{Foop, Todo}
use Rattle.queue_clean.specs.declared.row.Reply.TheVariants.{Removed}
use Rattle.queue_clean.specs.declared.row.Row.{Row}
use Rattle.queue_clean.specs.declared.row.Row.TheVariants as at
use Rattle.queue_clean.specs.Commands.{commands, command_of, message_of}
use Rattle.queue_clean.specs.Table.{Place, place_after, first_row, pid_path, Next as CleansNext}
use Rattle.queue_paths.specs.Names.{Name, path, parse}
use Rattle.queue_paths.specs.Names.Name.{Pid}
use Rattle.queue_paths.specs.Parts.{in_intd}
use Rattle.queue_law.specs.Books.{own_call}
use Rattle.queue_law.specs.Numbers.{Queue, Entry, look, NamesSuit, About, about, IsPreprocessed, Sound}
use Rattle.queue_law.specs.Numbers.Role.{AsMessage}
use Rattle.queue_law.specs.Injectors.{InTime}
use Rattle.queue_law.specs.Ready.{IsSpent, IsReady}
use Rattle.queue_law.specs.Rests.{IsClosed, RestsAs, IsJudged, Spares, SparesNames}
use Rattle.queue_law.specs.Steps.{Elsewhere, Foreign, IsOutside, LeavesOld, after_halt}
use Rattle.queue_law.specs.Senders.{called_queue}

-- the number that a row's command is about
abbrev pub number_at : Row → Option ℕ
number_at (at.UnlinkIntd command) = Some (message_of command)
number_at (at.UnlinkSecond command) = Some (message_of command)
number_at row = None

-- what a command needs of its number: `foop` that nothing of it is wanted, `todo` that it is preprocessed except for todo
abbrev pub Needs : Command → About → Type 0
Needs (Foop n) w = IsSpent w
Needs (Todo n) w = IsReady w

-- the number of a row's command rests as the row needs
abbrev pub Rests : ℕ → Queue → Row → Type 0
Rests now q (at.UnlinkIntd command) = RestsAs now q (message_of command) (Needs command)
Rests now q (at.UnlinkSecond command) =
    RestsAs now q (message_of command) (λ w. Needs command w × (in_intd w.parts ≡ None))
Rests now q row = Unit {0}

-- the first row of a command that was taken, if one was
abbrev pub row_of : Option (List ℕ) → Row
row_of None = at.TakeInput
row_of (Some text) = first_row (command_of text)

-- that of the command which a cleaner takes up next
abbrev pub waiting : Place → Row
waiting p = row_of (slice_get (commands p.taken) p.begun)

-- one part of a name
abbrev pub IsOnePart : List ℕ → Type 0
IsOnePart part = ¬ (Contains part 47)

-- What a cleaner relies on at a row: that the number at work rests. During a scan of `pid` it is that of the command which it
-- takes up next, if it took one; and the name that was found is one part.
abbrev pub StandsAt : ℕ → Queue → Row → Place → Type 0
StandsAt now q at.FindPid p = Rests now q (waiting p)
StandsAt now q at.StatPid p = Rests now q (waiting p) × IsOnePart p.name
StandsAt now q (at.JudgePid moment) p = Rests now q (waiting p) × IsJudged q (parse (pid_path p.name)) moment × IsOnePart p.name
StandsAt now q row p = Rests now q row

abbrev pub CleanerStands : ℕ → Queue → Place → Type 0
CleanerStands now q p = StandsAt now q p.row p

-- What a call of a cleaner leaves of all that isn't the queue's: all, except that a name in `pid` may go, but none in a directory in it.
pub record LeavesButPid (d e : Disk) : Type 0 where
  pub names : (name : List ℕ) → ((x : Name) → path x ≢ name) → (e.names name ≡ d.names name) ⊎ ((part : List ℕ) × (name ≡ pid_path part) × (e.names name ≡ None) × IsOnePart part)
  pub files : (i : ℕ) → e.files i ≡ d.files i
  pub unqueued : (i : ℕ) → IsOutside d i → (x : Name) → e.names (path x) ≢ Some i

-- What a call of a cleaner leads to, at a row of its table: what holds of the queue holds then too; the number at work at the
-- next place rests; and except for one number, of which at most a name in `pid` and the names of the row's command went, nothing
-- changed.
pub record CleanerLeads (now : ℕ) (a : List ℕ) (q r : Queue) (row : Row) (next : Place) : Type 0 where
  pub sound : Sound r
  pub stands : CleanerStands now r next
  pub number : Option ℕ
  pub elsewhere : Elsewhere now a number q r
  pub outside : LeavesButPid q.disk r.disk
  pub old : LeavesOld q r
  pub abouts : (n : ℕ) → number_at row ≢ Some n → about r n ≡ about q n
  pub spares : Spares now (number_at row) q r
  -- no injector that may still call made the file of a name in `pid` that went
  pub pids : (pid start seq : ℕ) (y : Entry) → look q (Pid pid start seq) ≡ Some y → look r (Pid pid start seq) ≡ None
      → (o : List ℕ) (args : Arguments) → InTime now args → q.role y.number ≢ AsMessage o args
  -- once `+` is due to `todo/N`, the number is preprocessed
  pub done : (n : ℕ) → row ≡ at.UnlinkSecond (Todo n) → next.row ≡ at.Answer Removed → RestsAs now r n IsPreprocessed

-- The laws

-- a file call of a cleaner that is due keeps what holds of the queue, if the number at work rests
abbrev pub CleanersKeep : Type 0
CleanersKeep = (now : ℕ) (q : Queue) (a : List ℕ) (past : List Own) (read : ℕ) (ready : Found) (call : CallData) (told : Told) (wrote : ℕ)
    → Sound q → CleanerStands now q (place_after past) → read ≤ now
    → CleansNext tt past read ready ≡ needs.File call → Fits q.disk call told.answer wrote
    → CleanerLeads now a q (called_queue q a read call told.answer wrote q.role) (place_after past).row (place_after (own_call read ready call told ∷ past))

-- a row and the next command of a place are about other numbers than the one in m
abbrev pub IsBeside : Option ℕ → Place → Type 0
IsBeside m p = (n : ℕ) → m ≡ Some n → (number_at p.row ≢ Some n) × (number_at (waiting p) ≢ Some n)

-- The number at work rests on as time goes on, and by what other programs do: an injector's call spares every closed number; so does
-- a program that is none of the queue's; and one that works at closed numbers spares all but its own.
pub record RestIsKept : Type 0 where
  pub later : (now m : ℕ) → now ≤ m → (q : Queue) (p : Place) → CleanerStands now q p → CleanerStands m q p
  pub spared : (now : ℕ) (m : Option ℕ) (q r : Queue) → Spares now m q r → SparesNames q r → (p : Place) → IsBeside m p
      → CleanerStands now q p → CleanerStands now r p
  pub closed : (now : ℕ) (a : List ℕ) (m : Option ℕ) (q r : Queue) → Elsewhere now a m q r → NamesSuit q
      → ((n : ℕ) → m ≡ Some n → IsClosed now q n) → Spares now m q r × SparesNames q r
  pub foreign : (now : ℕ) (a : List ℕ) (q r : Queue) → Foreign a q r → NamesSuit q → Spares now None q r × SparesNames q r
  pub halts : (now : ℕ) (q : Queue) (contents : ℕ → List ℕ) → AllSurvive q.disk contents → (p : Place)
      → CleanerStands now q p → CleanerStands now (after_halt contents q) p
