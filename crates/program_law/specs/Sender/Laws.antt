-- What a sender relies on, row by row: what each event of it and of others keeps.
use Rattle.std.specs.Prelude.{◌≢◌, ℕ, ◌≤◌, List, Option}
use Rattle.call_fs.specs.declared.program.Ready.{Ready}
use Rattle.send_core.specs.declared.desk.Desk.{Desk}
use Rattle.send_parts.specs.declared.row.Row.{Row}
use Rattle.send_parts.specs.declared.row.Row.TheVariants as at
use Rattle.send_core.specs.Table.{begun, row_now}
use Rattle.send_known.specs.declared.channel.Channel.{Channel}
use Rattle.send_jobs.specs.declared.slots.Slots.{Slots}
use Rattle.send_known.specs.declared.messages.Messages.{Messages}
use Rattle.send_parts.specs.declared.book.Book.{Book}
use Rattle.mail_bytes.specs.Moments.{IsMoment}
use Rattle.queue_law.specs.Numbers.{Queue}
use Rattle.queue_law.specs.Steps.{Elsewhere}
use Rattle.program_law.specs.Sender.Rows.{RowStands, Works}
use Rattle.program_law.specs.Sender.Stands.{KnowsAll, LaneStands, SenderStands, SparesSorted, StandsAt}

-- A sender that begins relies on nothing of the queue.
abbrev pub SendersBegin : Type 0
SendersBegin = (now : ℕ) (q : Queue) (a : List ℕ) (turns : Option ℕ) → SenderStands now q a (begun turns)

-- What a sender relies on between two steps it relies on at the row that is next, by a moment that it read earlier and that a clock may tell.
abbrev pub SendersArrive : Type 0
SendersArrive = (now read : ℕ) (q : Queue) (a : List ℕ) (d : Desk) (ready : Ready) → read ≤ now → IsMoment read → SenderStands now q a d
    → StandsAt now q a (row_now d read ready) d

-- rows at which no other program is waited for, and that concern preprocessed numbers alone
abbrev pub IsAmongSorted : Row → Type 0
IsAmongSorted at.InTodo = ⊥
IsAmongSorted (at.Finish row n) = ⊥
IsAmongSorted (at.Sweep row) = ⊥
IsAmongSorted row = Unit {0}

-- A step of another actor that leaves alone what is preprocessed leaves what a sender knows and keeps, and what it rests on, by what it keeps.
pub record SortedIsLeftAlone : Type 0 where
  pub knows : (q r : Queue) (row : Row) (m : Messages) → SparesSorted q r → KnowsAll q row m → KnowsAll r row m
  pub lanes : (q r : Queue) (row : Row) (ch : Channel) (s : Slots) → SparesSorted q r → LaneStands q row ch s → LaneStands r row ch s
  pub rests : (now : ℕ) (a o : List ℕ) (m : Option ℕ) (q r : Queue) → Elsewhere now o m q r → a ≢ o → SparesSorted q r
      → (row : Row) (b : Book) (s : Slots) (p : Works) → IsAmongSorted row → ((ch : Channel) → LaneStands q row ch s) → RowStands now q a row b s p
      → RowStands now r a row b s p
