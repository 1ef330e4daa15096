-- That a sender meets each preprocessed message: it is known, or the sender has still to come to it.
use Rattle.std.specs.Prelude.{◌≡◌, ◌≢◌, ◌⊎◌, ◌<◌, ◌≤◌, ℕ, ◌^◌, List, ◌∷◌, length, true, false, Some, None, IsSome}
use Rattle.std.specs.Ordering.{nat_cmp}
use Rattle.std.specs.Cmp.Lexicographic.{slice_cmp}
use Rattle.std.specs.declared.cmp.Ordering.TheVariants.{Less}
use Rattle.call_fs.specs.Disk.{Disk}
use Rattle.call_fs.specs.Past.{IsRunBy}
use Rattle.call_fs.specs.declared.past.GotData.{GotData}
use Rattle.call_fs.specs.declared.past.Own.{Own}
use Rattle.mail_bytes.specs.Decimal.{digits}
use Rattle.queue_paths.specs.Names.{path, split}
use Rattle.queue_paths.specs.Names.Name.{Of}
use Rattle.queue_paths.specs.Names.Part.{Info}
use Rattle.queue_paths.specs.Parts.{in_todo, parts_of}
use Rattle.queue_states.specs.States.{state_of}
use Rattle.queue_states.specs.declared.state.State.TheVariants.{S5}
use Rattle.retry_law.specs.Left.{leaves_at}
use Rattle.send_core.specs.declared.desk.Desk.{Desk}
use Rattle.send_parts.specs.declared.row.Row.{Row}
use Rattle.send_parts.specs.declared.row.Row.TheVariants as at
use Rattle.send_core.specs.Table.{Next, row_now}
use Rattle.send_known.specs.declared.known.Known.{Known}
use Rattle.send_parts.specs.declared.book.Book.{Book}
use Rattle.send_parts.specs.declared.reading.Progress.TheVariants.{Missing, Whole}
use Rattle.send_parts.specs.declared.reply.Way.TheVariants as way
use Rattle.send_parts.specs.declared.rows.FinishRow.TheVariants as finish
use Rattle.send_parts.specs.declared.rows.StartRow.{StartRow}
use Rattle.send_parts.specs.declared.rows.StartRow.TheVariants as start
use Rattle.send_parts.specs.declared.rows.SweepRow.TheVariants as sweep
use Rattle.send_parts.specs.Files.{is_info}
use Rattle.send_parts.specs.Readings.{read_on}
use Rattle.send_parts.specs.Replies.{Said, said}
use Rattle.send_runs.specs.Knowing.{known_in}
use Rattle.todo_pass.specs.declared.row.Row.TheVariants as todo
use Rattle.world_events.specs.declared.event.Program.TheVariants.{Sender}
use Rattle.mail_world.specs.History.{Actor, Event, after}
use Rattle.mail_world.specs.History.Life.{Alive}
use Rattle.settle_law.specs.Rests.{BeginsTurn}
use Rattle.settle_law.specs.Suffices.{IsKnown, desk_of}
use Rattle.settle_law.specs.Well.{GoesWell}

-- To which messages a sender has still to come

-- The info file lies ahead of a search of this directory after this name: in a later directory, or in that one with a later name.
abbrev pub LiesAhead : ℕ → List ℕ → ℕ → Type 0
LiesAhead dir last n = (dir < split n) ⊎ ((dir ≡ split n) × (slice_cmp nat_cmp last (digits n) ≡ Less))

-- or it is the one that the scan is at work on, if it found one
abbrev pub ScanComes : StartRow → List ℕ → ℕ → Type 0
ScanComes (start.Scan dir) last n = LiesAhead dir last n
ScanComes (start.StatTodo dir m) last n = (m ≡ n) ⊎ LiesAhead dir last n
ScanComes (start.ReadInfo dir m reading) last n = (m ≡ n) ⊎ LiesAhead dir last n
ScanComes (start.StatInfo dir m) last n = (m ≡ n) ⊎ LiesAhead dir last n
ScanComes (start.StatLocal dir m birth) last n = (m ≡ n) ⊎ LiesAhead dir last n
ScanComes (start.StatRemote dir m birth local) last n = (m ≡ n) ⊎ LiesAhead dir last n
ScanComes start.Over last n = ⊥
ScanComes row last n = Unit {0}

-- After the start it is that whose todo file the cleaner was told to remove. Of a sender that has ended nothing is said.
abbrev pub Comes : Row → Desk → ℕ → Type 0
Comes (at.Start row) d n = ScanComes row d.book.after n
Comes at.InTodo d n = (d.pass.row ≡ todo.Answer) × (d.pass.n ≡ n)
Comes (at.Ended status) d n = Unit {0}
Comes row d n = ⊥

-- it is known, or the sender has still to come to it
abbrev pub IsMet : List Own → ℕ → Type 0
IsMet past n = (known_in past n ≡ true) ⊎ Comes (desk_of past).row (desk_of past) n

-- What an event of a sender shows of a preprocessed message

-- a name in a directory of info files that isn't past that of the message
abbrev pub IsUpTo : List ℕ → ℕ → Type 0
IsUpTo name n = (length name ≤ 255) × ((name ≡ digits n) ⊎ (slice_cmp nat_cmp name (digits n) ≡ Less))

-- A search before its name finds one; it has no todo file; and its info file is there, and is `F`, an address, NUL.
abbrev pub ScanShows : StartRow → Book → Said → ℕ → Type 0
ScanShows (start.Scan dir) b s n = dir ≡ split n → slice_cmp nat_cmp b.after (digits n) ≡ Less → (s.way ≡ way.Fine → IsUpTo s.bytes n) × (s.way ≢ way.Over)
ScanShows (start.StatTodo dir m) b s n = m ≡ n → s.way ≢ way.Fine
ScanShows (start.ReadInfo dir m reading) b s n = m ≡ n → (read_on reading s ≢ Missing) × (read_on reading s ≡ Whole → is_info b.read ≡ true)
ScanShows (start.StatInfo dir m) b s n = m ≡ n → s.way ≢ way.Absent
ScanShows row b s n = Unit {0}

-- the cleaner was told to remove the message
abbrev pub Removes : Row → ℕ → Type 0
Removes (at.Finish finish.Take m) n = m ≡ n
Removes (at.Sweep (sweep.Take dir m)) n = m ≡ n
Removes row n = ⊥

abbrev pub Shows : Row → Desk → GotData → ℕ → Type 0
Shows (at.Start row) d came n = ScanShows row d.book (said came) n
Shows row d came n = Removes row n → ⊥

-- By the past alone: a message that it has met it has met still after an event that shows so of it, and at which no todo pass was left.
abbrev pub StaysMet : Type 0
StaysMet = (event : Own) (past : List Own) → IsRunBy (Next None) (event ∷ past) → leaves_at None past event ≡ false → (n : ℕ) → 1 ≤ n → n < 2 ^ 64
    → Shows (row_now (desk_of past) event.read event.ready) (desk_of past) event.came n → IsMet past n → IsMet (event ∷ past) n

-- Over a history

-- the message has an info file and no todo file
abbrev pub IsFiled : Disk → ℕ → Type 0
IsFiled d n = (in_todo (parts_of d.names n) ≡ None) × IsSome (d.names (path (Of Info n)))

-- Each such message is met, and none is one that the cleaner was told to remove.
pub record AreMet (d : Disk) (past : List Own) : Type 0 where
  pub met : (n : ℕ) → 1 ≤ n → n < 2 ^ 64 → IsFiled d n → IsMet past n
  pub gone : (n : ℕ) → Removes (desk_of past).row n → IsFiled d n → ⊥

-- So each preprocessed message is known where nothing fails, when a turn begins, if no todo pass was left.
abbrev pub PreprocessedAreKnown : Type 0
PreprocessedAreKnown = (d : Disk) (h : List Event) → GoesWell d h → (a : List ℕ) (x : Actor) (start : ℕ) → (after d h).actors a ≡ Some x → x.life ≡ Alive
    → x.program ≡ Sender start → BeginsTurn (desk_of x.past).row → (n : ℕ) → state_of (after d h).disk n ≡ S5 → (k : Known) × IsKnown x.past k × (k.n ≡ n)
