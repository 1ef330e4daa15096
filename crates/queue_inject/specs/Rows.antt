-- What the code of the table reads of rows and texts.
use Rattle.std.specs.Prelude.{ℕ, ◌+◌, ◌<◌, ◌^◌, Option, Some, None, Bool, true, false, if◌then◌else◌, nat_lt, nat_le}
use Rattle.envelope_records.specs.declared.envelope.EnvFault.TheVariants.{Format, TooLong, EndEarly}
use Rattle.envelope_records.specs.declared.envelope.EnvStep.{EnvStep}
use Rattle.envelope_records.specs.declared.envelope.EnvStep.TheVariants.{More, Sender, Recipient, End, Fault}
use Rattle.queue_inject.specs.declared.injection.InputEnd.{InputEnd}
use Rattle.queue_inject.specs.declared.injection.InputEnd.TheVariants as ends
use Rattle.queue_inject.specs.declared.injection.Part.{Part}
use Rattle.queue_inject.specs.declared.injection.Part.TheVariants.{Message, Envelope}
use Rattle.queue_inject.specs.declared.intake.Verdict.{Verdict}
use Rattle.queue_inject.specs.declared.intake.Verdict.TheVariants.{Open, Whole, Faulty}
use Rattle.queue_inject.specs.declared.row.Row.{Row}
use Rattle.queue_inject.specs.declared.row.Row.TheVariants as at
use Rattle.queue_inject.specs.Table.{piece_size}
use Rattle.queue_limits.specs.declared.statuses.TheConstants.{INPUT, LONG_ADDRESS, MALFORMED, TOO_LONG}

-- where an injector stands in its table, and whose names it uses
pub record Place : Type 0 where
  pub pid : ℕ
  pub start : ℕ
  pub row : Row

-- the number at the end of the pid name, if the call of a row has that name
abbrev pub seq_in : Row → Option ℕ
seq_in (at.Create seq) = Some seq
seq_in (at.LinkMess seq n fd) = Some seq
seq_in (at.UnlinkPid seq n fd) = Some seq
seq_in (at.AppendMess n fd done) = None
seq_in (at.SyncMess n fd) = None
seq_in (at.CreateIntd n) = None
seq_in (at.AppendTodo n fd done) = None
seq_in (at.SyncTodo n fd) = None
seq_in (at.LinkTodo n) = None
seq_in (at.CleanIntd n status) = None
seq_in (at.CleanMess n status) = None
seq_in at.Queued = None
seq_in (at.Failed status) = None

-- the number of the message
abbrev pub number_in : Row → Option ℕ
number_in (at.Create seq) = None
number_in (at.LinkMess seq n fd) = Some n
number_in (at.UnlinkPid seq n fd) = Some n
number_in (at.AppendMess n fd done) = Some n
number_in (at.SyncMess n fd) = Some n
number_in (at.CreateIntd n) = Some n
number_in (at.AppendTodo n fd done) = Some n
number_in (at.SyncTodo n fd) = Some n
number_in (at.LinkTodo n) = Some n
number_in (at.CleanIntd n status) = Some n
number_in (at.CleanMess n status) = Some n
number_in at.Queued = None
number_in (at.Failed status) = None

-- the rows after those of the message
abbrev pub IsAfterMess : Row → Type 0
IsAfterMess (at.Create seq) = ⊥
IsAfterMess (at.LinkMess seq n fd) = ⊥
IsAfterMess (at.UnlinkPid seq n fd) = ⊥
IsAfterMess (at.AppendMess n fd done) = ⊥
IsAfterMess (at.SyncMess n fd) = ⊥
IsAfterMess (at.CreateIntd n) = Unit {0}
IsAfterMess (at.AppendTodo n fd done) = Unit {0}
IsAfterMess (at.SyncTodo n fd) = Unit {0}
IsAfterMess (at.LinkTodo n) = Unit {0}
IsAfterMess (at.CleanIntd n status) = Unit {0}
IsAfterMess (at.CleanMess n status) = Unit {0}
IsAfterMess at.Queued = Unit {0}
IsAfterMess (at.Failed status) = Unit {0}

-- a piece more than was written can be counted
abbrev pub CountsOn : Row → Type 0
CountsOn (at.AppendMess n fd done) = done + piece_size < 2 ^ 64
CountsOn (at.AppendTodo n fd done) = done + piece_size < 2 ^ 64
CountsOn row = Unit {0}

-- the part of the input whose text is written next
abbrev pub part_in : Row → Option Part
part_in (at.Create seq) = Some Message
part_in (at.LinkMess seq n fd) = Some Message
part_in (at.UnlinkPid seq n fd) = Some Message
part_in (at.AppendMess n fd done) = Some Message
part_in (at.SyncMess n fd) = None
part_in (at.CreateIntd n) = None
part_in (at.AppendTodo n fd done) = Some Envelope
part_in (at.SyncTodo n fd) = None
part_in (at.LinkTodo n) = None
part_in (at.CleanIntd n status) = None
part_in (at.CleanMess n status) = None
part_in at.Queued = None
part_in (at.Failed status) = None

-- Whether a piece of so many bytes is written: before a fault only a full one, and no empty one. A text that goes on has
-- a full one.
abbrev pub has_piece : Verdict → ℕ → Bool
has_piece Open len = true
has_piece Whole len = nat_lt 0 len
has_piece (Faulty status) len = nat_le piece_size len

-- what follows a text, or the clean up after its fault
abbrev pub past_text : Verdict → Row → (ℕ → Row) → Row
past_text Open end bad = end
past_text Whole end bad = end
past_text (Faulty status) end bad = bad status

-- the row whose call is due, by what the text at hand is and how many bytes its next piece has
abbrev pub row_by : Verdict → ℕ → Row → Row
row_by verdict len (at.AppendMess n fd done) =
    if has_piece verdict len then at.AppendMess n fd done else past_text verdict (at.SyncMess n fd) (λ status. at.CleanMess n status)
row_by verdict len (at.AppendTodo n fd done) =
    if has_piece verdict len then at.AppendTodo n fd done else past_text verdict (at.SyncTodo n fd) (λ status. at.CleanIntd n status)
row_by verdict len row = row

-- what a message is once its end is told
abbrev pub message_over : InputEnd → Verdict
message_over ends.Whole = Whole
message_over ends.Unread = Faulty INPUT
message_over ends.Malformed = Faulty MALFORMED

-- what a byte of an open envelope makes of it, by the reader's step and whether the byte is within the limit
abbrev pub verdict_after : EnvStep → Bool → Verdict
verdict_after (Fault TooLong) within = Faulty LONG_ADDRESS
verdict_after (Fault EndEarly) within = if within then Faulty INPUT else Faulty TOO_LONG
verdict_after (Fault Format) within = if within then Faulty MALFORMED else Faulty TOO_LONG
verdict_after End within = if within then Whole else Faulty TOO_LONG
verdict_after More within = if within then Open else Faulty TOO_LONG
verdict_after Sender within = if within then Open else Faulty TOO_LONG
verdict_after Recipient within = if within then Open else Faulty TOO_LONG

abbrev pub is_open : Verdict → Bool
is_open Open = true
is_open Whole = false
is_open (Faulty status) = false
