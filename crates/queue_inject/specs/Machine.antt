-- An injector as contracts see it.
use Rattle.std.specs.Prelude.{ℕ, ◌+◌, ◌-◌, min, List, [], ◌∷◌, ◌++◌, length, take, Option, Some, None, Bool, true, false, if◌then◌else◌, nat_lt}
use Rattle.call_fs.specs.declared.calls.Answer.{Answer}
use Rattle.call_fs.specs.declared.program.Ready.{Ready}
use Rattle.call_fs.specs.declared.past.NeedData.{NeedData}
use Rattle.call_fs.specs.declared.past.NeedData.TheVariants as needs
use Rattle.envelope_records.specs.Envelope.{Reader, reader_of, read_envelope, todo_head}
use Rattle.queue_inject.specs.declared.injection.InputEnd.{InputEnd}
use Rattle.queue_inject.specs.declared.injection.Part.{Part}
use Rattle.queue_inject.specs.declared.injection.Part.TheVariants.{Message, Envelope}
use Rattle.queue_inject.specs.declared.intake.Verdict.{Verdict}
use Rattle.queue_inject.specs.declared.intake.Verdict.TheVariants.{Open, Faulty}
use Rattle.queue_inject.specs.declared.row.Row.{Row}
use Rattle.queue_inject.specs.declared.row.Row.TheVariants as at
use Rattle.queue_inject.specs.Texts.{limit, end_status}
use Rattle.queue_inject.specs.Table.{piece_size, goes_to, call_at, has_input, in_time}
use Rattle.queue_inject.specs.Rows.{is_open, part_in, row_by, message_over}
use Rattle.queue_limits.specs.declared.statuses.TheConstants.{TOO_LONG}
use Rattle.queue_limits.specs.declared.times.TheConstants.{DAY}

-- What an injector holds of the text at hand: its next piece, as far as that was fed; how many bytes of the message, or of
-- the envelope, were fed; what the text is so far; and the envelope's reader.
pub record Heard : Type 0 where
  pub piece : List ℕ
  pub fed : ℕ
  pub verdict : Verdict
  pub reader : Reader

-- An injector: whose it is, what it was fed, where the last answer led, and the moment and readiness that it was told
-- last.
pub record Machine : Type 0 where
  pub uid : ℕ
  pub pid : ℕ
  pub start : ℕ
  pub heard : Heard
  pub row : Row
  pub present : ℕ
  pub ready : Ready

-- Input

-- the part of its input that an injector asks for, until its end or its fault is known
abbrev pub asks_by : Bool → Row → Option Part
asks_by true row = part_in row
asks_by false row = None

abbrev pub asks : Machine → Option Part
asks m = asks_by (is_open m.heard.verdict) m.row

-- how many bytes of it may be fed: as many as the piece has room for, and one past the limit in all
abbrev pub room_by : Option Part → Heard → ℕ
room_by None h = 0
room_by (Some part) h = min (piece_size - length h.piece) ((limit + 1) - h.fed)

abbrev pub room_of : Machine → ℕ
room_of m = room_by (asks m) m.heard

-- after more bytes of the message, of which none past the limit is kept
abbrev pub with_message : Heard → List ℕ → Heard
with_message h bytes = record h {
  piece = h.piece ++ take (limit - h.fed) bytes;
  fed = h.fed + length bytes;
  verdict = if nat_lt limit (h.fed + length bytes) then Faulty TOO_LONG else h.verdict;
}

-- after the end of the part that was asked for
abbrev pub over_by : Option Part → Heard → InputEnd → Heard
over_by None h end = h
over_by (Some Message) h end = record h { verdict = message_over end }
over_by (Some Envelope) h end = record h { verdict = Faulty (end_status end) }

-- before the first byte of the envelope
abbrev pub new_todo : ℕ → ℕ → Heard
new_todo uid pid = record { piece = todo_head uid pid; fed = 0; verdict = Open; reader = reader_of (read_envelope []) }

-- What is due

-- the row whose call is due
abbrev pub row_now : Machine → Row
row_now m = row_by m.heard.verdict (length m.heard.piece) m.row

-- it needs a file call
abbrev pub is_call : NeedData → Bool
is_call (needs.File call) = true
is_call (needs.Take port) = false
is_call (needs.Give port bytes) = false
is_call (needs.Start child) = false
is_call (needs.Command bytes) = false
is_call needs.Wait = false
is_call (needs.Ended status) = false

-- it has run for more than a day
abbrev pub late_now : Machine → Bool
late_now m = nat_lt (m.start + DAY) m.present

-- its call, or its end, at whatever time
abbrev pub call_now : Machine → NeedData
call_now m = call_at m.pid m.start m.heard.piece (row_now m)

-- what the injector needs
abbrev pub due_now : Machine → NeedData
due_now m = in_time (has_input m.ready) (late_now m) (call_now m)

-- After an answer

-- it is told anew what is ready before each call
abbrev pub unready : Ready
unready = record { links = false ∷ (false ∷ (false ∷ (false ∷ []))); child = None }

-- what it holds after the call of a row: a written piece is gone, and once intd is there the envelope is asked for
abbrev pub heard_after : Row → ℕ → ℕ → Heard → Heard
heard_after (at.AppendMess n fd done) uid pid h = record h { piece = [] }
heard_after (at.AppendTodo n fd done) uid pid h = record h { piece = [] }
heard_after (at.CreateIntd n) uid pid h = new_todo uid pid
heard_after row uid pid h = h

abbrev pub gone_on : Machine → Answer → Machine
gone_on m answer = record m { heard = heard_after (row_now m) m.uid m.pid m.heard; row = goes_to (row_now m) answer; ready = unready }

-- How far it is from its end

-- a text has no more bytes than this
abbrev pub text_bound : ℕ
text_bound = limit + 65536

-- at most so many calls are ahead of the call of a row, its own among them
abbrev pub ahead_by : Row → ℕ
ahead_by (at.Create seq) = (9 - seq) + (11 + (text_bound + text_bound))
ahead_by (at.LinkMess seq n fd) = 10 + (text_bound + text_bound)
ahead_by (at.UnlinkPid seq n fd) = 9 + (text_bound + text_bound)
ahead_by (at.AppendMess n fd done) = (text_bound - done) + (8 + text_bound)
ahead_by (at.SyncMess n fd) = 7 + text_bound
ahead_by (at.CreateIntd n) = 6 + text_bound
ahead_by (at.AppendTodo n fd done) = (text_bound - done) + 5
ahead_by (at.SyncTodo n fd) = 4
ahead_by (at.LinkTodo n) = 3
ahead_by (at.CleanIntd n status) = 2
ahead_by (at.CleanMess n status) = 1
ahead_by at.Queued = 0
ahead_by (at.Failed status) = 0

abbrev pub ahead_of : Machine → ℕ
ahead_of m = ahead_by m.row
