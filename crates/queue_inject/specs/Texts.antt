-- What an injector makes of its input: the two texts that it writes, and where the input fails.
use Rattle.std.specs.Prelude.{ℕ, List, [], ◌++◌, length, take, Option, Some, None, if◌then◌else◌, nat_lt, slice_get}
use Rattle.envelope_records.specs.declared.envelope.EnvFault.{EnvFault}
use Rattle.envelope_records.specs.declared.envelope.EnvFault.TheVariants.{Format, TooLong, EndEarly}
use Rattle.queue_inject.specs.declared.injection.Arguments.{Arguments}
use Rattle.queue_inject.specs.declared.injection.InputEnd.{InputEnd}
use Rattle.queue_inject.specs.declared.injection.InputEnd.TheVariants as ends
use Rattle.received_line.specs.Received.{received_text}
use Rattle.queue_limits.specs.declared.lengths.TheConstants.{MOST_BYTES}
use Rattle.queue_limits.specs.declared.statuses.TheConstants.{INPUT, LONG_ADDRESS, MALFORMED, TOO_LONG}
use Rattle.envelope_records.specs.Envelope.{Stage, Step, step, bytes_to, records_of, Reading, read_envelope, todo_head}
use Rattle.envelope_records.specs.Envelope.Step.{Goes, Ends, Fails}
use Rattle.envelope_records.specs.Envelope.Reading.{Whole, Open, Broken}

-- the most bytes that a message or an envelope may have
abbrev pub limit : ℕ
limit = MOST_BYTES

-- a text to be written, and the exit status of the fault that comes after it, if there is one
pub record Text : Type 0 where
  pub bytes : List ℕ
  pub fault : Option ℕ

-- an input that ended before its end, or could not be read: 54; one in a netstring with a wrong head or comma: 91
abbrev pub end_status : InputEnd → ℕ
end_status ends.Whole = INPUT
end_status ends.Unread = INPUT
end_status ends.Malformed = MALFORMED

-- of a message only its reading may fail
abbrev pub message_end : InputEnd → Option ℕ
message_end ends.Whole = None
message_end ends.Unread = Some INPUT
message_end ends.Malformed = Some MALFORMED

-- The message file: the first line, then the message. A message of over `limit` bytes fails with 31 at the first
-- byte past it.
unfoldable pub message_text : Arguments → Text
message_text args = record {
  bytes = received_text args.pid args.invoked args.start ++ take limit args.message;
  fault = if nat_lt limit (length args.message) then Some TOO_LONG else message_end args.message_end;
}

-- the status of a fault in an envelope
abbrev pub fault_status : EnvFault → ℕ
fault_status TooLong = LONG_ADDRESS
fault_status EndEarly = INPUT
fault_status Format = MALFORMED

-- The byte past the limit fails with 31; if it would also be the 1003rd of an address, with 11.
abbrev pub past_limit : Step → ℕ
past_limit (Fails TooLong) = LONG_ADDRESS
past_limit (Fails Format) = TOO_LONG
past_limit (Fails EndEarly) = TOO_LONG
past_limit (Goes stage) = TOO_LONG
past_limit (Ends sender recipients) = TOO_LONG

-- An envelope that is still open after its last byte fails as its input ended; one that is still open at the byte past
-- the limit went over its greatest length.
abbrev pub open_status : Stage → InputEnd → Option ℕ → ℕ
open_status stage end None = end_status end
open_status stage end (Some b) = past_limit (step stage b)

-- what stands in intd and todo of an envelope that was read so far
abbrev pub envelope_text : Reading → InputEnd → Option ℕ → Text
envelope_text (Whole sender recipients) end next = record { bytes = records_of sender recipients; fault = None }
envelope_text (Open stage) end next = record { bytes = bytes_to stage; fault = Some (open_status stage end next) }
envelope_text (Broken before fault) end next = record { bytes = before; fault = Some (fault_status fault) }

-- The text of intd and todo: `u` UID NUL `p` PID NUL, then the envelope without its last NUL.
unfoldable pub envelope_of : Arguments → Text
envelope_of args = envelope_text (read_envelope (take limit args.envelope)) args.envelope_end (slice_get args.envelope limit)

unfoldable pub intd_text : Arguments → Text
intd_text args = record { bytes = todo_head args.uid args.pid ++ (envelope_of args).bytes; fault = (envelope_of args).fault }

-- what the message file holds of an accepted message
unfoldable pub entered : Arguments → List ℕ
entered args = (message_text args).bytes

-- what todo holds of it
unfoldable pub todo_of : Arguments → List ℕ
todo_of args = (intd_text args).bytes

-- the recipients of a reading
abbrev pub recipients_read : Reading → List (List ℕ)
recipients_read (Whole sender recipients) = recipients
recipients_read (Open stage) = []
recipients_read (Broken before fault) = []

-- the recipients of a message that can be accepted
unfoldable pub recipients_of : Arguments → List (List ℕ)
recipients_of args = recipients_read (read_envelope (take limit args.envelope))
