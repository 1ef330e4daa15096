-- The lines of the log that speak of deliveries (qmail-log(5)).
use Rattle.std.specs.Prelude.{ℕ, ◌+◌, List, [], ◌++◌, length, Bool, true, false, Option, Some, None, codes}
use Rattle.send_log.specs.declared.lines.TheConstants.{LINE_ROOM}
use Rattle.send_log.specs.Lines.{delivered, outcome_of, starting, status}
use Rattle.send_jobs.specs.declared.attempts.Attempt.{Attempt}
use Rattle.send_known.specs.declared.channel.Channel.{Channel}
use Rattle.send_known.specs.declared.channel.Channel.TheVariants.{Local, Remote}
use Rattle.send_jobs.specs.declared.slots.Slots.{Slots}
use Rattle.send_jobs.specs.Lanes.{in_flight}
use Rattle.send_jobs.specs.Sending.{next_delivery}

-- what is in flight, and how many deliveries may be
abbrev pub status_line : Slots → List ℕ
status_line s = status (in_flight s.local) (length s.local.slots) (in_flight s.remote) (length s.remote.slots)

-- if a request was given
abbrev pub status_if : Bool → Slots → List ℕ
status_if true s = status_line s
status_if false s = []

abbrev pub channel_word : Channel → List ℕ
channel_word Local = codes "local"
channel_word Remote = codes "remote"

-- an attempt goes out, by a sender whose slots were so before
abbrev pub starting_line : Attempt → Channel → Slots → List ℕ
starting_line a c s = starting (next_delivery s) a.n (channel_word c) a.address

abbrev pub starting_if : Option Attempt → Channel → Slots → List ℕ
starting_if None c s = []
starting_if (Some a) c s = starting_line a c s

-- an attempt was reported on with this letter and text, and the slots are so then
abbrev pub settled_lines : Attempt → ℕ → List ℕ → Slots → List ℕ
settled_lines a letter text after = delivered a.delivery (outcome_of letter a.dying) text ++ status_line after

-- how much room these take at most
abbrev pub settled_room : List ℕ → ℕ
settled_room text = LINE_ROOM + LINE_ROOM + length text
