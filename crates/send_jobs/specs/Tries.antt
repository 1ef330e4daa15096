-- When messages are tried again on a channel.
use Rattle.std.specs.Prelude.{ℕ, List, min}
use Rattle.retry_schedule.specs.Due.{moved}
use Rattle.retry_schedule.specs.Retry.{next_retry}
use Rattle.send_known.specs.declared.channel.Channel.{Channel}
use Rattle.send_known.specs.declared.channel.Channel.TheVariants.{Local, Remote}
use Rattle.send_jobs.specs.Channels.{skip_of}
use Rattle.send_known.specs.declared.messages.Messages.{Messages}
use Rattle.send_known.specs.Known.{birth_of}
use Rattle.send_known.specs.Messages.{local_gone, remote_gone}
use Rattle.mail_bytes.specs.declared.moments.TheConstants.{LAST_MOMENT}

-- when messages are due on a channel
abbrev pub due_on : Channel → Messages → List (ℕ × ℕ)
due_on Local m = m.local
due_on Remote m = m.remote

-- a message that is due on a channel is due there at another moment
abbrev pub due_then : Channel → ℕ → ℕ → Messages → Messages
due_then Local n due m = record m { local = moved (due, n) m.local }
due_then Remote n due m = record m { remote = moved (due, n) m.remote }

-- its file of a channel is gone
abbrev pub file_gone : Channel → ℕ → Messages → Messages
file_gone Local n m = local_gone n m
file_gone Remote n m = remote_gone n m

-- a moment that a clock may tell: one past the last counts as the last
abbrev pub moment_of : ℕ → ℕ
moment_of moment = min moment LAST_MOMENT

-- the next retry of a message, reckoned at its pass's begin
abbrev pub retry_of : Channel → ℕ → ℕ → Messages → ℕ
retry_of c n begun m = next_retry (moment_of (birth_of n m.known)) (moment_of begun) (skip_of c)
