-- The known messages, and when each is due on each channel.
use Rattle.std.specs.Prelude.{ℕ, List, [], Bool, true, false}
use Rattle.retry_schedule.specs.Due.{put, removed}
use Rattle.send_known.specs.declared.known.Known.{Known}
use Rattle.send_known.specs.declared.messages.Messages.{Messages}
use Rattle.send_known.specs.Known as known

abbrev pub none_known : Messages
none_known = record { known = []; local = []; remote = [] }

-- due then, if its file is there, and else not due
abbrev pub put_if : Bool → ℕ × ℕ → List (ℕ × ℕ) → List (ℕ × ℕ)
put_if true e es = put e es
put_if false e es = removed e.1 es

-- the two parts of that: what is due then if its file is there, and what isn't due if that is so
abbrev pub entered_if : Bool → ℕ × ℕ → List (ℕ × ℕ) → List (ℕ × ℕ)
entered_if true e es = put e es
entered_if false e es = es

abbrev pub dropped_if : Bool → ℕ → List (ℕ × ℕ) → List (ℕ × ℕ)
dropped_if true n es = removed n es
dropped_if false n es = es

-- a message is known from now on, and is due then on each channel of which it has a file
abbrev pub learned : Known → ℕ → Messages → Messages
learned k due m = record {
  known = known.learned k m.known;
  local = put_if k.local (due, k.n) m.local;
  remote = put_if k.remote (due, k.n) m.remote;
}

-- its file of the local channel is gone
abbrev pub local_gone : ℕ → Messages → Messages
local_gone n m = record m { known = known.local_gone n m.known; local = removed n m.local }

-- its file of the remote channel is gone
abbrev pub remote_gone : ℕ → Messages → Messages
remote_gone n m = record m { known = known.remote_gone n m.known; remote = removed n m.remote }

-- it isn't known any more
abbrev pub forgotten : ℕ → Messages → Messages
forgotten n m = record { known = known.forgotten n m.known; local = removed n m.local; remote = removed n m.remote }
