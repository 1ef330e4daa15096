-- Which reports are final, and what is noted of a recipient then (qmail-send(8)).
use Rattle.std.specs.Prelude.{ℕ, Bool, not, ◌||◌, Option, Some, None, if◌then◌else◌, ◌==◌}
use Rattle.send_jobs.specs.declared.attempts.Failure.{Failure}
use Rattle.spawn_protocol.specs.declared.report.Report.{Report}
use Rattle.spawn_protocol.specs.Report.{counted}

-- a recipient of which this was reported isn't tried again: K, D, and in a dying pass any other letter
abbrev pub is_final : ℕ → Bool → Bool
is_final letter dying = (letter == 75 || letter == 68) || dying

-- what is noted of it: nothing after K; after another letter than D also that the message is too old
abbrev pub failure_in : Report → Option Failure
failure_in r = if counted r.letter == 75 then None else Some (record { report = r.text; is_late = not (counted r.letter == 68) })
