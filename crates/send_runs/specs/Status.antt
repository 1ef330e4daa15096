-- The status line of the log (qmail-log(5)), by the sender's past alone.
use Rattle.std.specs.Prelude.{ℕ, zero, suc, ◌+◌, min, List, Option, cond, is_some}
use Rattle.address_rules.specs.declared.controls.Controls.{Controls}
use Rattle.call_fs.specs.declared.past.Own.{Own}
use Rattle.queue_limits.specs.declared.counts.TheConstants.{MAX_SLOTS}
use Rattle.send_core.specs.Papers.{controls_told}
use Rattle.send_core.specs.Past.{Account, Task, account}
use Rattle.send_known.specs.declared.channel.Channel.{Channel}
use Rattle.send_known.specs.declared.channel.Channel.TheVariants.{Local, Remote}
use Rattle.send_log.specs.Lines.{status}

-- how many deliveries the control file of a channel allows
abbrev pub allowed : Channel → Controls → ℕ
allowed Local controls = controls.concurrency_local
allowed Remote controls = controls.concurrency_remote

-- how many may be in flight: so many, no more than the spawner runs at once, and at most `MAX_SLOTS`
abbrev pub limit_by : Channel → Account → Controls → ℕ
limit_by c a controls = min (min a.limit (allowed c controls)) MAX_SLOTS

abbrev pub limit_in : List Own → Channel → ℕ
limit_in past c = limit_by c (account c past) (controls_told past)

-- in how many of its first slots something is in flight
abbrev pub flying : ℕ → (ℕ → Option Task) → ℕ
flying zero of = 0
flying (suc k) of = cond (is_some (of 0)) 1 0 + flying k (λ slot. of (suc slot))

-- it tells how many deliveries are in flight, and how many may be
abbrev pub status_of : (Channel → ℕ) → (Channel → Account) → List ℕ
status_of limit a = status (flying (limit Local) (a Local).in_flight) (limit Local) (flying (limit Remote) (a Remote).in_flight) (limit Remote)

abbrev pub status_after : List Own → List ℕ
status_after past = status_of (limit_in past) (λ e. account e past)
