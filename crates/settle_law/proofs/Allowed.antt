-- The slots of a sender that begins a turn.
use Rattle.std.proofs.Common.{◌≡◌, ℕ, length, None}
use Rattle.address_rules.specs.declared.controls.Controls.{Controls}
use Rattle.send_parts.specs.declared.row.Row.{Row}
use Rattle.send_parts.specs.declared.row.Row.TheVariants as at
use Rattle.send_core.specs.Papers.{controls_told}
use Rattle.send_core.specs.Past.{Account, account}
use Rattle.send_core.specs.Table.{place_after}
use Rattle.send_known.specs.declared.channel.Channel.{Channel}
use Rattle.send_known.specs.declared.channel.Channel.TheVariants.{Local, Remote}
use Rattle.send_jobs.specs.declared.slots.Slots.{Slots}
use Rattle.send_jobs.specs.Sending.{lane}
use Rattle.send_runs.specs.Status.{limit_by}
use Rattle.send_runs.proofs.Limits.{LimitsBy, Long, limits_kept}
use Rattle.settle_law.specs.Rests.{BeginsTurn}
use Rattle.settle_law.specs.inside.Slots.{SlotsAreAllowed}

long_at : (a : Channel → Account) (k : Controls) (row : Row) (s : Slots) → BeginsTurn row → LimitsBy a k row s → Long (λ c. limit_by c (a c) k) s
long_at a k (at.Turn point) s begins h = h
long_at a k (at.Start row) s begins h = absurd begins
long_at a k (at.TakeLink c) s begins h = absurd begins
long_at a k (at.Mark row m) s begins h = absurd begins
long_at a k (at.UnlinkFile c n p) s begins h = absurd begins
long_at a k (at.ReadFile c n begun reading) s begins h = absurd begins
long_at a k (at.Request c) s begins h = absurd begins
long_at a k (at.FindTodo search) s begins h = absurd begins
long_at a k at.InTodo s begins h = absurd begins
long_at a k (at.Finish row n) s begins h = absurd begins
long_at a k (at.Sweep row) s begins h = absurd begins
long_at a k (at.Ended status) s begins h = absurd begins

of_channel : (limit : Channel → ℕ) (s : Slots) (c : Channel) → Long limit s → length (lane c s).slots ≡ limit c
of_channel limit s Local h = h.0
of_channel limit s Remote h = h.1

pub slots_are_allowed : SlotsAreAllowed
slots_are_allowed past run begins c =
    let a : Channel → Account = λ e. account e past in
    let k = controls_told past in
    of_channel (λ e. limit_by e (a e) k) (place_after None past).slots c
    (long_at a k (place_after None past).row (place_after None past).slots begins (limits_kept None past run))
