-- An injector whose link to todo was answered Ok has queued its message, by its table.
use Rattle.std.proofs.Common.{◌≡◌, ℕ, List, refl}
use Rattle.call_fs.specs.Past.{HasCall}
use Rattle.call_fs.specs.declared.past.Own.{Own}
use Rattle.queue_inject.specs.declared.injection.Arguments.{Arguments}
use Rattle.queue_inject.specs.declared.row.Row.{Row}
use Rattle.queue_inject.specs.declared.row.Row.TheVariants as at
use Rattle.queue_inject.specs.Causes.{IsQueuing}
use Rattle.queue_inject.specs.Run.{IsRun}
use Rattle.queue_inject.specs.Table.{place_after}
use Rattle.queue_inject.proofs.Runs.{IsAt, IsEnding, run_at}
use Rattle.queue_inject.proofs.Runs.IsEnding.{ByCall, ByInput}

unqueued : (args : Arguments) (past : List Own) (status : ℕ) → IsEnding args past status → ¬ (HasCall past IsQueuing)
unqueued args past status (ByInput clear fault) = clear.unqueued
unqueued args past status (ByCall none failed one) = none

at_row : (args : Arguments) (past : List Own) (row : Row) → IsAt args past row → HasCall past IsQueuing → row ≡ at.Queued
at_row args past at.Queued here made = refl
at_row args past (at.Create k) here made = absurd (here.0.unqueued made)
at_row args past (at.LinkMess k n fd) here made = absurd (here.0.unqueued made)
at_row args past (at.UnlinkPid k n fd) here made = absurd (here.0.unqueued made)
at_row args past (at.AppendMess n fd done) here made = absurd (here.unqueued made)
at_row args past (at.SyncMess n fd) here made = absurd (here.0.unqueued made)
at_row args past (at.CreateIntd n) here made = absurd (here.0.unqueued made)
at_row args past (at.AppendTodo n fd done) here made = absurd (here.0.unqueued made)
at_row args past (at.SyncTodo n fd) here made = absurd (here.0.unqueued made)
at_row args past (at.LinkTodo n) here made = absurd (here.0.unqueued made)
at_row args past (at.CleanIntd n status) here made = absurd (unqueued args past status here made)
at_row args past (at.CleanMess n status) here made = absurd (unqueued args past status here made)
at_row args past (at.Failed status) here made = absurd (unqueued args past status here made)

pub has_queued : (args : Arguments) (past : List Own) → IsRun args past → HasCall past IsQueuing → place_after args past ≡ at.Queued
has_queued args past run made = at_row args past (place_after args past) (run_at args past run) made
