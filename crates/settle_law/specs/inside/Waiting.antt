-- What is left to do for a spawner that waits (qmail-lspawn(8), qmail-rspawn(8)).
use Rattle.std.specs.Prelude.{◌≡◌, ℕ, true, false, Some}
use Rattle.call_fs.specs.declared.past.ChildData.{ChildData}
use Rattle.call_fs.specs.declared.past.NeedData.TheVariants as needs
use Rattle.call_fs.specs.declared.program.Ready.{Ready}
use Rattle.spawn_protocol.specs.declared.inbox.Intake.TheVariants.{Open}
use Rattle.spawner_parts.specs.declared.place.Place.{Place}
use Rattle.spawner_parts.specs.declared.row.Row.TheVariants.{Idle}
use Rattle.spawner_parts.specs.Asked.{runs_in}
use Rattle.spawner_parts.specs.Table.{due_at, is_asked, none_runs, row_now}

-- It is between two steps, no request is ready that it would take, and none of its programs that it was told of has ended. If none runs it still
-- takes requests.
pub record SpawnerWaits (p : Place) (ready : Ready) : Type 0 where
  pub row : p.row ≡ Idle
  pub unasked : is_asked p ready ≡ false
  pub unended : (slot : ℕ) → ready.child ≡ Some slot → runs_in p.running slot ≡ false
  pub takes : none_runs p.running ≡ true → p.inbox.intake ≡ Open

abbrev pub SpawnersWait : Type 0
SpawnersWait = (p : Place) (ready : Ready) (asked : ChildData) → due_at asked (row_now p ready) p ≡ needs.Wait → SpawnerWaits p ready
