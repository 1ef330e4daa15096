-- What the parts of a cleaner are, and what their fields keep.
use Rattle.std.specs.Prelude.{◌≡◌, ◌≤◌, ◌<◌, length, IfSome}
use Rattle.queue_paths.specs.Names.{path}
use Rattle.queue_clean.specs.declared.intake.Intake.TheInside as intake
use Rattle.queue_clean.specs.declared.machine.Cleaner.TheInside as cleaner
use Rattle.queue_clean.specs.declared.named_row.NamedRow.TheInside as named
use Rattle.queue_clean.specs.Machine.{Intake, Machine, unlinked}
use Rattle.queue_clean.specs.declared.command.TheConstants.{MOST_COMMAND}
use Rattle.queue_clean.specs.declared.intake.TheConstants.{ROUND}

abbrev pub intake_of : intake.Inside → Intake
intake_of i = record { word = i.word; pending = i.taken; turn = i.turn }

-- at most 100 bytes of a command are kept, and what is counted modulo 31 is below 31
pub record IsCounted (i : intake.Inside) : Type 0 where
  pub short : length i.word ≤ MOST_COMMAND
  pub small : i.turn < ROUND

-- the name that the row unlinks for a command
abbrev pub HasName : named.Inside → Type 0
HasName i = IfSome (unlinked i.row) (λ name. i.name ≡ path name)

abbrev pub machine_of : cleaner.Inside → Machine
machine_of i = record { row = i.place; name = i.pid; intake = i.intake; present = i.present; ready = i.ready }
