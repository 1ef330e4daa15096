use Rattle.std.proofs.Common.{refl}
use Rattle.address_rules.specs.Files.{controls_of, first_fault}
use Rattle.address_rules.specs.Names.{verp_of}
use Rattle.address_rules.specs.Routes.{route_of}
use Rattle.envelope_records.specs.Envelope.{read_envelope}
use Rattle.mail_bytes.specs.Decimal.{digits, value, number_of}
use Rattle.queue_paths.specs.Names.{path}
use Rattle.retry_schedule.specs.Retry.{root, next_retry}
use Rattle.todo_pass.specs.Sorting.{sort_todo}
use Rattle.todo_pass.specs.Todo.{read_head, read_todo}
use Rattle.send_runs.proofs.laws.logs_of_worked_runs.Goals as goal

pub returns : goal.returns
unfolding digits value number_of path root next_retry controls_of first_fault verp_of route_of sort_todo read_todo read_head read_envelope
returns c = record { remote = refl; deferred = refl }
