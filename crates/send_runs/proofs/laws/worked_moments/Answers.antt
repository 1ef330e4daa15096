use Rattle.std.proofs.Common.{refl}
use Rattle.address_rules.specs.Files.{controls_of, first_fault}
use Rattle.call_fs.specs.Maps.{put}
use Rattle.mail_bytes.specs.Decimal.{digits, value, number_of}
use Rattle.queue_paths.specs.Names.{parse, path}
use Rattle.retry_schedule.specs.Retry.{next_retry, root}
use Rattle.send_runs.proofs.laws.worked_moments.Goals as goal

pub returns : goal.returns
unfolding digits value number_of path parse put controls_of first_fault next_retry root
returns c = record { learnt = refl; started = refl; reported = refl; marked = refl; over = refl; second = refl; unlinked = refl; failed = refl }
