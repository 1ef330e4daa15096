use Rattle.std.proofs.Common.{refl}
use Rattle.address_rules.specs.Files.{controls_of, first_fault}
use Rattle.call_fs.specs.Maps.{put}
use Rattle.mail_bytes.specs.Decimal.{digits, value, number_of}
use Rattle.queue_paths.specs.Names.{parse, path}
use Rattle.retry_law.proofs.laws.worked_tries.Goals as goal

pub returns : goal.returns
unfolding digits value number_of path parse put controls_of first_fault
returns c = record { started = refl; over = refl; second = refl; shown = refl; missing = refl }
