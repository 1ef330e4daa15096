use Rattle.std.proofs.Common.{refl}
use Rattle.mail_bytes.specs.Decimal.{digits, value, number_of}
use Rattle.queue_paths.specs.Names.{parse, path}
use Rattle.send_runs.proofs.laws.worked_files.Goals as goal

pub returns : goal.returns
unfolding digits value number_of path parse
returns c = record { local = refl; remote = refl; cleared = refl; missing = refl; unlinked = refl }
