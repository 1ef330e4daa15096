use Rattle.std.proofs.Common.{rules}
use Rattle.call_fs.specs.Apply.{cut}
use Rattle.call_runs.proofs.Files.{cut_empty, file_changed, file_stays}
use Rattle.call_runs.proofs.Lookups.{number_missing}
use Rattle.call_runs.proofs.plain_files.cut.Goals as goal

pub returns-in-Some : goal.returns-in-Some
returns-in-Some c =
    file_changed c.args.files.now.items c.args.number c.in-Some.at (search rules) c.index_mut-entry.result.now c.index_mut-entry.ensures.value (cut c.args.len) c.cut.new.self c.cut.ensures

pub returns-in_default : goal.returns-in_default
returns-in_default c =
    file_stays c.args.files.now.items c.args.number (number_missing c.args.files.now.items c.args.number (search rules)) (cut c.args.len) (cut_empty c.args.len)
