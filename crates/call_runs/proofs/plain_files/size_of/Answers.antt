use Rattle.std.proofs.Common.{length, sym, ap, ◌∙◌, rules}
use Rattle.call_fs.specs.Disk.{File}
use Rattle.call_runs.proofs.Files.{file_missing, file_there}
use Rattle.call_runs.proofs.Lookups.{number_missing, number_there}
use Rattle.call_runs.proofs.plain_files.size_of.Goals as goal

pub returns-in-Some-clause-length : goal.returns-in-Some-clause-length
returns-in-Some-clause-length c =
    let file = file_there c.args.files.now c.args.number _ (number_there c.args.files.now c.args.number c.in-Some.at (search rules) c.index-files-at.result) in
    (search rules) ∙ sym (ap (λ (f : File). length f.bytes) file)

pub returns-in-Some-clause-moment : goal.returns-in-Some-clause-moment
returns-in-Some-clause-moment c =
    let file = file_there c.args.files.now c.args.number _ (number_there c.args.files.now c.args.number c.in-Some.at (search rules) c.index-files-at.result) in
    (search rules) ∙ sym (ap (λ (f : File). f.moment) file)

pub returns-in-None-clause-length : goal.returns-in-None-clause-length
returns-in-None-clause-length c = sym (ap (λ (f : File). length f.bytes) (file_missing c.args.files.now c.args.number (number_missing c.args.files.now c.args.number (search rules))))

pub returns-in-None-clause-moment : goal.returns-in-None-clause-moment
returns-in-None-clause-moment c = sym (ap (λ (f : File). f.moment) (file_missing c.args.files.now c.args.number (number_missing c.args.files.now c.args.number (search rules))))
