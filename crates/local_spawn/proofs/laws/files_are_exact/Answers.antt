use Rattle.local_spawn.proofs.FileLaws.{one_file, good_file, one_bad_line, no_file, no_bad_line}
use Rattle.local_spawn.proofs.UserLemmas.{bad_is, no_dot_is, read_is}
use Rattle.local_spawn.proofs.laws.files_are_exact.Goals as goal

pub returns : goal.returns
returns c = record { file = one_file; good = good_file; bad = one_bad_line; dot = no_file; dotless = no_bad_line; users = read_is; unusable = bad_is; unended = no_dot_is }
