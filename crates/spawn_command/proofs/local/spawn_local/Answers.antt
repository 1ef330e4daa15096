use Rattle.std.proofs.Common.{[], ◌∙◌}
use Rattle.program_runner.specs.ChildWords.{dir_word, words_of}
use Rattle.local_spawn.specs.Causes.{HasEnded}
use Rattle.local_spawn.specs.Table.{Next}
use Rattle.spawn_command.specs.Spawned.{begun_lines}
use Rattle.spawn_command.proofs.Ran.{as_dir, cut_at_once}
use Rattle.spawn_command.proofs.local.spawn_local.Goals as goal

pub returns-in-Ok : goal.returns-in-Ok
returns-in-Ok g c = as_dir Next HasEnded _ _ (c.as_slice-told.ensures ∙ c.in-Ok.ensures) _ _ _ _ _ _ _ c.spawn_told-status.ensures

pub returns-in-Err : goal.returns-in-Err
returns-in-Err g c = (begun_lines, cut_at_once Next (words_of (dir_word c.args.dir.now) []) HasEnded _ _)
