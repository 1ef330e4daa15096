use Rattle.std.proofs.Common.{[], arith}
use Rattle.program_runner.specs.ChildWords.{words_of}
use Rattle.local_spawn.specs.Causes.{HasEnded}
use Rattle.local_spawn.specs.Table.{Next}
use Rattle.spawn_command.specs.Spawned.{begun_lines}
use Rattle.spawn_command.proofs.Laws.{local_carried, local_laws}
use Rattle.spawn_command.proofs.Ran.{cut_at_once, spawned}
use Rattle.spawn_command.proofs.local.spawn_told.Goals as goal

pub returns-in-Err : goal.returns-in-Err
returns-in-Err g c = (begun_lines, cut_at_once Next (words_of c.args.dir.now []) HasEnded _ _)

pub run_member-ran-requires-clause-new : goal.run_member-ran-requires-clause-new
run_member-ran-requires-clause-new g c = (tt, c.in-Ok.ensures tt)

pub run_member-ran-requires-clause-carried : goal.run_member-ran-requires-clause-carried
run_member-ran-requires-clause-carried g c = λ args past now ready run. local_carried past now ready

pub returns-in-Ok : goal.returns-in-Ok
returns-in-Ok g c = (
  c.run_member-ran.new.lines,
  spawned Next (words_of c.args.dir.now []) HasEnded _ _ _
      (λ m. omega arith) (λ args. c.in-Ok.ensures args) local_laws (λ first last turns. c.lines_tell_the_past.ensures.failures (words_of c.args.dir.now []) first last turns)
      c.new-lines.result c.new-lines.ensures.links c.new-lines.ensures.programs c.new-lines.ensures.over c.new-lines.ensures.kept
      _ _ _ _ _ _ c.run_member-ran.result c.run_member-ran.ensures _ c.status_of.ensures,
)
