use Rattle.program_runner.proofs.Serves.{asked_status}
use Rattle.local_command.proofs.commands.end_of.Goals as goal

pub returns : goal.returns
returns g c = record {
  asked = c.await_end.ensures.asked;
  awaits = c.await_end.ensures.awaits;
  posts = c.await_end.ensures.posts;
  spawner = asked_status _ _ c.args.chan c.status.result c.status.ensures.same c.status.ensures.told c.status.ensures.cause;
}
