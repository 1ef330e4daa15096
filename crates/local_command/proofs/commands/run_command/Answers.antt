use Rattle.std.proofs.Common.{refl}
use Rattle.program_runner.proofs.Serves.{asked_start}
use Rattle.local_command.specs.Commands.{shell}
use Rattle.local_command.proofs.Feeding.{asked_finish, has_run, no_memory, not_started}
use Rattle.local_command.proofs.commands.run_command.Goals as goal

pub returns-in-Failed : goal.returns-in-Failed
returns-in-Failed g c =
    not_started c.args.text.now c.args.message.now c.start.result _ _ refl (asked_start _ _ (shell c.args.text.now) c.start.result c.start.ensures.chan c.start.ensures.told c.start.ensures.cause) c.in-Failed.is

pub returns-in-Memory : goal.returns-in-Memory
returns-in-Memory g c =
    no_memory c.args.text.now c.args.message.now c.start.result _ _ refl (asked_start _ _ (shell c.args.text.now) c.start.result c.start.ensures.chan c.start.ensures.told c.start.ensures.cause) c.in-Memory.is

pub returns-in-Chan : goal.returns-in-Chan
returns-in-Chan g c =
    has_run c.args.text.now c.args.message.now c.start.result c.in-Chan.chan _ c.end_of.result c.served_status.result _ _ _ _ _ c.in-Chan.is
    (asked_start _ _ (shell c.args.text.now) c.start.result c.start.ensures.chan c.start.ensures.told c.start.ensures.cause) c.feed_message.ensures
    (asked_finish _ _ c.in-Chan.chan c.finish.ensures.same c.finish.ensures.told c.finish.ensures.cause) c.end_of.ensures c.served_status.ensures
