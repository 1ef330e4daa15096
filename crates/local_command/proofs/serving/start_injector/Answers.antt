use Rattle.program_runner.proofs.Serves.{begun}
use Rattle.local_command.proofs.Serves.{has_failed, has_started, lacked_memory}
use Rattle.local_command.proofs.serving.start_injector.Goals as goal

pub returns-in-Chan : goal.returns-in-Chan
returns-in-Chan g c =
    let b = begun _ _ _ c.start.result c.start.ensures in
    has_started _ c.start.result b.calls b.done _ _ b.spawns c.args.injector.now c.in-Chan.chan c.in-Chan.pid c.in-Chan.is

pub returns-in-Failed : goal.returns-in-Failed
returns-in-Failed g c =
    let b = begun _ _ _ c.start.result c.start.ensures in
    has_failed _ c.start.result b.calls b.done _ _ b.spawns c.args.injector.now c.in-Failed.is

pub returns-in-Memory : goal.returns-in-Memory
returns-in-Memory g c =
    let b = begun _ _ _ c.start.result c.start.ensures in
    lacked_memory _ c.start.result b.calls b.done _ _ b.spawns c.args.injector.now c.in-Memory.is
