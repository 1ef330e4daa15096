use Rattle.std.proofs.Common.{[]}
use Rattle.local_parts.specs.declared.arguments.LocalArgs.{LocalArgs}
use Rattle.local_deliver.specs.Stands.{Stands}
use Rattle.local_command.specs.Running.{IsUnderway}
use Rattle.local_command.proofs.delivering.run.Given as goal

-- it has run so far as its table says
abbrev pub invariant-loop : goal.invariant-loop
invariant-loop g l = (args : LocalArgs) → Stands l.initial.machine args []
    → IsUnderway (g.C.ChildWords.words l.words) args (Stands l.machine) l.injector (g.K.Clock.last l.initial.clock) l.counter
    (record { disk = g.D.CallFs.disk l.initial.disk; calls = g.D.CallFs.calls l.initial.disk; disk_faults = g.D.CallFs.faults l.initial.disk; moments = g.K.Clock.calls l.initial.clock; last = g.K.Clock.last l.initial.clock; left = g.M.Source.left l.initial.input; input_faults = g.M.Source.faults l.initial.input; taken = g.O.Sink.taken l.initial.output; output_faults = g.O.Sink.faults l.initial.output })
    (record { disk = g.D.CallFs.disk l.disk; calls = g.D.CallFs.calls l.disk; disk_faults = g.D.CallFs.faults l.disk; moments = g.K.Clock.calls l.clock; last = g.K.Clock.last l.clock; left = g.M.Source.left l.input; input_faults = g.M.Source.faults l.input; taken = g.O.Sink.taken l.output; output_faults = g.O.Sink.faults l.output })
    (record { posts = record { waiting = g.P.Posts.waiting l.initial.posts; asked = g.P.Posts.calls l.initial.posts; faults = g.P.Posts.faults l.initial.posts }; spawner = record { children = g.S.Spawner.children l.initial.spawner; calls = g.S.Spawner.calls l.initial.spawner; faults = g.S.Spawner.faults l.initial.spawner } })
    (record { posts = record { waiting = g.P.Posts.waiting l.posts; asked = g.P.Posts.calls l.posts; faults = g.P.Posts.faults l.posts }; spawner = record { children = g.S.Spawner.children l.spawner; calls = g.S.Spawner.calls l.spawner; faults = g.S.Spawner.faults l.spawner } })
