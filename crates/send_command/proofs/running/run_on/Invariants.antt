use Rattle.std.proofs.Common.{None}
use Rattle.program_runner.specs.ChildWords.{words_of}
use Rattle.program_runner.specs.Members.{uncounted}
use Rattle.send_command.proofs.Going.{Goes}
use Rattle.send_command.proofs.running.run_on.Given as goal

-- it has run so far as its table says, and its log took the lines of that
abbrev pub invariant-loop : goal.invariant-loop
invariant-loop g l =
    Goes (words_of l.words.dir.now l.words.program.now) l.turns
    (record { disk = g.D.CallFs.disk l.initial.disk; calls = g.D.CallFs.calls l.initial.disk; disk_faults = g.D.CallFs.faults l.initial.disk; moments = None; last = g.K.Clock.last l.initial.clock; left = None; input_faults = uncounted; taken = None; output_faults = 0 })
    (record { moments = g.K.Clock.calls l.initial.clock; posts = record { waiting = g.P.Posts.waiting l.initial.posts; asked = g.P.Posts.calls l.initial.posts; faults = g.P.Posts.faults l.initial.posts }; spawner = record { children = g.S.Spawner.children l.initial.spawn; calls = g.S.Spawner.calls l.initial.spawn; faults = g.S.Spawner.faults l.initial.spawn }; lines = l.initial.lines })
    (record { taken = g.L.Sink.taken l.initial.log; faults = g.L.Sink.faults l.initial.log })
    l.sender l.counter
    (record { disk = g.D.CallFs.disk l.disk; calls = g.D.CallFs.calls l.disk; disk_faults = g.D.CallFs.faults l.disk; moments = None; last = g.K.Clock.last l.clock; left = None; input_faults = uncounted; taken = None; output_faults = 0 })
    (record { moments = g.K.Clock.calls l.clock; posts = record { waiting = g.P.Posts.waiting l.posts; asked = g.P.Posts.calls l.posts; faults = g.P.Posts.faults l.posts }; spawner = record { children = g.S.Spawner.children l.spawn; calls = g.S.Spawner.calls l.spawn; faults = g.S.Spawner.faults l.spawn }; lines = l.lines })
    (record { taken = g.L.Sink.taken l.log; faults = g.L.Sink.faults l.log })
