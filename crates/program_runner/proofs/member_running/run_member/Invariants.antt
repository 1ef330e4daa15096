use Rattle.std.proofs.Common.{◌<◌, [], None}
use Rattle.program_runner.specs.Members.{GoesOnStill, uncounted}
use Rattle.program_runner.proofs.member_running.run_member.Given as goal

-- it has run so far as its table says
abbrev pub invariant-loop : goal.invariant-loop
invariant-loop g l =
    GoesOnStill g.M.Machine.next (g.C.ChildWords.words l.words) ((m : g.row.M.Denot) → 0 < g.M.Machine.takes_at_most m) (g.M.Machine.stands l.machine) (λ args. g.M.Machine.stands l.initial.machine args []) (g.K.Clock.last l.initial.clock) l.counter
    (record { disk = g.D.CallFs.disk l.initial.disk; calls = g.D.CallFs.calls l.initial.disk; disk_faults = g.D.CallFs.faults l.initial.disk; moments = None; last = g.K.Clock.last l.initial.clock; left = None; input_faults = uncounted; taken = g.O.Sink.taken l.initial.output; output_faults = g.O.Sink.faults l.initial.output })
    (record { disk = g.D.CallFs.disk l.disk; calls = g.D.CallFs.calls l.disk; disk_faults = g.D.CallFs.faults l.disk; moments = None; last = g.K.Clock.last l.clock; left = None; input_faults = uncounted; taken = g.O.Sink.taken l.output; output_faults = g.O.Sink.faults l.output })
    (record { moments = g.K.Clock.calls l.initial.clock; posts = record { waiting = g.P.Posts.waiting l.initial.posts; asked = g.P.Posts.calls l.initial.posts; faults = g.P.Posts.faults l.initial.posts }; spawner = record { children = g.S.Spawner.children l.initial.spawner; calls = g.S.Spawner.calls l.initial.spawner; faults = g.S.Spawner.faults l.initial.spawner }; lines = l.initial.lines })
    (record { moments = g.K.Clock.calls l.clock; posts = record { waiting = g.P.Posts.waiting l.posts; asked = g.P.Posts.calls l.posts; faults = g.P.Posts.faults l.posts }; spawner = record { children = g.S.Spawner.children l.spawner; calls = g.S.Spawner.calls l.spawner; faults = g.S.Spawner.faults l.spawner }; lines = l.lines })
