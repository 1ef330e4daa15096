use Rattle.std.proofs.Common.{List, ℕ, None, inr, refl, ◌∙◌, subst}
use Rattle.program_runner.specs.Lines.{LineState}
use Rattle.program_runner.specs.Members.{uncounted}
use Rattle.send_command.specs.Sent.{WasSent, no_lines}
use Rattle.send_command.proofs.sending.send.Goals as goal

pub returns-in_default : goal.returns-in_default
returns-in_default g c = (no_lines, inr (inr (record { memory = refl; rest = refl; beside_rest = refl; quiet = refl })))

pub returns : goal.returns
returns g c = subst (λ (d : List ℕ). (lines : LineState) × WasSent d c.args.program.now c.args.turns c.send_in.result
    (record { disk = g.D.CallFs.disk c.args.disk.now; calls = g.D.CallFs.calls c.args.disk.now; disk_faults = g.D.CallFs.faults c.args.disk.now; moments = None; last = g.K.Clock.last c.args.clock.now; left = None; input_faults = uncounted; taken = None; output_faults = 0 })
    (record { disk = g.D.CallFs.disk c.send_in.new.disk; calls = g.D.CallFs.calls c.send_in.new.disk; disk_faults = g.D.CallFs.faults c.send_in.new.disk; moments = None; last = g.K.Clock.last c.send_in.new.clock; left = None; input_faults = uncounted; taken = None; output_faults = 0 })
    (record { moments = g.K.Clock.calls c.args.clock.now; posts = record { waiting = g.P.Posts.waiting c.args.posts.now; asked = g.P.Posts.calls c.args.posts.now; faults = g.P.Posts.faults c.args.posts.now }; spawner = record { children = g.S.Spawner.children c.args.spawn.now; calls = g.S.Spawner.calls c.args.spawn.now; faults = g.S.Spawner.faults c.args.spawn.now }; lines = no_lines })
    (record { moments = g.K.Clock.calls c.send_in.new.clock; posts = record { waiting = g.P.Posts.waiting c.send_in.new.posts; asked = g.P.Posts.calls c.send_in.new.posts; faults = g.P.Posts.faults c.send_in.new.posts }; spawner = record { children = g.S.Spawner.children c.send_in.new.spawn; calls = g.S.Spawner.calls c.send_in.new.spawn; faults = g.S.Spawner.faults c.send_in.new.spawn }; lines = lines })
    (record { taken = g.L.Sink.taken c.args.log.now; faults = g.L.Sink.faults c.args.log.now })
    (record { taken = g.L.Sink.taken c.send_in.new.log; faults = g.L.Sink.faults c.send_in.new.log }))
    (c.as_slice.ensures ∙ c.in-Ok.ensures) c.send_in.ensures
