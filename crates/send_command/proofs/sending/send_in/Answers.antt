use Rattle.std.proofs.Common.{None, inl, inr}
use Rattle.program_runner.specs.Members.{uncounted}
use Rattle.send_command.specs.Sent.{no_lines}
use Rattle.send_command.proofs.Whole.{ran, unstarted}
use Rattle.send_command.proofs.sending.send_in.Goals as goal

pub returns-in-Some : goal.returns-in-Some
returns-in-Some g c = (
  no_lines,
  inr (inl (unstarted c.args.dir.now c.args.program.now c.in-Some.status c.start_links-begun.result
      (record { disk = g.D.CallFs.disk c.args.disk.now; calls = g.D.CallFs.calls c.args.disk.now; disk_faults = g.D.CallFs.faults c.args.disk.now; moments = None; last = g.K.Clock.last c.args.clock.now; left = None; input_faults = uncounted; taken = None; output_faults = 0 })
      (record { moments = g.K.Clock.calls c.args.clock.now; posts = record { waiting = g.P.Posts.waiting c.args.posts.now; asked = g.P.Posts.calls c.args.posts.now; faults = g.P.Posts.faults c.args.posts.now }; spawner = record { children = g.S.Spawner.children c.args.spawn.now; calls = g.S.Spawner.calls c.args.spawn.now; faults = g.S.Spawner.faults c.args.spawn.now }; lines = no_lines })
      (record { children = g.S.Spawner.children c.start_links-begun.new.spawn; calls = g.S.Spawner.calls c.start_links-begun.new.spawn; faults = g.S.Spawner.faults c.start_links-begun.new.spawn })
      (record { children = g.S.Spawner.children c.end_links.new.spawn; calls = g.S.Spawner.calls c.end_links.new.spawn; faults = g.S.Spawner.faults c.end_links.new.spawn })
      (record { taken = g.L.Sink.taken c.args.log.now; faults = g.L.Sink.faults c.args.log.now })
      c.in-Some.is c.start_links-begun.ensures c.end_links.ensures)),
)

pub returns-in-None : goal.returns-in-None
returns-in-None g c = (
  c.run_sender-status.ensures.0,
  inl (ran c.args.dir.now c.args.program.now c.args.turns c.run_sender-status.result c.start_links-begun.result
      (record { disk = g.D.CallFs.disk c.args.disk.now; calls = g.D.CallFs.calls c.args.disk.now; disk_faults = g.D.CallFs.faults c.args.disk.now; moments = None; last = g.K.Clock.last c.args.clock.now; left = None; input_faults = uncounted; taken = None; output_faults = 0 })
      (record { disk = g.D.CallFs.disk c.run_sender-status.new.disk; calls = g.D.CallFs.calls c.run_sender-status.new.disk; disk_faults = g.D.CallFs.faults c.run_sender-status.new.disk; moments = None; last = g.K.Clock.last c.run_sender-status.new.clock; left = None; input_faults = uncounted; taken = None; output_faults = 0 })
      (record { moments = g.K.Clock.calls c.args.clock.now; posts = record { waiting = g.P.Posts.waiting c.args.posts.now; asked = g.P.Posts.calls c.args.posts.now; faults = g.P.Posts.faults c.args.posts.now }; spawner = record { children = g.S.Spawner.children c.args.spawn.now; calls = g.S.Spawner.calls c.args.spawn.now; faults = g.S.Spawner.faults c.args.spawn.now }; lines = no_lines })
      (record { moments = g.K.Clock.calls c.run_sender-status.new.clock; posts = record { waiting = g.P.Posts.waiting c.run_sender-status.new.posts; asked = g.P.Posts.calls c.run_sender-status.new.posts; faults = g.P.Posts.faults c.run_sender-status.new.posts }; spawner = record { children = g.S.Spawner.children c.run_sender-status.new.spawn; calls = g.S.Spawner.calls c.run_sender-status.new.spawn; faults = g.S.Spawner.faults c.run_sender-status.new.spawn }; lines = c.run_sender-status.ensures.0 })
      (record { children = g.S.Spawner.children c.start_links-begun.new.spawn; calls = g.S.Spawner.calls c.start_links-begun.new.spawn; faults = g.S.Spawner.faults c.start_links-begun.new.spawn })
      (record { children = g.S.Spawner.children c.end_links-in-None.new.spawn; calls = g.S.Spawner.calls c.end_links-in-None.new.spawn; faults = g.S.Spawner.faults c.end_links-in-None.new.spawn })
      (record { taken = g.L.Sink.taken c.args.log.now; faults = g.L.Sink.faults c.args.log.now })
      (record { taken = g.L.Sink.taken c.run_sender-status.new.log; faults = g.L.Sink.faults c.run_sender-status.new.log })
      c.in-None.is c.start_links-begun.ensures c.run_sender-status.ensures.1 c.end_links-in-None.ensures),
)
