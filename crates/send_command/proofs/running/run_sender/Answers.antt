use Rattle.std.proofs.Common.{None, subst}
use Rattle.program_runner.specs.ChildWords.{words_of}
use Rattle.program_runner.specs.Lines.{LineState}
use Rattle.program_runner.specs.Members.{uncounted}
use Rattle.send_command.specs.Sent.{HasRun, lines_with}
use Rattle.send_command.proofs.Whole.{lines_are, nothing_run}
use Rattle.send_command.proofs.running.run_sender.Goals as goal

pub returns-in_default : goal.returns-in_default
returns-in_default g c = (
  lines_with c.args.links.clean c.args.links.lspawn c.args.links.rspawn,
  nothing_run (words_of c.args.dir.now c.args.program.now) c.args.turns
      (record { disk = g.D.CallFs.disk c.args.disk.now; calls = g.D.CallFs.calls c.args.disk.now; disk_faults = g.D.CallFs.faults c.args.disk.now; moments = None; last = g.K.Clock.last c.args.clock.now; left = None; input_faults = uncounted; taken = None; output_faults = 0 })
      (record { moments = g.K.Clock.calls c.args.clock.now; posts = record { waiting = g.P.Posts.waiting c.args.posts.now; asked = g.P.Posts.calls c.args.posts.now; faults = g.P.Posts.faults c.args.posts.now }; spawner = record { children = g.S.Spawner.children c.args.spawn.now; calls = g.S.Spawner.calls c.args.spawn.now; faults = g.S.Spawner.faults c.args.spawn.now }; lines = lines_with c.args.links.clean c.args.links.lspawn c.args.links.rspawn })
      (record { taken = g.L.Sink.taken c.args.log.now; faults = g.L.Sink.faults c.args.log.now }),
)

pub run_on-status-requires-clause-new : goal.run_on-status-requires-clause-new
run_on-status-requires-clause-new g c = c.in-Ok.ensures.stands

pub run_on-status-requires-clause-quiet : goal.run_on-status-requires-clause-quiet
run_on-status-requires-clause-quiet g c = c.in-Ok.ensures.log.1

pub run_on-status-requires-clause-fresh : goal.run_on-status-requires-clause-fresh
run_on-status-requires-clause-fresh g c = c.new-lines.ensures.kept

pub returns : goal.returns
returns g c = (
  c.run_on-status.new.lines,
  subst (λ (l : LineState). HasRun (words_of c.args.dir.now c.args.program.now) c.args.turns c.run_on-status.result
      (record { disk = g.D.CallFs.disk c.args.disk.now; calls = g.D.CallFs.calls c.args.disk.now; disk_faults = g.D.CallFs.faults c.args.disk.now; moments = None; last = g.K.Clock.last c.args.clock.now; left = None; input_faults = uncounted; taken = None; output_faults = 0 })
      (record { disk = g.D.CallFs.disk c.run_on-status.new.disk; calls = g.D.CallFs.calls c.run_on-status.new.disk; disk_faults = g.D.CallFs.faults c.run_on-status.new.disk; moments = None; last = g.K.Clock.last c.run_on-status.new.clock; left = None; input_faults = uncounted; taken = None; output_faults = 0 })
      (record { moments = g.K.Clock.calls c.args.clock.now; posts = record { waiting = g.P.Posts.waiting c.args.posts.now; asked = g.P.Posts.calls c.args.posts.now; faults = g.P.Posts.faults c.args.posts.now }; spawner = record { children = g.S.Spawner.children c.args.spawn.now; calls = g.S.Spawner.calls c.args.spawn.now; faults = g.S.Spawner.faults c.args.spawn.now }; lines = l })
      (record { moments = g.K.Clock.calls c.run_on-status.new.clock; posts = record { waiting = g.P.Posts.waiting c.run_on-status.new.posts; asked = g.P.Posts.calls c.run_on-status.new.posts; faults = g.P.Posts.faults c.run_on-status.new.posts }; spawner = record { children = g.S.Spawner.children c.run_on-status.new.spawn; calls = g.S.Spawner.calls c.run_on-status.new.spawn; faults = g.S.Spawner.faults c.run_on-status.new.spawn }; lines = c.run_on-status.new.lines })
      (record { taken = g.L.Sink.taken c.args.log.now; faults = g.L.Sink.faults c.args.log.now })
      (record { taken = g.L.Sink.taken c.run_on-status.new.log; faults = g.L.Sink.faults c.run_on-status.new.log }))
      (lines_are c.new-lines.result c.args.links.clean c.args.links.lspawn c.args.links.rspawn c.new-lines.ensures.links c.new-lines.ensures.programs c.new-lines.ensures.over c.new-lines.ensures.kept) c.run_on-status.ensures,
)
