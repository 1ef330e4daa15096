use Rattle.std.proofs.Common.{inl, inr, refl, subst, [], Option, ℕ}
use Rattle.program_runner.specs.Runs.{RunsTo}
use Rattle.call_fs.specs.declared.program.TheConstants.{INPUT_READY}
use Rattle.queue_clean.specs.Table.{Next}
use Rattle.queue_clean.specs.Stands.{Stands}
use Rattle.clean_command.proofs.Ends.{cleaned, still_runs}
use Rattle.clean_command.proofs.cleaning.clean.Goals as goal

pub run_on-requires-clause-new : goal.run_on-requires-clause-new
run_on-requires-clause-new g c = (tt, c.new-cleaner.ensures tt)

pub returns-in-Ok-Some : goal.returns-in-Ok-Some
returns-in-Ok-Some g c = inl
    (cleaned (λ args. Stands c.new-cleaner.result args [])
    (record { disk = g.D.CallFs.disk c.args.disk.now; calls = g.D.CallFs.calls c.args.disk.now; disk_faults = g.D.CallFs.faults c.args.disk.now; moments = g.K.Clock.calls c.args.clock.now; last = g.K.Clock.last c.args.clock.now; left = g.M.Source.left c.args.message.now; input_faults = g.M.Source.faults c.args.message.now; taken = g.O.Sink.taken c.args.out.now; output_faults = g.O.Sink.faults c.args.out.now })
    (record { disk = g.D.CallFs.disk c.run_on.new.disk; calls = g.D.CallFs.calls c.run_on.new.disk; disk_faults = g.D.CallFs.faults c.run_on.new.disk; moments = g.K.Clock.calls c.run_on.new.clock; last = g.K.Clock.last c.run_on.new.clock; left = g.M.Source.left c.run_on.new.input; input_faults = g.M.Source.faults c.run_on.new.input; taken = g.O.Sink.taken c.run_on.new.output; output_faults = g.O.Sink.faults c.run_on.new.output })
    c.in-Ok-Some.status c.new-cleaner.ensures (subst (λ (e : Option ℕ). RunsTo e Next (Stands c.run_on.new.machine) (λ args. Stands c.new-cleaner.result args []) INPUT_READY (g.K.Clock.last c.args.clock.now)
    (record { disk = g.D.CallFs.disk c.args.disk.now; calls = g.D.CallFs.calls c.args.disk.now; disk_faults = g.D.CallFs.faults c.args.disk.now; moments = g.K.Clock.calls c.args.clock.now; last = g.K.Clock.last c.args.clock.now; left = g.M.Source.left c.args.message.now; input_faults = g.M.Source.faults c.args.message.now; taken = g.O.Sink.taken c.args.out.now; output_faults = g.O.Sink.faults c.args.out.now })
    (record { disk = g.D.CallFs.disk c.run_on.new.disk; calls = g.D.CallFs.calls c.run_on.new.disk; disk_faults = g.D.CallFs.faults c.run_on.new.disk; moments = g.K.Clock.calls c.run_on.new.clock; last = g.K.Clock.last c.run_on.new.clock; left = g.M.Source.left c.run_on.new.input; input_faults = g.M.Source.faults c.run_on.new.input; taken = g.O.Sink.taken c.run_on.new.output; output_faults = g.O.Sink.faults c.run_on.new.output })) c.in-Ok-Some.field-0-is c.in-Ok-Some.ensures.ran) c.answers_have_causes.ensures.ends c.answers_have_causes.ensures.answers)

pub returns-in-Ok-None : goal.returns-in-Ok-None
returns-in-Ok-None g c = inr (
  refl,
  still_runs (Stands c.run_on.new.machine) (λ args. Stands c.new-cleaner.result args [])
      (record { disk = g.D.CallFs.disk c.args.disk.now; calls = g.D.CallFs.calls c.args.disk.now; disk_faults = g.D.CallFs.faults c.args.disk.now; moments = g.K.Clock.calls c.args.clock.now; last = g.K.Clock.last c.args.clock.now; left = g.M.Source.left c.args.message.now; input_faults = g.M.Source.faults c.args.message.now; taken = g.O.Sink.taken c.args.out.now; output_faults = g.O.Sink.faults c.args.out.now })
      (record { disk = g.D.CallFs.disk c.run_on.new.disk; calls = g.D.CallFs.calls c.run_on.new.disk; disk_faults = g.D.CallFs.faults c.run_on.new.disk; moments = g.K.Clock.calls c.run_on.new.clock; last = g.K.Clock.last c.run_on.new.clock; left = g.M.Source.left c.run_on.new.input; input_faults = g.M.Source.faults c.run_on.new.input; taken = g.O.Sink.taken c.run_on.new.output; output_faults = g.O.Sink.faults c.run_on.new.output })
      c.new-cleaner.ensures (subst (λ (e : Option ℕ). RunsTo e Next (Stands c.run_on.new.machine) (λ args. Stands c.new-cleaner.result args []) INPUT_READY (g.K.Clock.last c.args.clock.now)
      (record { disk = g.D.CallFs.disk c.args.disk.now; calls = g.D.CallFs.calls c.args.disk.now; disk_faults = g.D.CallFs.faults c.args.disk.now; moments = g.K.Clock.calls c.args.clock.now; last = g.K.Clock.last c.args.clock.now; left = g.M.Source.left c.args.message.now; input_faults = g.M.Source.faults c.args.message.now; taken = g.O.Sink.taken c.args.out.now; output_faults = g.O.Sink.faults c.args.out.now })
      (record { disk = g.D.CallFs.disk c.run_on.new.disk; calls = g.D.CallFs.calls c.run_on.new.disk; disk_faults = g.D.CallFs.faults c.run_on.new.disk; moments = g.K.Clock.calls c.run_on.new.clock; last = g.K.Clock.last c.run_on.new.clock; left = g.M.Source.left c.run_on.new.input; input_faults = g.M.Source.faults c.run_on.new.input; taken = g.O.Sink.taken c.run_on.new.output; output_faults = g.O.Sink.faults c.run_on.new.output })) c.in-Ok-None.field-0-is c.in-Ok-None.ensures.ran),
)
