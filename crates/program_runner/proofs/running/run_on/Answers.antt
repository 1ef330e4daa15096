use Rattle.std.proofs.Common.{[], arith, refl}
use Rattle.call_fs.specs.declared.program.TheConstants.{INPUT_READY}
use Rattle.program_runner.specs.Runs.{most_turns}
use Rattle.program_runner.proofs.Runs.{as_long, begins, cut_short, may_turn, turned_on, turned_to_end}
use Rattle.program_runner.proofs.running.run_on.Goals as goal

pub loop-init : goal.loop-init
loop-init g c = (λ h. h, begins g.M.Machine.next INPUT_READY (g.K.Clock.last c.args.clock.now) (g.M.Machine.stands c.args.machine.now) (λ args. g.M.Machine.stands c.args.machine.now args []) _ (λ args s. s) (omega arith))

pub turn-requires-clause-may : goal.turn-requires-clause-may
turn-requires-clause-may g c =
    may_turn g.M.Machine.next INPUT_READY (g.K.Clock.last c.args.clock.now) (g.M.Machine.stands c.loop.machine) (λ args. g.M.Machine.stands c.args.machine.now args []) c.loop.counter _ _ c.requires.new.0 c.requires.new.1
    (λ args past read run. c.requires.plain args past read run) c.loop.invariant.1

pub returns-in-Some : goal.returns-in-Some
returns-in-Some g c = record {
  room = λ h. refl;
  cut = tt;
  ran = turned_to_end g.M.Machine.next INPUT_READY (g.K.Clock.last c.args.clock.now) (g.M.Machine.stands c.loop.machine) (g.M.Machine.stands c.turn.new.machine)
      (λ read found came. (mid : g.row.M.Denot) × g.M.Machine.looks c.loop.machine read found mid × g.M.Machine.goes mid came c.turn.new.machine)
      (λ args. g.M.Machine.stands c.args.machine.now args []) c.loop.counter _ _ _ c.in_ok-turn.field-0 c.in-Some.status c.in-Some.is c.loop.invariant.1 c.in_ok-turn.ensures.turned;
}

pub loop-preserved : goal.loop-preserved
loop-preserved g c = (
  λ h. (c.in_ok-turn.ensures.room (c.loop.invariant.0 h)).1,
  turned_on g.M.Machine.next INPUT_READY (g.K.Clock.last c.args.clock.now) (g.M.Machine.stands c.loop.machine) (g.M.Machine.stands c.turn.new.machine)
      (λ read found came. (mid : g.row.M.Denot) × g.M.Machine.looks c.loop.machine read found mid × g.M.Machine.goes mid came c.turn.new.machine)
      (λ args. g.M.Machine.stands c.args.machine.now args []) c.loop.counter _ _ _ c.in_ok-turn.field-0 c.in-None.is c.loop.invariant.1 c.in_ok-turn.ensures.turned,
)

pub returns : goal.returns
returns g c = record {
  room = λ h. refl;
  cut = tt;
  ran = as_long g.M.Machine.next INPUT_READY (g.K.Clock.last c.args.clock.now) (g.M.Machine.stands c.loop.machine) (λ args. g.M.Machine.stands c.args.machine.now args [])
      c.loop.counter most_turns _ _ (omega arith) c.loop.invariant.1;
}

pub returns-in_err-turn-clause-cut : goal.returns-in_err-turn-clause-cut
returns-in_err-turn-clause-cut g c =
    cut_short g.M.Machine.next INPUT_READY (g.K.Clock.last c.args.clock.now) (g.M.Machine.stands c.loop.machine) (λ read found came. Unit {0})
    (λ args. g.M.Machine.stands c.args.machine.now args []) c.loop.counter _ _ _ c.from_residual.result c.loop.invariant.1 c.in_err-turn.ensures.cut
