use Rattle.std.proofs.Common.{◌<◌, [], Ok, ap, arith, refl, ◌∙◌}
use Rattle.program_runner.specs.Runs.{most_turns}
use Rattle.program_runner.proofs.Members.{as_long, begins, may_act, turned_on, turned_to_end, was_cut}
use Rattle.program_runner.proofs.member_running.run_member.Goals as goal

pub loop-init : goal.loop-init
loop-init g c = begins g.M.Machine.next (g.C.ChildWords.words c.args.words.now) ((m : g.row.M.Denot) → 0 < g.M.Machine.takes_at_most m) (λ args. g.M.Machine.stands c.args.machine.now args []) (g.K.Clock.last c.args.clock.now) (g.M.Machine.stands c.args.machine.now) _ _ (λ args s. s) (omega arith)

pub member_turn-requires-clause-may : goal.member_turn-requires-clause-may
member_turn-requires-clause-may g c =
    may_act g.M.Machine.next (g.C.ChildWords.words c.args.words.now) ((m : g.row.M.Denot) → 0 < g.M.Machine.takes_at_most m) (λ args. g.M.Machine.stands c.args.machine.now args []) (g.K.Clock.last c.args.clock.now) (g.M.Machine.stands c.loop.machine) c.loop.counter _ _ _ _ c.requires.new.0 c.requires.new.1
    (λ args past read ready run. c.requires.carried args past read ready run) c.loop.invariant

pub returns-in-Ok-Some : goal.returns-in-Ok-Some
returns-in-Ok-Some g c =
    turned_to_end g.M.Machine.next (g.C.ChildWords.words c.args.words.now) ((m : g.row.M.Denot) → 0 < g.M.Machine.takes_at_most m) (λ args. g.M.Machine.stands c.args.machine.now args []) (g.K.Clock.last c.args.clock.now)
    (g.M.Machine.stands c.loop.machine) (g.M.Machine.stands c.member_turn.new.machine)
    (λ read found came. (mid : g.row.M.Denot) × g.M.Machine.looks c.loop.machine read found mid × g.M.Machine.goes mid came c.member_turn.new.machine) (λ read found. g.M.Machine.looks c.loop.machine read found c.member_turn.new.machine) (g.M.Machine.takes_at_most c.loop.machine) (λ h. h c.loop.machine) c.loop.counter _ _ _ _ _ _ refl c.loop.invariant c.member_turn.result c.in-Ok-Some.status (c.in-Ok-Some.is ∙ ap Ok c.in-Ok-Some.field-0-is) c.member_turn.ensures.turned

pub returns-in-Err : goal.returns-in-Err
returns-in-Err g c =
    was_cut g.M.Machine.next (g.C.ChildWords.words c.args.words.now) ((m : g.row.M.Denot) → 0 < g.M.Machine.takes_at_most m) (λ args. g.M.Machine.stands c.args.machine.now args []) (g.K.Clock.last c.args.clock.now)
    (g.M.Machine.stands c.loop.machine) (g.M.Machine.stands c.member_turn.new.machine)
    (λ read found came. (mid : g.row.M.Denot) × g.M.Machine.looks c.loop.machine read found mid × g.M.Machine.goes mid came c.member_turn.new.machine) (λ read found. g.M.Machine.looks c.loop.machine read found c.member_turn.new.machine) (g.M.Machine.takes_at_most c.loop.machine) (λ h. h c.loop.machine) c.loop.counter _ _ _ _ _ _ refl c.loop.invariant c.member_turn.result c.in-Err.memory c.in-Err.is c.member_turn.ensures.turned

pub loop-preserved : goal.loop-preserved
loop-preserved g c =
    turned_on g.M.Machine.next (g.C.ChildWords.words c.args.words.now) ((m : g.row.M.Denot) → 0 < g.M.Machine.takes_at_most m) (λ args. g.M.Machine.stands c.args.machine.now args []) (g.K.Clock.last c.args.clock.now)
    (g.M.Machine.stands c.loop.machine) (g.M.Machine.stands c.member_turn.new.machine)
    (λ read found came. (mid : g.row.M.Denot) × g.M.Machine.looks c.loop.machine read found mid × g.M.Machine.goes mid came c.member_turn.new.machine) (λ read found. g.M.Machine.looks c.loop.machine read found c.member_turn.new.machine) (g.M.Machine.takes_at_most c.loop.machine) (λ h. h c.loop.machine) c.loop.counter _ _ _ _ _ _ refl c.loop.invariant c.member_turn.result (c.in-Ok-None.is ∙ ap Ok c.in-Ok-None.field-0-is) c.member_turn.ensures.turned

pub returns : goal.returns
returns g c = as_long g.M.Machine.next (g.C.ChildWords.words c.args.words.now) ((m : g.row.M.Denot) → 0 < g.M.Machine.takes_at_most m) (λ args. g.M.Machine.stands c.args.machine.now args []) (g.K.Clock.last c.args.clock.now) (g.M.Machine.stands c.loop.machine) c.loop.counter most_turns _ _ _ _ (omega arith) c.loop.invariant
