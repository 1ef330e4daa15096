use Rattle.std.proofs.Common.{ℕ, List, Ok, Some, ap, arith, refl, subst, ◌∙◌, inl}
use Rattle.mail_bytes.specs.Told.{Meets}
use Rattle.outside.specs.Streams.{Gives}
use Rattle.outside.specs.declared.sink.Gave.TheVariants as gives
use Rattle.program_runner.specs.ChildWords.{words_of}
use Rattle.program_runner.proofs.Members.{may_act}
use Rattle.send_core.specs.Stands.{Stands}
use Rattle.send_core.specs.Table.{Next}
use Rattle.send_command.specs.Sent.{Is}
use Rattle.send_command.proofs.Carried.{carried}
use Rattle.send_command.proofs.Going.{begun, over, starved, still, turned_all, turned_part}
use Rattle.send_command.proofs.Why.{run_over}
use Rattle.send_command.proofs.running.run_on.Goals as goal

pub loop-init : goal.loop-init
loop-init g c = begun (words_of c.args.words.now.dir.now c.args.words.now.program.now) c.args.turns _ _ _ c.args.sender.now c.requires.new c.requires.quiet

pub member_turn-requires-clause-may : goal.member_turn-requires-clause-may
member_turn-requires-clause-may g c =
    may_act Next (words_of c.args.words.now.dir.now c.args.words.now.program.now) (Unit {0}) (Is c.args.turns) (g.K.Clock.last c.args.clock.now) (Stands c.loop.sender) c.loop.counter _ _ _ _ (Some c.args.turns) refl
    (λ args past read ready run. carried args past read ready) c.loop.invariant.run

pub returns-in-Ok-Some : goal.returns-in-Ok-Some
returns-in-Ok-Some g c =
    inl (run_over (words_of c.args.words.now.dir.now c.args.words.now.program.now) c.args.turns c.in-Ok-Some.status _ _ _ _ _ _ c.requires.fresh
    (over (words_of c.args.words.now.dir.now c.args.words.now.program.now) c.args.turns _ _ _ c.loop.sender c.member_turn.new.machine c.loop.counter 18446744073709551615 (omega arith) _ _ _ _ refl _ c.loop.invariant
    c.member_turn.result c.in-Ok-Some.status (c.in-Ok-Some.is ∙ ap Ok c.in-Ok-Some.field-0-is) c.member_turn.ensures.turned))

pub returns-in-Err : goal.returns-in-Err
returns-in-Err g c =
    starved (words_of c.args.words.now.dir.now c.args.words.now.program.now) c.args.turns _ _ _ c.loop.sender c.member_turn.new.machine c.loop.counter 18446744073709551615 (omega arith) _ _ _ _ refl _ c.loop.invariant
    c.member_turn.result _ c.in-Err.is c.member_turn.ensures.turned

-- the lines of the event couldn't be given
pub returns-in-Failed : goal.returns-in-Failed
returns-in-Failed g c =
    turned_part (words_of c.args.words.now.dir.now c.args.words.now.program.now) c.args.turns _ _ _ c.loop.sender c.member_turn.new.machine c.loop.counter 18446744073709551615 (omega arith) _ _ _ _ refl _ _ c.loop.invariant
    c.member_turn.result (c.in-Ok-None.is ∙ ap Ok c.in-Ok-None.field-0-is) c.member_turn.ensures.turned
    (subst (λ (l : List ℕ). Meets (g.L.Sink.taken c.loop.log) (g.L.Sink.taken c.give_lines.new.log) (Gives gives.Failed l)) c.log.ensures.log c.in-Failed.ensures.told)
    c.in-Failed.ensures.cause.later (c.in-Failed.ensures.cause.rose refl)

pub loop-preserved : goal.loop-preserved
loop-preserved g c =
    turned_all (words_of c.args.words.now.dir.now c.args.words.now.program.now) c.args.turns _ _ _ c.loop.sender c.member_turn.new.machine c.loop.counter 18446744073709551615 (omega arith) _ _ _ _ refl _ _ c.loop.invariant
    c.member_turn.result (c.in-Ok-None.is ∙ ap Ok c.in-Ok-None.field-0-is) c.member_turn.ensures.turned c.clear_log.new.self c.clear_log.ensures.rest
    (subst (λ (l : List ℕ). Meets (g.L.Sink.taken c.loop.log) (g.L.Sink.taken c.give_lines.new.log) (Gives gives.Done l)) c.log.ensures.log c.in-Done.ensures.told)
    (c.in-Done.ensures.cause.still (λ is. cc))

pub returns : goal.returns
returns g c = still (words_of c.args.words.now.dir.now c.args.words.now.program.now) c.args.turns _ _ _ c.loop.sender c.loop.counter _ _ _ (omega arith) c.loop.invariant
