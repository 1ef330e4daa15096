use Rattle.std.proofs.Common.{rules, ◌≡◌, Err}
use Rattle.world_events.specs.declared.answers.WorldError.TheVariants.{Memory}
use Rattle.mail_world.proofs.Moves.{moved}
use Rattle.mail_world.proofs.by_turns.WorldStepped.apply.Goals as goal

pub returns-clause-moves : goal.returns-clause-moves
returns-clause-moves g c =
    let s = c.step-answer.ensures in
    moved _ _ _ _ _ c.step-answer.result s.event s.at s.idle s.present s.goes_on s.plan s.unknown.0 (λ name at. (s.gone name at).0) s.waits s.taken s.alive s.past (λ e. search rules) s.err
