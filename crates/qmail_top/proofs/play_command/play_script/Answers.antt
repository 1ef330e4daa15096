use Rattle.std.proofs.Common.{[], ◌∷◌, Contains, refl, sym, ◌∙◌, ap, subst, arith}
use Rattle.qmail_top.specs.declared.play_command.Failure.{Failure}
use Rattle.qmail_top.specs.declared.play_command.Failure.TheVariants.{Memory, Output, Input, Malformed}
use Rattle.qmail_top.specs.Command.{status_of}
use Rattle.qmail_top.proofs.Commands.{completes, malformed_why, status_reached, front_taken, all_safely}
use Rattle.qmail_top.proofs.play_command.play_script.Goals as goal

-- the status of a failure is one of those
known : (why : Failure) → Contains (0 ∷ 51 ∷ 53 ∷ 54 ∷ 91 ∷ []) (status_of why)
known Memory = (1, omega arith, refl)
known Output = (2, omega arith, refl)
known Input = (3, omega arith, refl)
known Malformed = (4, omega arith, refl)

pub returns-in-Err-clause-known : goal.returns-in-Err-clause-known
returns-in-Err-clause-known g c = subst (Contains (0 ∷ 51 ∷ 53 ∷ 54 ∷ 91 ∷ [])) (sym c.status_of.ensures) (known c.in-Err.why)

pub returns-in-Err-clause-complete : goal.returns-in-Err-clause-complete
returns-in-Err-clause-complete g c = rw c.status_of.ensures (completes c.in-Err.why (g.M.Source.left c.args.message.now) _ _ c.in-Err.ensures.cause c.in-Err.ensures.checked)

pub returns-in-Ok-clause-reached : goal.returns-in-Ok-clause-reached
returns-in-Ok-clause-reached g c =
    status_reached c.args.out.now c.play_message.new.out _ 0 (g.M.Source.left c.args.message.now) (g.M.Source.left c.play_message.new.message) (λ e. absurd (cc)) c.in-Ok.ensures.reached

pub returns-in-Err-clause-reached : goal.returns-in-Err-clause-reached
returns-in-Err-clause-reached g c =
    status_reached c.args.out.now c.play_message.new.out _ c.status_of.result (g.M.Source.left c.args.message.now) (g.M.Source.left c.play_message.new.message)
    (λ e. c.status_of.ensures ∙ ap status_of (malformed_why c.in-Err.why e)) c.in-Err.ensures.reached

pub returns-in-Err-clause-begins : goal.returns-in-Err-clause-begins
returns-in-Err-clause-begins g c =
    front_taken c.in-Err.why c.status_of.result (g.M.Source.left c.args.message.now) (g.O.Sink.taken c.args.out.now) (g.O.Sink.taken c.play_message.new.out) c.status_of.ensures c.in-Err.ensures.begins

pub returns-in-Ok-clause-prints : goal.returns-in-Ok-clause-prints
returns-in-Ok-clause-prints g c =
    all_safely _ (g.M.Source.left c.args.message.now) (g.O.Sink.taken c.args.out.now) (g.O.Sink.taken c.play_message.new.out) c.in-Ok.ensures.prints
