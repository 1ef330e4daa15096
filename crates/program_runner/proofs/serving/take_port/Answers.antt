use Rattle.std.proofs.Common.{[], None, refl, sym, subst, ◌∙◌}
use Rattle.program_runner.proofs.Serves.{IsChannel, if_ok, program_fits, program_possible, status_piece, status_possible, took_fits, took_of, took_of_program, took_possible, took_status}
use Rattle.program_runner.proofs.serving.take_port.Goals as goal

pub returns-in-Link-clause-served : goal.returns-in-Link-clause-served
returns-in-Link-clause-served g c =
    if_ok c.take_of.result _ _ (λ s t. took_of c.args.lines.now _ c.args.port _ c.in-Link.chan c.args.most s _ (sym c.line.ensures ∙ c.in-Link.is) t) c.take_of.ensures.ok

pub returns-in-Link-clause-possible : goal.returns-in-Link-clause-possible
returns-in-Link-clause-possible g c =
    if_ok c.take_of.result _ _ (λ s t. took_possible c.args.lines.now c.take_of.new.self c.args.port (record { children = []; calls = None; faults = 0 }) c.in-Link.chan c.args.most s _ (subst (λ x. IsChannel x c.in-Link.chan) (sym c.in-Link.is ∙ c.line.ensures) refl) t) c.take_of.ensures.ok

pub returns-in-Link-clause-fits : goal.returns-in-Link-clause-fits
returns-in-Link-clause-fits g c = if_ok c.take_of.result _ _ (λ s t. took_fits c.args.lines.now c.take_of.new.self c.in-Link.chan c.args.most s _ t) c.take_of.ensures.ok

pub returns-in-Program-clause-served : goal.returns-in-Program-clause-served
returns-in-Program-clause-served g c =
    if_ok c.take_of_program.result _ _ (λ s t. took_of_program c.args.lines.now _ c.args.port _ c.in-Program.slot c.in-Program.chan (sym c.line.ensures ∙ c.in-Program.is) c.args.most s _ t) c.take_of_program.ensures.ok

pub returns-in-Program-clause-possible : goal.returns-in-Program-clause-possible
returns-in-Program-clause-possible g c =
    if_ok c.take_of_program.result _ _ (λ s t. program_possible c.args.lines.now c.take_of_program.new.self c.args.port (record { children = []; calls = None; faults = 0 }) c.in-Program.slot c.in-Program.chan
    (sym c.line.ensures ∙ c.in-Program.is) c.args.most s _ t) c.take_of_program.ensures.ok

pub returns-in-Program-clause-fits : goal.returns-in-Program-clause-fits
returns-in-Program-clause-fits g c = if_ok c.take_of_program.result _ _ (λ s t. program_fits c.args.lines.now c.take_of_program.new.self c.in-Program.slot c.in-Program.chan c.args.most s _ t) c.take_of_program.ensures.ok

pub returns-in-Status-clause-served : goal.returns-in-Status-clause-served
returns-in-Status-clause-served g c =
    took_status c.args.lines.now _ c.args.port c.in-Status.slot c.in-Status.chan c.take_status.result _ _ _ (sym c.line.ensures ∙ c.in-Status.is) c.take_status.ensures

pub returns-in-Status-clause-possible : goal.returns-in-Status-clause-possible
returns-in-Status-clause-possible g c =
    status_possible c.args.lines.now _ c.args.port c.in-Status.slot c.in-Status.chan c.take_status.result _ _ _ (sym c.line.ensures ∙ c.in-Status.is) c.take_status.ensures c.args.most

pub returns-in-Status-clause-fits : goal.returns-in-Status-clause-fits
returns-in-Status-clause-fits g c =
    status_piece c.args.lines.now _ c.args.port c.in-Status.slot c.in-Status.chan c.take_status.result [] _ _ (sym c.line.ensures ∙ c.in-Status.is) c.take_status.ensures
