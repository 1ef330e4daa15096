use Rattle.std.proofs.Common.{ap, refl}
use Rattle.call_fs.specs.declared.past.NeedData.TheVariants as needs
use Rattle.call_fs.specs.declared.program.Port.TheVariants as port
use Rattle.local_command.specs.Serving.{served_took}
use Rattle.local_command.proofs.Serves.{ask_served, moves_as, moves_none, moves_take, served_as, take_served}
use Rattle.local_command.proofs.serving.serve_take.Goals as goal

pub returns-in-Input-clause-served : goal.returns-in-Input-clause-served
returns-in-Input-clause-served g c = λ words message.
    served_as _ (needs.Take port.Input) c.served_took.result (served_took c.take.result) c.take.new.buffer (ap needs.Take c.in-Input.is) c.served_took.ensures words message c.args.injector c.args.injector _ _
    (take_served words message c.args.injector c.take.new.buffer _ c.take.result)

pub returns-in-Input-clause-streams : goal.returns-in-Input-clause-streams
returns-in-Input-clause-streams g c = λ taken faults.
    moves_as _ (needs.Take port.Input) c.served_took.result (served_took c.take.result) c.take.new.buffer (ap needs.Take c.in-Input.is) c.served_took.ensures _ _
    (moves_take _ _ c.take.new.buffer c.take.result c.take.ensures.told c.take.ensures.cause refl refl)

pub returns-in-Status-clause-served : goal.returns-in-Status-clause-served
returns-in-Status-clause-served g c = λ words message.
    served_as _ (needs.Take (port.Status _)) c.ask_injector.result c.ask_injector.result c.args.into.now (ap needs.Take c.in-Status.is) refl words message c.args.injector c.args.injector _ _
    (ask_served words message c.args.into.now c.args.injector _ c.ask_injector.result _ _ c.ask_injector.ensures)

pub returns-in-Status-clause-fits : goal.returns-in-Status-clause-fits
returns-in-Status-clause-fits g c = c.ask_injector.ensures.fits

pub returns-in-Status-clause-streams : goal.returns-in-Status-clause-streams
returns-in-Status-clause-streams g c = λ taken faults.
    moves_as _ (needs.Take (port.Status _)) c.ask_injector.result c.ask_injector.result c.args.into.now (ap needs.Take c.in-Status.is) refl _ _ (moves_none (needs.Take (port.Status _)) _ _ tt)
