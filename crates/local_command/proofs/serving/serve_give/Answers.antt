use Rattle.std.proofs.Common.{ap, refl}
use Rattle.call_fs.specs.declared.past.NeedData.TheVariants as needs
use Rattle.call_fs.specs.declared.program.Port.TheVariants as port
use Rattle.local_command.specs.Serving.{served_gave}
use Rattle.local_command.proofs.Serves.{feed_served, give_served, moves_as, moves_give, moves_none, served_as}
use Rattle.local_command.proofs.serving.serve_give.Goals as goal

pub returns-in-Output-clause-served : goal.returns-in-Output-clause-served
returns-in-Output-clause-served g c = λ words message into posts.
    served_as _ (needs.Give port.Output c.args.bytes.now) c.served_gave.result (served_gave c.give.result) into (ap (λ p. needs.Give p c.args.bytes.now) c.in-Output.is) c.served_gave.ensures words message
    c.args.injector c.args.injector _ _ (give_served words message c.args.injector into _ c.args.bytes.now c.give.result)

pub returns-in-Output-clause-streams : goal.returns-in-Output-clause-streams
returns-in-Output-clause-streams g c = λ into left faults.
    moves_as _ (needs.Give port.Output c.args.bytes.now) c.served_gave.result (served_gave c.give.result) into (ap (λ p. needs.Give p c.args.bytes.now) c.in-Output.is) c.served_gave.ensures _ _
    (moves_give _ _ into c.args.bytes.now c.give.result c.give.ensures.told c.give.ensures.cause refl refl)

pub returns-in-Program-clause-served : goal.returns-in-Program-clause-served
returns-in-Program-clause-served g c = λ words message into posts.
    served_as _ (needs.Give (port.Program _) c.args.bytes.now) c.served_gave-in-Program.result (served_gave c.feed_injector.result) into (ap (λ p. needs.Give p c.args.bytes.now) c.in-Program.is) c.served_gave-in-Program.ensures words message
    c.args.injector c.args.injector _ _ (feed_served words message into c.args.injector _ c.args.bytes.now c.feed_injector.result posts _ _ c.feed_injector.ensures)

pub returns-in-Program-clause-streams : goal.returns-in-Program-clause-streams
returns-in-Program-clause-streams g c = λ into left faults.
    moves_as _ (needs.Give (port.Program _) c.args.bytes.now) c.served_gave-in-Program.result c.served_gave-in-Program.result into (ap (λ p. needs.Give p c.args.bytes.now) c.in-Program.is) refl _ _
    (moves_none (needs.Give (port.Program _) c.args.bytes.now) _ _ tt)
