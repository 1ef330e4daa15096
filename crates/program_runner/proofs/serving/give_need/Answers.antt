use Rattle.program_runner.proofs.Serves.{given_put, given_served}
use Rattle.outside.specs.declared.sink.Gave.TheVariants.{Done, Failed}
use Rattle.program_runner.proofs.serving.give_need.Goals as goal

pub returns-in-Done-clause-served : goal.returns-in-Done-clause-served
returns-in-Done-clause-served g c = λ words into. given_served words c.args.lines.now c.args.port c.args.bytes.now c.give_port.result Done _ _ c.in-Done.is c.give_port.ensures.given

pub returns-in-Done-clause-put : goal.returns-in-Done-clause-put
returns-in-Done-clause-put g c = λ into. given_put c.args.port c.args.bytes.now c.give_port.result Done _ _ _ _ c.in-Done.is c.give_port.ensures.put

pub returns-in-Failed-clause-served : goal.returns-in-Failed-clause-served
returns-in-Failed-clause-served g c = λ words into. given_served words c.args.lines.now c.args.port c.args.bytes.now c.give_port.result Failed _ _ c.in-Failed.is c.give_port.ensures.given

pub returns-in-Failed-clause-put : goal.returns-in-Failed-clause-put
returns-in-Failed-clause-put g c = λ into. given_put c.args.port c.args.bytes.now c.give_port.result Failed _ _ _ _ c.in-Failed.is c.give_port.ensures.put
