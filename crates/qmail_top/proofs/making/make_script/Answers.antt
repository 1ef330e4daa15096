use Rattle.qmail_top.proofs.Made.{made, unmade}
use Rattle.qmail_top.proofs.making.make_script.Goals as goal

pub returns-in-Ok : goal.returns-in-Ok
returns-in-Ok g c = made c.args.told _ c.in-Ok.ensures.all (c.in-Ok.ensures.cause.still (λ e. cc))

pub returns-in-Err : goal.returns-in-Err
returns-in-Err g c = unmade c.in-Err.why _ c.args.told _ c.status_of.ensures c.in-Err.ensures.part c.in-Err.ensures.cause
