use Rattle.std.proofs.Common.{◌<◌, length, refl, arith}
use Rattle.script_lines.proofs.ActorNames.{actor_short}
use Rattle.script_lines.proofs.reading.read_actor.Goals as goal

pub returns-in-None-clause-err : goal.returns-in-None-clause-err
returns-in-None-clause-err c = λ malformed is.
    let short = actor_short c.args.word.now is in
    let long : 24 < length c.args.word.now = c.in-None.ensures.long.0 refl in
    omega arith
