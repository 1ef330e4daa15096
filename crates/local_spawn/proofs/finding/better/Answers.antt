use Rattle.std.proofs.Common.{◌≤◌, length, sym, arith}
use Rattle.local_spawn.specs.Finding.Becomes.{IsAsLong}
use Rattle.local_spawn.proofs.finding.better.Goals as goal

pub returns-in-Some : goal.returns-in-Some
returns-in-Some c =
    let long : length c.args.assignment.now.local ≤ c.in-Some.found.rest = omega (arith, c.len-rest.ensures, c.if-rest-found.true) in
    IsAsLong c.in-Some.found c.in-Some.is long (sym c.in-Some.is)
