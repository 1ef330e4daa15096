-- The calls of a remote spawner use what it holds open.
use Rattle.std.proofs.Common.{ℕ, List}
use Rattle.call_fs.specs.declared.past.Own.{Own}
use Rattle.call_fs.specs.declared.program.Ready.{Ready}
use Rattle.call_fs.specs.Past.{IsRunBy, UsesHeld, held}
use Rattle.spawner_parts.specs.declared.place.Place.{Place}
use Rattle.spawner_parts.proofs.Holds.{uses as uses_at}
use Rattle.remote_spawn.specs.Table.{Next, place_after, program_of}
use Rattle.remote_spawn.proofs.Tells.{tells}

pub uses : (args : Unit {0}) (past : List Own) (now : ℕ) (ready : Ready) → IsRunBy (Next args) past → UsesHeld (held past) (Next args past now ready)
uses args past now ready run =
    let p : Place = place_after past in
    uses_at (program_of p.request) past p ready (tells args past run).holds
