-- Which programs a remote spawner starts, by its past alone.
use Rattle.std.specs.Prelude.{◌≡◌, List}
use Rattle.call_fs.specs.declared.past.ChildData.{ChildData}
use Rattle.call_fs.specs.declared.past.NeedData.TheVariants as needs
use Rattle.call_fs.specs.declared.past.Own.{Own}
use Rattle.spawn_protocol.specs.declared.request.Request.{Request}
use Rattle.spawner_parts.specs.Counts.{IsStart}
use Rattle.remote_spawn.specs.Table.{start_of}

-- A program is that of a request that isn't bad. Each request before it has its report, or a program.
pub record IsStartOfOne (past : List Own) (requests : List Request) (program : ChildData) : Type 0 where
  pub request : Request
  pub of : needs.Start program ≡ start_of request
  pub is : IsStart past requests request program
