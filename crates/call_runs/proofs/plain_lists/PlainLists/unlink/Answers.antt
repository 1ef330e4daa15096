use Rattle.std.proofs.Common.{refl}
use Rattle.call_runs.proofs.Files.{disk_is}
use Rattle.call_runs.proofs.plain_lists.PlainLists.unlink.Goals as goal

pub returns : goal.returns
returns c = disk_is c.args.self.now.dirs.items c.remove_name.ensures refl refl
