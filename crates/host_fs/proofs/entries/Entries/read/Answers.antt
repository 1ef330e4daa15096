use Rattle.std.proofs.Common.{map, string_bytes}
use Rattle.host_fs.proofs.Ordered.{each_entry}
use Rattle.host_fs.proofs.entries.Entries.read.Goals as goal

pub loop-preserved : goal.loop-preserved
loop-preserved g c = each_entry (map string_bytes c.loop.names.items) _ (map string_bytes c.add_entries.new.names.items) c.loop.invariant c.in-Ok.ensures
