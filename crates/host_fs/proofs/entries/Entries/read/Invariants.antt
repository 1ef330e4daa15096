use Rattle.std.proofs.Common.{All, map, string_bytes}
use Rattle.host_fs.specs.Listing.{IsEntry}
use Rattle.host_fs.proofs.entries.Entries.read.Given as goal

abbrev pub invariant-loop : goal.invariant-loop
invariant-loop g l = All IsEntry (map string_bytes l.names.items)
