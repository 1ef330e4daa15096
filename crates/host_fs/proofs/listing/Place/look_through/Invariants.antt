use Rattle.std.proofs.Common.{length}
use Rattle.host_fs.specs.Listing.{FoundAfter}
use Rattle.host_fs.proofs.listing.Place.look_through.Given as goal

abbrev pub invariant-loop-left : goal.invariant-loop-left
invariant-loop-left g l = FoundAfter l.found l.self.after.now l.into

abbrev pub decreases-loop-left : goal.decreases-loop-left
decreases-loop-left g l = length l.left
