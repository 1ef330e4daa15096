use Rattle.host_fs.specs.Listing.{FoundAfter}
use Rattle.host_fs.proofs.listing.Place.scan.Given as goal

abbrev pub invariant-loop : goal.invariant-loop
invariant-loop g l = FoundAfter l.found l.self.after.now l.into
