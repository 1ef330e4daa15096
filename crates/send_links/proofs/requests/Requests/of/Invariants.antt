use Rattle.std.proofs.Common.{◌≡◌, take}
use Rattle.send_links.specs.Requests.{requests_of}
use Rattle.send_links.proofs.requests.Requests.of.Given as goal

abbrev pub invariant-loop-record : goal.invariant-loop-record
invariant-loop-record l = l.texts.items ≡ requests_of l.n l.sender (take l.record-index l.records)
