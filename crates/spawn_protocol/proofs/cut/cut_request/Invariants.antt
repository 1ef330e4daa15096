use Rattle.std.proofs.Common.{◌≡◌, ◌≢◌, drop}
use Rattle.spawn_protocol.specs.Request.Reader.{Refused}
use Rattle.spawn_protocol.specs.Cut.{cut, cut_from}
use Rattle.spawn_protocol.proofs.cut.cut_request.Given as goal

abbrev pub invariant-loop-at : goal.invariant-loop-at
invariant-loop-at l = record {
  cut : cut_from l.reader (drop l.at l.bytes) ≡ cut l.bytes;
  going : l.reader ≢ Refused;
}
