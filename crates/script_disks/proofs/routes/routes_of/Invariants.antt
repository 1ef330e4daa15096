use Rattle.std.proofs.Common.{take}
use Rattle.envelope_records.specs.Envelope.{HasRead, read_envelope}
use Rattle.script_disks.specs.Routes.{AreLanes}
use Rattle.script_disks.proofs.Envelopes.{Holds}
use Rattle.script_disks.proofs.routes.routes_of.Given as goal

abbrev pub invariant-loop-byte : goal.invariant-loop-byte
invariant-loop-byte l = record {
  read : HasRead (take l.byte-index l.read) l.reader;
  held : Holds (λ recipients. AreLanes l.controls recipients l.lanes) (read_envelope (take l.byte-index l.read));
}
