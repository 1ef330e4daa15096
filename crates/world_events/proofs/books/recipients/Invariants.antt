use Rattle.std.proofs.Common.{◌≤◌, take}
use Rattle.envelope_records.specs.Envelope.{HasRead, read_envelope}
use Rattle.world_events.proofs.Recipients.{Counted}
use Rattle.world_events.proofs.books.recipients.Given as goal

abbrev pub invariant-loop-byte : goal.invariant-loop-byte
invariant-loop-byte l = record {
  read : HasRead (take l.byte-index l.read) l.reader;
  counted : Counted (read_envelope (take l.byte-index l.read)) l.count;
  low : l.count ≤ l.byte-index;
}
