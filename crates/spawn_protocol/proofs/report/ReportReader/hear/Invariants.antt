use Rattle.std.proofs.Common.{◌≡◌, ◌++◌, drop}
use Rattle.spawn_protocol.specs.Report.{read_on}
use Rattle.spawn_protocol.proofs.report.ReportReader.hear.Given as goal

abbrev pub invariant-loop-byte : goal.invariant-loop-byte
invariant-loop-byte l = record {
  reports : l.reports.items ++ (read_on l.reader (drop l.byte-index l.bytes)).0 ≡ (read_on l.self l.bytes).0;
  reader : (read_on l.reader (drop l.byte-index l.bytes)).1 ≡ (read_on l.self l.bytes).1;
}
