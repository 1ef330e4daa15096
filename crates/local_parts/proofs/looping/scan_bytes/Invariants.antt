use Rattle.std.proofs.Common.{◌≡◌, take}
use Rattle.local_parts.specs.inside.Scanning.{scanned}
use Rattle.local_parts.proofs.looping.scan_bytes.Given as goal

abbrev pub invariant-loop-byte : goal.invariant-loop-byte
invariant-loop-byte l = l.so_far ≡ scanned l.line l.fn.scan (take l.byte-index l.bytes)
