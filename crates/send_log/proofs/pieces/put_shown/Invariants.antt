use Rattle.std.proofs.Common.{◌≡◌, ◌++◌, ◌+◌, ◌≤◌, take, vec_len, vec_capacity}
use Rattle.send_log.specs.Lines.{shown}
use Rattle.send_log.proofs.pieces.put_shown.Given as goal

abbrev pub invariant-loop-byte : goal.invariant-loop-byte
invariant-loop-byte l = record {
  items : l.text.items ≡ l.initial.text.items ++ shown (take l.byte-index l.bytes);
  len : vec_len l.text ≡ vec_len l.initial.text + l.byte-index;
  capacity : vec_capacity l.initial.text ≤ vec_capacity l.text;
}
