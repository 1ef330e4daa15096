use Rattle.std.proofs.Common.{◌≡◌, ◌≤◌, ◌+◌, List, ℕ, ◌++◌, true, length, take}
use Rattle.queue_inject.specs.Texts.{limit}
use Rattle.queue_inject.specs.Rows.{is_open}
use Rattle.queue_inject.specs.Stands.{Reads}
use Rattle.queue_inject.proofs.intake.Intake.feed_envelope.Given as goal

abbrev pub invariant-loop-byte : goal.invariant-loop-byte
invariant-loop-byte l = record {
  fed : l.self.fed ≡ l.initial.self.fed + l.byte-index;
  within : is_open l.self.verdict ≡ true → l.self.fed ≤ limit;
  piece : length l.self.piece ≤ length l.initial.self.piece + l.byte-index;
  grows : length l.initial.self.piece ≤ length l.self.piece;
  kept : is_open l.self.verdict ≡ true → length l.self.piece ≡ length l.initial.self.piece + l.byte-index;
  reads : (done : ℕ) (head read : List ℕ) → Reads l.initial.self done head read → Reads l.self done head (read ++ take l.byte-index l.bytes);
}
