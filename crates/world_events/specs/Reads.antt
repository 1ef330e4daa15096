-- What a call brings, as an event keeps it.
use Rattle.std.specs.Prelude.{ℕ, ◌≤◌}
use Rattle.call_fs.specs.declared.file_system.TheConstants.{PIECE}
use Rattle.call_fs.specs.declared.calls.CallData.{CallData}
use Rattle.call_fs.specs.declared.calls.CallData.TheVariants.{ReadAt, NextName}
use Rattle.call_fs.specs.declared.calls.Answer.{Answer}
use Rattle.call_fs.specs.declared.calls.Answer.TheVariants as answer

-- how many bytes a call may bring: those of a read, or a name
abbrev pub most_brought : CallData → ℕ
most_brought (ReadAt fd at len) = len
most_brought (NextName dir after) = 255
most_brought call = 0

-- an answer counts no more bytes than this, and no more than a piece
abbrev pub HasFew : ℕ → Answer → Type 0
HasFew most (answer.Count count) = (count ≤ most) × (count ≤ PIECE)
HasFew most other = Unit {0}
