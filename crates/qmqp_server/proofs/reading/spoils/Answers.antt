use Rattle.std.proofs.Common.{◌≡◌, ℕ, List, Bool, true, false, inl, inr}
use Rattle.qmqp_server.specs.inside.Places.{IsNulIn, IsSpoiled}
use Rattle.qmqp_server.proofs.reading.spoils.Goals as goal

by_nul : (is had : Bool) (bytes : List ℕ) → had ≡ false → IsNulIn is bytes → IsSpoiled is had bytes
by_nul true had bytes e nul = inr nul
by_nul false had bytes e nul = (e, nul)

pub returns-then-had : goal.returns-then-had
returns-then-had c = inl c.if-had.true

pub returns-else-had : goal.returns-else-had
returns-else-had c = by_nul c.has_nul.result c.args.had c.args.bytes.now c.if-had.false c.has_nul.ensures
