-- The text of a line, piece by piece.
use Rattle.std.specs.Prelude.{ℕ, List, length}
use Rattle.mail_bytes.specs.Decimal.{digits}
use Rattle.send_log.specs.declared.pieces.Piece.{Piece}
use Rattle.send_log.specs.declared.pieces.Piece.TheVariants.{Words, Number, Shown}
use Rattle.send_log.specs.Lines.{shown}

abbrev pub piece_text : Piece → List ℕ
piece_text (Words words) = words.now
piece_text (Number n) = digits n
piece_text (Shown text) = shown text.now

-- how long it is at most: a u64 has at most 20 digits
abbrev pub piece_room : Piece → ℕ
piece_room (Words words) = length words.now
piece_room (Number n) = 20
piece_room (Shown text) = length text.now
