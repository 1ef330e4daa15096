-- A text to which pieces are put.
use Rattle.std.proofs.Common.{◌≡◌, ℕ, List, [], ◌∷◌, ◌++◌, map, refl, ap, ◌∙◌, append_assoc}
use Rattle.std.specs.List.{flat_map}
use Rattle.send_log.specs.declared.pieces.Piece.{Piece}
use Rattle.send_log.specs.Lines.{line}
use Rattle.send_log.specs.Pieces.{piece_text}

-- the pieces of a line, and its newline
pub ended : (pieces : List Piece) → flat_map piece_text pieces ++ 10 ∷ [] ≡ line (map piece_text pieces)
ended [] = refl
ended (p ∷ pieces) = append_assoc (piece_text p) (flat_map piece_text pieces) (10 ∷ []) ∙ ap (λ t. piece_text p ++ t) (ended pieces)
