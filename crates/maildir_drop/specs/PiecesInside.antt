-- What the fields of pieces keep.
use Rattle.std.specs.Prelude.{◌≡◌, ℕ, ◌+◌, ◌<◌, ◌≤◌, List, [], ◌++◌, length, drop, slice_index_or}
use Rattle.std.specs.List.{concat}
use Rattle.call_fs.specs.declared.file_system.TheConstants.{PIECE}
use Rattle.maildir_drop.specs.declared.pieces.Pieces.TheInside.{Inside as PiecesInside}
use Rattle.maildir_drop.specs.declared.pieces.Cutter.TheInside.{Inside as CutterInside}

-- the bytes of those that are left
abbrev pub left_of : PiecesInside → List ℕ
left_of i = concat (drop i.next i.pieces.items)

-- each has as many bytes as a piece has, except the last, and none is empty
pub record IsCut (pieces : List (List ℕ)) : Type 0 where
  pub full : (k : ℕ) → k + 1 < length pieces → length (slice_index_or pieces k []) ≡ PIECE
  pub some : (k : ℕ) → k < length pieces → 1 ≤ length (slice_index_or pieces k [])
  pub short : (k : ℕ) → k < length pieces → length (slice_index_or pieces k []) ≤ PIECE

pub record ArePieces (i : PiecesInside) : Type 0 where
  pub inside : i.next ≤ length i.pieces.items
  pub cut : IsCut i.pieces.items

abbrev pub bytes_of : CutterInside → List ℕ
bytes_of i = concat i.full.items ++ i.last

pub record AreCut (i : CutterInside) : Type 0 where
  pub full : (k : ℕ) → k < length i.full.items → length (slice_index_or i.full.items k []) ≡ PIECE
  pub last : length i.last < PIECE
