-- What a reader reads and pushes.
use Rattle.std.specs.Prelude.{◌≡◌, ℕ, true, List, [], ◌∷◌, ◌++◌, length, map, take, Option, Some, None}
use Rattle.piece_queue.specs.declared.piece.Piece.{Piece}
use Rattle.piece_queue.specs.declared.piece.Brought.{Brought}
use Rattle.piece_queue.specs.declared.piece.Brought.TheVariants as came
use Rattle.piece_queue.specs.declared.hand.Hand.{Hand}
use Rattle.piece_queue.specs.Pieces.{AreNumbered, NoneIsLast}
use Rattle.piece_queue.specs.Rule.{reader}

-- a reading: what it brought, with its bytes
pub record Reading : Type 0 where
  pub brought : Brought
  pub bytes : List ℕ

-- the bytes that were brought, at the start of these
abbrev pub bytes_in : Brought → List ℕ → List ℕ
bytes_in (came.Bytes count) bytes = take count bytes
bytes_in came.End bytes = []
bytes_in came.Cut bytes = []
bytes_in came.Failed bytes = []

abbrev pub read_as : Brought → List ℕ → Reading
read_as what bytes = record { brought = what; bytes = bytes_in what bytes }

-- the reading that a piece holds
abbrev pub reading_of : Piece → Reading
reading_of x = read_as x.brought x.bytes

-- these readings more are kept, in order; or from some call on none is
abbrev pub RecordsAll : Option (List Reading) → Option (List Reading) → List Reading → Type 0
RecordsAll (Some old) (Some new) more = new ≡ old ++ more
RecordsAll old None more = Unit {0}
RecordsAll None (Some new) more = ⊥

-- a pass that reads this channel, has pushed so many pieces, and may push one more
pub record MayRead (c n : ℕ) (v : Hand) : Type 0 where
  pub reads : v.reads ≡ true
  pub chan : v.chan ≡ c
  pub number : length v.sent ≡ n
  pub unended : NoneIsLast v.sent

-- A reader of this channel has pushed all that was read since: each reading is one piece, and they are numbered.
pub record HasPushed (c : ℕ) (v : Hand) (before now : Option (List Reading)) : Type 0 where
  pub is_reader : v ≡ reader c v.sent
  pub numbered : AreNumbered v.sent
  pub told : RecordsAll before now (map reading_of v.sent)
