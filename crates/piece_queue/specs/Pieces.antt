-- The pieces of channels, and their order.
use Rattle.std.specs.Prelude.{◌≡◌, ℕ, ◌+◌, ◌<◌, ◌≤◌, Bool, true, false, ◌==◌, List, ◌++◌, length, Some, slice_get}
use Rattle.std.specs.List.{filter}
use Rattle.piece_queue.specs.declared.piece.Piece.{Piece}
use Rattle.piece_queue.specs.declared.piece.Brought.{Brought}
use Rattle.piece_queue.specs.declared.piece.Brought.TheVariants as came
use Rattle.piece_queue.specs.declared.piece.TheConstants.{ROOM}

abbrev pub is_of : ℕ → Piece → Bool
is_of chan piece = piece.chan == chan

-- the pieces of one channel, in their order
abbrev pub of_channel : ℕ → List Piece → List Piece
of_channel chan pieces = filter (is_of chan) pieces

-- nothing comes after it
abbrev pub ends : Brought → Bool
ends (came.Bytes count) = false
ends came.End = true
ends came.Cut = true
ends came.Failed = true

-- some bytes, which fit
abbrev pub FitsRoom : Brought → Type 0
FitsRoom (came.Bytes count) = (0 < count) × (count ≤ ROOM)
FitsRoom came.End = Unit {0}
FitsRoom came.Cut = Unit {0}
FitsRoom came.Failed = Unit {0}

-- each of these has some bytes, which fit, if it has any
abbrev pub AllFit : List Piece → Type 0
AllFit pieces = (k : ℕ) (x : Piece) → slice_get pieces k ≡ Some x → FitsRoom x.brought

-- it tells the end of its channel, that it was cut off, or a failure
abbrev pub is_last : Piece → Bool
is_last piece = ends piece.brought

-- none of these is the last of its channel
abbrev pub NoneIsLast : List Piece → Type 0
NoneIsLast pieces = (k : ℕ) (x : Piece) → slice_get pieces k ≡ Some x → is_last x ≡ false

-- one of these is the last of its channel
abbrev pub HasLast : List Piece → Type 0
HasLast pieces = (k : ℕ) × (x : Piece) × (slice_get pieces k ≡ Some x) × (is_last x ≡ true)

-- The pieces of one channel are numbered 0, 1, 2 and so on, and what tells its end is the last one: 0 Bytes, 1 Bytes, 2 End,
-- but neither 0 Bytes, 2 Bytes nor 0 End, 1 Bytes.
abbrev pub AreNumbered : List Piece → Type 0
AreNumbered pieces = (k : ℕ) (x : Piece) → slice_get pieces k ≡ Some x → (x.number ≡ k) × (is_last x ≡ true → k + 1 ≡ length pieces)

-- Of its channel it is the next one after these, and none of them was the last.
pub record IsNext (got : List Piece) (x : Piece) : Type 0 where
  pub number : x.number ≡ length (of_channel x.chan got)
  pub unended : NoneIsLast (of_channel x.chan got)
  pub fits : FitsRoom x.brought

-- the first list begins the second
abbrev pub IsPrefix : List Piece → List Piece → Type 0
IsPrefix taken pushed = (rest : List Piece) × (pushed ≡ taken ++ rest)

-- What was taken of a channel is a prefix of what its reader has pushed, and all of it once the last piece was taken.
pub record Agree (chan : ℕ) (got sent : List Piece) : Type 0 where
  pub prefix : IsPrefix (of_channel chan got) sent
  pub whole : HasLast (of_channel chan got) → of_channel chan got ≡ sent
