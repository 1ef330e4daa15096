-- What posts tell of the pieces that were taken.
use Rattle.std.specs.Prelude.{◌≡◌, ℕ, ◌+◌, ◌<◌, ◌≤◌, List, [], ◌∷◌, ◌++◌, take, drop, Option, Some, None}
use Rattle.mail_bytes.specs.Told.{raised}
use Rattle.outside.specs.declared.posts.Post.{Post}
use Rattle.outside.specs.declared.posts.Post.TheVariants as post
use Rattle.piece_queue.specs.declared.piece.Piece.{Piece}
use Rattle.piece_queue.specs.declared.piece.Brought.{Brought}
use Rattle.piece_queue.specs.declared.piece.Brought.TheVariants as came
use Rattle.piece_queue.specs.declared.piece.TheConstants.{ROOM}
use Rattle.piece_queue.specs.Pieces.{IsNext}
use Rattle.piece_queue.specs.declared.queue.PieceQueue.{PieceQueue}
use Rattle.piece_queue.specs.declared.hand.Hand.{Hand}
use Rattle.crossbeam_queue.specs.Passes.{Pass, view}
use Rattle.proc_runner.specs.declared.posts.Rest.{Rest}

-- what a pass has taken, of all channels
abbrev pub got_by : Pass Piece Hand → List Piece
got_by pass = (view pass).got

-- what is left of a piece: its channel, and the bytes that weren't given yet
pub record Left : Type 0 where
  pub chan : ℕ
  pub bytes : List ℕ

-- the bytes of a piece from here on
abbrev pub left_from : Piece → ℕ → ℕ → Left
left_from x from count = record { chan = x.chan; bytes = drop from (take count x.bytes) }

abbrev pub left_of : Rest → Left
left_of r = left_from r.piece r.from r.count

-- some bytes are left, and they lie in the piece
abbrev pub HasRest : Option Rest → Type 0
HasRest None = Unit {0}
HasRest (Some r) = (r.from < r.count) × (r.count ≤ ROOM)

-- posts: of which queue, the pieces that were taken, what is left of the last one of them, how many cuts were among them, and how
-- many failures were told
pub record PostState : Type 0 where
  pub queue : PieceQueue
  pub got : List Piece
  pub left : Option Left
  pub cuts : ℕ
  pub faults : ℕ

-- what is left is kept if it has any bytes
abbrev pub kept : ℕ → List ℕ → Option Left
kept chan [] = None
kept chan bytes = Some (record { chan = chan; bytes = bytes })

-- a post gave the first of these bytes of a channel, and the rest is kept
abbrev pub GivesLeft : Left → Post → List ℕ → Option Left → Type 0
GivesLeft l (post.Bytes chan len) into left = (chan ≡ l.chan) × (take len into ≡ take len l.bytes) × (left ≡ kept l.chan (drop len l.bytes))
GivesLeft l other into left = ⊥

abbrev pub IsGiven : Piece → ℕ → ℕ → Post → List ℕ → Option Left → Type 0
IsGiven x from count answer into left = GivesLeft (left_from x from count) answer into left

-- the post of a piece that was just taken
abbrev pub TellsPiece : Piece → Brought → Post → List ℕ → Option Left → Type 0
TellsPiece x (came.Bytes count) answer into left = IsGiven x 0 count answer into left
TellsPiece x came.End answer into left = (answer ≡ post.End x.chan) × (left ≡ None)
TellsPiece x came.Cut answer into left = (answer ≡ post.End x.chan) × (left ≡ None)
TellsPiece x came.Failed answer into left = (answer ≡ post.Failed x.chan) × (left ≡ None)

-- a cut is counted, though its post is that of an end
abbrev pub cuts_after : Brought → ℕ → ℕ
cuts_after came.Cut cuts = raised cuts
cuts_after other cuts = cuts

-- Nothing was waiting; or a piece was taken, the next one of its channel, and this is its post.
abbrev pub TellsNext : Post → List ℕ → PostState → PostState → Type 0
TellsNext post.Turn into old new = new ≡ old
TellsNext answer into old new = (x : Piece) × IsNext old.got x × (new.got ≡ old.got ++ x ∷ []) × TellsPiece x x.brought answer into new.left
    × (new.cuts ≡ cuts_after x.brought old.cuts)

-- The rest of a piece comes before the next one.
abbrev pub TellsFrom : Option Left → Post → List ℕ → PostState → PostState → Type 0
TellsFrom (Some l) answer into old new = (new.got ≡ old.got) × (new.cuts ≡ old.cuts) × GivesLeft l answer into new.left
TellsFrom None answer into old new = TellsNext answer into old new

abbrev pub IsPostOf : Post → List ℕ → PostState → PostState → Type 0
IsPostOf answer into old new = TellsFrom old.left answer into old new
