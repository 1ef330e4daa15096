-- What passes show, and the rule of the queue.
use Rattle.std.specs.Prelude.{◌≡◌, ℕ, ◌<◌, ◌≤◌, Bool, true, false, List, [], ◌∷◌, ◌++◌, length}
use mathlib.Core.Option.{some}
use lib.ListN.{get_elem?}
use Rattle.piece_queue.specs.declared.piece.Piece.{Piece}
use Rattle.piece_queue.specs.declared.piece.Brought.TheVariants as came
use Rattle.piece_queue.specs.declared.hand.Hand.{Hand}
use Rattle.piece_queue.specs.Pieces.{AllFit, AreNumbered, FitsRoom, NoneIsLast, of_channel}

-- What passes show

-- the first pass, which opens channels and takes
abbrev pub first : Hand
first = record { takes = true; opens = true; reads = false; next = 0; chan = 0; sent = []; got = [] }

-- a pass that opens channels, from this one on
abbrev pub opener : ℕ → Hand
opener next = record { takes = false; opens = true; reads = false; next = next; chan = 0; sent = []; got = [] }

-- a pass that takes, and has taken these
abbrev pub taker : List Piece → Hand
taker got = record { takes = true; opens = false; reads = false; next = 0; chan = 0; sent = []; got = got }

-- a pass that reads this channel, and has pushed these
abbrev pub reader : ℕ → List Piece → Hand
reader chan sent = record { takes = false; opens = false; reads = true; next = 0; chan = chan; sent = sent; got = [] }

-- one that takes and a reader, in one hand
abbrev pub united : Hand → Hand → Hand
united v w = record { takes = true; opens = false; reads = true; next = 0; chan = w.chan; sent = w.sent; got = v.got }

-- a pass that may do nothing
abbrev pub blank : Hand
blank = record { takes = false; opens = false; reads = false; next = 0; chan = 0; sent = []; got = [] }

-- after a push
abbrev pub given_on : Hand → Piece → Hand
given_on v x = record v { sent = v.sent ++ x ∷ [] }

-- after a taking
abbrev pub taken_on : Hand → Piece → Hand
taken_on v x = record v { got = v.got ++ x ∷ [] }

-- a piece that may be pushed next by this pass
pub record Follows (v : Hand) (x : Piece) : Type 0 where
  pub chan : x.chan ≡ v.chan
  pub number : x.number ≡ length v.sent
  pub unended : NoneIsLast v.sent
  pub fits : FitsRoom x.brought

-- its only piece tells that the channel failed; or, if there was no room, nothing was pushed
abbrev pub FailsAtOnce : ℕ → Bool → Hand → Type 0
FailsAtOnce chan true v = (x : Piece) × (v ≡ reader chan (x ∷ [])) × (x.chan ≡ chan) × (x.number ≡ 0) × (x.brought ≡ came.Failed)
FailsAtOnce chan false v = v ≡ reader chan []

-- The rule

-- One pass takes and one opens channels, at most; and a pass that reads a channel has pushed what was taken of it and what the
-- queue still holds of it.
pub record Fits (taking opening next : ℕ) (got items : List Piece) (port : ℕ) (v : Hand) : Type 0 where
  pub takes : v.takes ≡ true → (port ≡ taking) × (v.got ≡ got)
  pub opens : v.opens ≡ true → (port ≡ opening) × (v.next ≡ next)
  pub reads : v.reads ≡ true → (v.chan < next) × (v.sent ≡ of_channel v.chan (got ++ items))

-- no two passes read the same channel
abbrev pub AreApart : List Hand → Type 0
AreApart views = (p q : ℕ) (v w : Hand) → get_elem? views p ≡ some v → get_elem? views q ≡ some w
    → v.reads ≡ true → w.reads ≡ true → v.chan ≡ w.chan → p ≡ q

-- What was taken and what the queue holds are, of each channel, its pieces in their order; of a channel that wasn't opened yet
-- there are none.
pub record Keeps (items : List Piece) (views : List Hand) : Type 0 where
  pub taking : ℕ
  pub opening : ℕ
  pub next : ℕ
  pub got : List Piece
  pub fits : (port : ℕ) (v : Hand) → get_elem? views port ≡ some v → Fits taking opening next got items port v
  pub apart : AreApart views
  pub fresh : (chan : ℕ) → next ≤ chan → of_channel chan (got ++ items) ≡ []
  pub numbered : (chan : ℕ) → AreNumbered (of_channel chan (got ++ items))
  pub full : AllFit items
