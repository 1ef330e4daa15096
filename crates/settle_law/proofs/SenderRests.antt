-- A rest by its newest turn, which is the sender's.
use Rattle.std.proofs.Common.{◌≡◌, ℕ, List, [], ◌∷◌, ◌++◌, codes, append_assoc, arith, subst}
use Rattle.call_fs.specs.Disk.{Disk}
use Rattle.scenario.specs.Deeds.{Deed, after, history_of}
use Rattle.settle_law.specs.Ends.{IsIdleTurn, Turn, deeds_of}
use Rattle.settle_law.specs.Promised.{IsRest, OthersWait}
use Rattle.settle_law.specs.Well.{GoesWell, MayDeliver, TodoIsEmpty}
use Rattle.settle_law.proofs.Searchers.{is_sender, sender_searches}

-- a whole idle turn of the sender after these deeds
abbrev pub SendersTurn : Disk → List Deed → Deed → List Deed → Type 0
SendersTurn d later first before = IsIdleTurn d before (record { name = codes "sender"; first = first; later = later })

pub record SendersRest (d : Disk) (later : List Deed) (first : Deed) (before : List Deed) : Type 0 where
  pub empty : TodoIsEmpty d
  pub well : GoesWell d (history_of (later ++ first ∷ before))
  pub may : MayDeliver (after d (later ++ first ∷ before))
  pub turn : SendersTurn d later first before
  pub others : OthersWait (after d (later ++ first ∷ before))

pub record Newest (d : Disk) (deeds : List Deed) : Type 0 where
  pub later : List Deed
  pub first : Deed
  pub before : List Deed
  pub are : deeds ≡ later ++ first ∷ before
  pub rest : SendersRest d later first before

pub newest_rest : (d : Disk) (turns : List Turn) (before : List Deed) → IsRest d turns before → Newest d (deeds_of turns ++ before)
newest_rest d [] before rest = let one = rest.idle.each (codes "sender") sender_searches in absurd (omega (arith, one.1))
newest_rest d (turn ∷ older) before rest =
    let base = deeds_of older ++ before in
    let are : deeds_of (turn ∷ older) ++ before ≡ turn.later ++ turn.first ∷ base = append_assoc turn.later (turn.first ∷ deeds_of older) before in
    record {
      later = turn.later;
      first = turn.first;
      before = base;
      are = are;
      rest = record {
        empty = rest.empty;
        well = subst (λ (l : List Deed). GoesWell d (history_of l)) are rest.well;
        may = subst (λ (l : List Deed). MayDeliver (after d l)) are rest.may;
        turn = subst (λ (a : List ℕ). IsIdleTurn d base (record { name = a; first = turn.first; later = turn.later })) (is_sender turn.name rest.idle.are.1.who) rest.idle.are.1;
        others = subst (λ (l : List Deed). OthersWait (after d l)) are rest.others;
      };
    }
