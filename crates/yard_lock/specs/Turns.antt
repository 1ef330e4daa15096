-- Lists of turns, and what they do to a state.
use Rattle.std.specs.Prelude.{◌≡◌, ℕ, ◌==◌, List, [], ◌∷◌, ◌++◌, length, cond, ltb, Result, MatchResult, filter}
use Rattle.yard_lock.specs.declared.turn.Turn.{Turn}
use Rattle.std.specs.declared.alloc.AllocError.{AllocError as Memory}

module _ {I O : Type 0} where
  abbrev pub turn : ℕ → I → Result O Memory → Turn I O
  turn k x r = record { by = k; input = x; answer = r }

  -- The turns with the number k, in order. Of the turns of 0, 1, 0 those of 0 are the first and the third.
  abbrev pub turns_of : ℕ → List (Turn I O) → List (Turn I O)
  turns_of k ts = filter (λ t. t.by == k) ts

  -- the first list begins the second
  abbrev pub IsPrefix : List (Turn I O) → List (Turn I O) → Type 0
  IsPrefix xs ys = (rest : List (Turn I O)) × (xs ++ rest ≡ ys)

  abbrev pub longer : List (Turn I O) → List (Turn I O) → List (Turn I O)
  longer xs ys = cond (ltb (length xs) (length ys)) ys xs

  module _ {Y : Type 0} (moves : Y → I → Result O Memory → Y → Type 0) where
    -- one turn; out of memory, the state is as before
    abbrev pub Moved : Y → Turn I O → Y → Type 0
    Moved old t new = moves old t.input t.answer new × MatchResult t.answer (λ _. Unit {0}) (λ _. new ≡ old)

    -- a chain of states from the first to the last, each turn one move
    abbrev pub Replay : Y → List (Turn I O) → Y → Type 0
    Replay old [] new = old ≡ new
    Replay old (t ∷ ts) new = (mid : Y) × Moved old t mid × Replay mid ts new

    -- After a turn t of the pass k, by what the pass had seen before it and after it. What it had seen before is a prefix, t is the last,
    -- the turns of k are those that it had and t, and the state at the start replays them all.
    pub record Took (start : Y) (k : ℕ) (t : Turn I O) (before after : List (Turn I O)) : Type 0 where
      pub between : List (Turn I O)
      pub seen : after ≡ (before ++ between) ++ t ∷ []
      pub own : turns_of k after ≡ turns_of k before ++ t ∷ []
      pub now : Y
      pub replay : Replay start after now
