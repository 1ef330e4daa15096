-- What each step on the lock's table tells the pass that makes it.
use Rattle.std.specs.Prelude.{◌≡◌, ◌≢◌, ℕ, ◌+◌, ◌-◌, ◌%◌, ◌^◌, ◌<◌, List, [], ◌∷◌, ◌++◌, Option, Some, Result}
use Rattle.atomic_table.specs.Table.{Me, Step}
use Rattle.std.specs.declared.alloc.AllocError.{AllocError as Memory}
use Rattle.yard_lock.specs.declared.turn.Turn.{Turn}
use Rattle.yard_lock.specs.declared.view.Stage.{Stage}
use Rattle.yard_lock.specs.declared.view.Stage.TheVariants.{Idle, New, Joined, Waits, Has}
use Rattle.yard_lock.specs.declared.view.View.{View}
use Rattle.yard_lock.specs.Turns.{turns_of, IsPrefix, Replay, longer}
use Rattle.yard_lock.specs.Rule.{view}

module _ {I O : Type 0} where
  -- what is left of a pass of which so many parts were split off, and what the new one begins with
  abbrev pub rest_of : ℕ → View I O → View I O
  rest_of n v = view (v.parts - n) v.seen v.stage

  abbrev pub part_of : ℕ → ℕ → View I O → View I O
  part_of parent n v = view n v.seen (New parent)

  -- two passes that became one, and what is left of the other one, which had seen these turns
  abbrev pub both_of : ℕ → View I O → View I O → View I O
  both_of other v w = view (v.parts + w.parts) (longer v.seen w.seen) (Joined v.seen w.seen other)

  abbrev pub spent_view : List (Turn I O) → View I O
  spent_view seen = view 0 seen Idle

  -- what a pass learns when it looks at the table after it was split off, or took in another
  abbrev pub Learns : ℕ → List (Turn I O) → Stage I O → Type 0
  Learns k seen Idle = Unit {0}
  Learns k seen (New parent) = (turns_of k seen ≡ []) × (parent < k)
  Learns k seen (Joined xs ys other) = IsPrefix xs seen × IsPrefix ys seen × (turns_of k seen ≡ turns_of k xs) × (turns_of other seen ≡ turns_of other ys) × (other ≢ k)
  Learns k seen (Waits t) = Unit {0}
  Learns k seen (Has t) = Unit {0}

module _ {I O Y : Type 0} (moves : Y → I → Result O Memory → Y → Type 0) where
  -- what a pass knows, and the state, if it has it
  abbrev pub Mine : Type 0
  Mine = Me (Option Y) (View I O)

  abbrev pub Made : Type 0
  Made = Step (Option Y)

  -- what the state at the start, the only one in this list, becomes by the turns
  abbrev pub Replays : List Y → List (Turn I O) → Y → Type 0
  Replays [] ts y = Unit {0}
  Replays (o ∷ os) ts y = Replay moves o ts y

  -- the pass has entered its turn: it has seen all turns so far, and has the state that they make
  abbrev pub Inside : List Y → ℕ → Mine → ℕ → Mine → Type 0
  Inside os k m t m' = (y : Y) × (m'.1 ≡ (0, Some y) ∷ m.1) × (m'.0.stage ≡ Has t) × (m'.0.parts ≡ m.0.parts) × IsPrefix m.0.seen m'.0.seen
      × (turns_of k m'.0.seen ≡ turns_of k m.0.seen) × Replays os m'.0.seen y

  -- a ticket was drawn
  abbrev pub drew : Made → Mine → ℕ → Mine → Type 0
  drew st m r m' = (t : ℕ) × (r ≡ t % 2 ^ 64) × (m'.0 ≡ view m.0.parts m.0.seen (Waits t)) × (m'.1 ≡ m.1)

  -- a look at the ticket that is served: if it is the pass's own, the pass has entered its turn
  abbrev pub entered : List Y → ℕ → Made → Mine → ℕ → Mine → Type 0
  entered os k st m r m' = (t : ℕ) → m.0.stage ≡ Waits t → (r ≡ t % 2 ^ 64 → Inside os k m t m') × (r ≢ t % 2 ^ 64 → m' ≡ m)

  -- the turn has ended
  abbrev pub left : List (Turn I O) → Made → Mine → ℕ → Mine → Type 0
  left ts st m r m' = (m'.0 ≡ view m.0.parts (m.0.seen ++ ts) Idle) × (m'.1 ≡ [])

  -- a look after a split or a join
  abbrev pub learned : ℕ → Made → Mine → ℕ → Mine → Type 0
  learned k st m r m' = (m'.0 ≡ view m.0.parts m.0.seen Idle) × Learns k m.0.seen m.0.stage × (m'.1 ≡ m.1)

  -- the pass is between two calls, and has so many parts
  abbrev pub Rests : ℕ → Mine → Type 0
  Rests n m = (m.1 ≡ []) × (m.0.stage ≡ Idle) × (m.0.parts ≡ n) × (0 < n)
