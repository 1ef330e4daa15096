-- What passes know, and the rule of the lock's table: word 0 is the next ticket, word 1 the ticket that is served, and the one slot
-- holds the state. Both words count modulo 2^64.
use Rattle.std.specs.Prelude.{◌≡◌, ◌≢◌, ◌⊎◌, ℕ, ◌+◌, ◌%◌, ◌^◌, ◌<◌, ◌≤◌, List, [], ◌∷◌, length, Option, Some, Result}
use mathlib.Core.Option.{some}
use mathlib.Core.Option as maybe
use lib.ListN.{get_elem?}
use Rattle.atomic_table.specs.Table.{State}
use Rattle.std.specs.declared.alloc.AllocError.{AllocError as Memory}
use Rattle.yard_lock.specs.declared.turn.Turn.{Turn}
use Rattle.yard_lock.specs.declared.view.Stage.{Stage}
use Rattle.yard_lock.specs.declared.view.Stage.TheVariants.{Idle, New, Joined, Waits, Has}
use Rattle.yard_lock.specs.declared.view.View.{View}
use Rattle.yard_lock.specs.declared.view.Opening.{Opening}
use Rattle.yard_lock.specs.Turns.{turns_of, IsPrefix, Replay}

-- the numbers of all, added up
module _ {A : Type 0} (f : A → ℕ) where
  abbrev pub total : List A → ℕ
  total [] = 0
  total (x ∷ xs) = f x + total xs

module _ {I O : Type 0} where
  abbrev pub view : ℕ → List (Turn I O) → Stage I O → View I O
  view n seen stage = record { parts = n; seen = seen; stage = stage }

  abbrev pub first_view : ℕ → View I O
  first_view n = view n [] Idle

  -- 1 if it has a ticket, else 0
  abbrev pub ticket_count : Stage I O → ℕ
  ticket_count Idle = 0
  ticket_count (New parent) = 0
  ticket_count (Joined xs ys other) = 0
  ticket_count (Waits t) = 1
  ticket_count (Has t) = 1

  -- its ticket, if it has one
  abbrev pub ticket : Stage I O → ℕ
  ticket Idle = 0
  ticket (New parent) = 0
  ticket (Joined xs ys other) = 0
  ticket (Waits t) = t
  ticket (Has t) = t

  abbrev pub tickets_of : View I O → ℕ
  tickets_of v = ticket_count v.stage

  abbrev pub parts_of : View I O → ℕ
  parts_of v = v.parts

  -- The stage of the pass with the number k, which has seen these turns, after these turns of all and when so many tickets were drawn.
  module _ (turns : List (Turn I O)) (drawn k : ℕ) (seen : List (Turn I O)) where
    abbrev pub Knows : Stage I O → Type 0
    Knows Idle = Unit {0}
    Knows (New parent) = (turns_of k turns ≡ []) × (parent < k)
    Knows (Joined xs ys other) = IsPrefix xs seen × IsPrefix ys seen × (turns_of k seen ≡ turns_of k xs) × (turns_of other seen ≡ turns_of other ys) × (other ≢ k)
    Knows (Waits t) = (length turns ≤ t) × (t < drawn)
    Knows (Has t) = (t ≡ length turns) × (t < drawn) × (seen ≡ turns)

  -- What holds of the pass with the number k, also of one that is spent: it has seen a prefix of the turns of all, in which all turns with
  -- its number stand; and it has a ticket only if it has a part.
  pub record Fits (turns : List (Turn I O)) (drawn k : ℕ) (v : View I O) : Type 0 where
    pub light : tickets_of v ≤ v.parts
    pub prefix : IsPrefix v.seen turns
    pub own : turns_of k turns ≡ turns_of k v.seen
    pub stage : Knows turns drawn k v.seen v.stage

  -- two passes with one ticket are one pass
  abbrev pub Apart : View I O → View I O → ℕ → ℕ → Type 0
  Apart v w j k = tickets_of v ≡ 1 → tickets_of w ≡ 1 → ticket v.stage ≡ ticket w.stage → j ≡ k

  -- some pass has the state
  abbrev pub IsOut : List (View I O) → Type 0
  IsOut views = (k : ℕ) × (v : View I O) × (t : ℕ) × (get_elem? views k ≡ some v) × (v.stage ≡ Has t)

  -- some pass that isn't spent has seen all turns
  abbrev pub IsSeenWhole : List (Turn I O) → List (View I O) → Type 0
  IsSeenWhole turns views = (k : ℕ) × (v : View I O) × (get_elem? views k ≡ some v) × (0 < v.parts) × (v.seen ≡ turns)

  -- What all passes have seen belongs to one list of turns: each has seen a prefix of it, and of two prefixes one begins the other. The
  -- turns with the number of a pass are those that it took; a number that no pass has stands nowhere. No two have the state.
  pub record AreOneList (turns : List (Turn I O)) (views : List (View I O)) : Type 0 where
    pub prefix : (k : ℕ) (v : View I O) → get_elem? views k ≡ some v → IsPrefix v.seen turns
    pub own : (k : ℕ) (v : View I O) → get_elem? views k ≡ some v → turns_of k turns ≡ turns_of k v.seen
    pub unmade : (k : ℕ) → length views ≤ k → turns_of k turns ≡ []
    pub agree : (j k : ℕ) (v w : View I O) → get_elem? views j ≡ some v → get_elem? views k ≡ some w → IsPrefix v.seen w.seen ⊎ IsPrefix w.seen v.seen
    pub whole : IsSeenWhole turns views
    pub single : (j k t u : ℕ) (v w : View I O) → get_elem? views j ≡ some v → get_elem? views k ≡ some w → v.stage ≡ Has t → w.stage ≡ Has u → j ≡ k

  -- The pass with the number k, which has seen these turns, has seen all turns, and is the only one left: each other is spent. What each
  -- of all passes had seen is a prefix of what this one has seen, in which just the turns that it took stand with its number.
  pub record HasSeenAll (turns : List (Turn I O)) (views : List (View I O)) (k : ℕ) (seen : List (Turn I O)) : Type 0 where
    pub all : seen ≡ turns
    pub spent : (j : ℕ) (w : View I O) → get_elem? views j ≡ some w → j ≢ k → w.parts ≡ 0
    pub list : AreOneList seen views

  -- each pass is there later too, and what it had seen is a prefix of what it has seen then
  abbrev pub SeeOn : List (View I O) → List (View I O) → Type 0
  SeeOn before after = (k : ℕ) (v : View I O) → get_elem? before k ≡ some v → (w : View I O) × (get_elem? after k ≡ some w) × IsPrefix v.seen w.seen

module _ {I O Y : Type 0} (moves : Y → I → Result O Memory → Y → Type 0) where
  -- the state is in its place, and all turns lead to it from the start
  abbrev pub IsHome : Y → List (Turn I O) → maybe.Option (Option Y) → Type 0
  IsHome start turns slot = (y : Y) × (slot ≡ some (Some y)) × Replay moves start turns y

  -- The rule. There is one list of turns, as long as the ticket that is served, counted without end; as many tickets are out as were
  -- drawn and not served, no two alike. The parts of all passes are those of the start. What each pass knows is so. The state is at
  -- home, and the turns lead to it; or a pass has it.
  pub record Ruled (key : Opening Y) (s : State (Option Y) (View I O)) : Type 0 where
    pub turns : List (Turn I O)
    pub drawn : ℕ
    pub slot : maybe.Option (Option Y)
    pub words : s.words ≡ drawn % 2 ^ 64 ∷ length turns % 2 ^ 64 ∷ []
    pub homes : s.homes ≡ slot ∷ []
    pub queue : drawn ≡ length turns + total tickets_of s.views
    pub whole : total parts_of s.views ≡ key.parts
    pub few : key.parts < 2 ^ 64
    pub each : (k : ℕ) (v : View I O) → get_elem? s.views k ≡ some v → Fits turns drawn k v
    pub apart : (j k : ℕ) (v w : View I O) → get_elem? s.views j ≡ some v → get_elem? s.views k ≡ some w → Apart v w j k
    pub unmade : (k : ℕ) → length s.views ≤ k → turns_of k turns ≡ []
    pub seen_whole : IsSeenWhole turns s.views
    pub home : IsHome key.state.value turns slot ⊎ IsOut s.views

  -- The table when the yard is closed by the pass with the number k, which has all parts and has seen these turns. It meets the rule, and
  -- these are all turns of the rule's list; each ticket that was drawn has had its turn; and the state in its place is y.
  pub record Ended (start : Y) (parts k : ℕ) (seen : List (Turn I O)) (y : Y) : Type 0 where
    pub key : Opening Y
    pub opened : (key.state.value ≡ start) × (key.parts ≡ parts)
    pub table : State (Option Y) (View I O)
    pub rule : Ruled key table
    pub pass : get_elem? table.views k ≡ some (view parts seen Idle)
    pub all : HasSeenAll rule.turns table.views k seen
    pub drawn : rule.drawn ≡ length seen
    pub home : rule.slot ≡ some (Some y)
