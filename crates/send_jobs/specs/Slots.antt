-- What is in flight in the slots of a channel. When attempts are in flight in the first and the third of four slots, the
-- lowest free one is 1.
use Rattle.std.specs.Prelude.{◌≡◌, ℕ, ◌<◌, List, length, Bool, true, false, Option, Some, None, IsSome, MatchOption, All, ◌==◌, position, slice_index_or}
use Rattle.send_jobs.specs.declared.attempts.Attempt.{Attempt}

-- the attempt in flight in a slot; none in a free one, and in one past the last
abbrev pub attempt_in : List (Option Attempt) → ℕ → Option Attempt
attempt_in slots slot = slice_index_or slots slot None

abbrev pub is_free : Option Attempt → Bool
is_free None = true
is_free (Some a) = false

-- the lowest free slot
abbrev pub lowest : List (Option Attempt) → Option ℕ
lowest slots = position is_free slots

-- a slot is free and each below it isn't; or none is free
abbrev pub IsLeastFree : List (Option Attempt) → Option ℕ → Type 0
IsLeastFree slots found = MatchOption found (All IsSome slots)
    (λ slot. (slot < length slots) × (attempt_in slots slot ≡ None) × ((k : ℕ) → k < slot → IsSome (attempt_in slots k)))

-- an attempt at a message
abbrev pub is_on : ℕ → Option Attempt → Bool
is_on n None = false
is_on n (Some a) = a.n == n
