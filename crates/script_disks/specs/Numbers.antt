-- The message numbers that a disk holds.
use Rattle.std.specs.Prelude.{◌≢◌, ◌↔◌, ℕ, ◌^◌, ◌<◌, ◌≤◌, List, All, Contains}
use Rattle.std.specs.List.Sorted.{IsStrictlyIncreasing}
use Rattle.call_fs.specs.Disk.{Disk}
use Rattle.queue_states.specs.declared.state.State.TheVariants.{S1}
use Rattle.queue_states.specs.States.{state_of}

-- the numbers that aren't in S1, in order; a message number is a u64 from 1
pub record AreNumbersIn (d : Disk) (numbers : List ℕ) : Type 0 where
  pub each : (n : ℕ) → 1 ≤ n → n < 2 ^ 64 → Contains numbers n ↔ (state_of d n ≢ S1)
  pub only : All (λ n. (1 ≤ n) × (n < 2 ^ 64)) numbers
  pub rising : IsStrictlyIncreasing numbers
