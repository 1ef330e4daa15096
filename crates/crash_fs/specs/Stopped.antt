-- A disk that passes its first calls on, and fails from then on.
use Rattle.std.specs.Prelude.{◌≡◌, ℕ, ◌≤◌, ◌-◌, List, Option, None}
use Rattle.call_fs.specs.declared.calls.FsError.TheVariants.{Fault}
use Rattle.call_fs.specs.declared.calls.CallData.{CallData}
use Rattle.call_fs.specs.declared.calls.CallData.TheVariants.{Close}
use Rattle.call_fs.specs.declared.calls.Answer.TheVariants.{Refused}
use Rattle.call_fs.specs.declared.calls.Told.{Told}
use Rattle.call_fs.specs.declared.calls.Recorded.{Recorded as Entry}
use Rattle.call_fs.specs.Disk.{Disk}
use Rattle.call_fs.specs.Told.{CallHasCause}
use Rattle.call_fs.specs.Went.{Went}
use Rattle.mail_bytes.specs.Told.{Records, raised, summed}

-- the disk below, how many calls it passes on yet, and how many it has refused
pub record Stopped (D : Type 0) : Type 0 where
  pub below : D
  pub left : ℕ
  pub refused : ℕ

-- `close` isn't counted, and is passed on always
abbrev pub left_after : CallData → ℕ → ℕ
left_after (Close fd) left = left
left_after call left = left - 1

abbrev pub IsPassed : CallData → ℕ → Type 0
IsPassed (Close fd) left = Unit {0}
IsPassed call left = 1 ≤ left

abbrev pub IsStopped : CallData → ℕ → Type 0
IsStopped (Close fd) left = ⊥
IsStopped call left = left ≡ 0

-- A call was counted.
pub record PassesOrFails {D : Type 0} (calls : D → Option (List Entry)) (faults : D → ℕ) (old new : Stopped D) (call : CallData) (got : Told) : Type 0 where
  pub left : new.left ≡ left_after call old.left
  -- it was passed on to the disk below, which made it and gave this answer
  pub passed : IsPassed call old.left → Records (calls old.below) (calls new.below) (record { call = call; told = got })
      × CallHasCause call (faults old.below) (faults new.below) got.answer × (new.refused ≡ old.refused)
  -- or it failed, and the disk below wasn't asked
  pub failed : IsStopped call old.left → (got.answer ≡ Refused Fault) × (new.below ≡ old.below) × (new.refused ≡ raised old.refused)

-- how often it has failed, by itself or as the disk below; the sum stands still at u64's last value
abbrev pub stopped_faults : {D : Type 0} → (D → ℕ) → Stopped D → ℕ
stopped_faults faults s = summed (faults s.below) s.refused

-- how a call went, as such a disk tells it: what the disk below holds, no calls, and no plan, since it fails unasked
abbrev pub StoppedWent : {D : Type 0} → (D → Option Disk) → (D → ℕ) → Stopped D → Stopped D → ℕ → CallData → Told → Type 0
StoppedWent disk faults = Went (λ s. disk s.below) (λ s. None) (λ s. None) (stopped_faults faults)
