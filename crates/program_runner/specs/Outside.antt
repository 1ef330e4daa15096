-- What stands around a program: a disk, a clock, an input and an output, as far as they tell; and what one event does to it.
use Rattle.std.specs.Prelude.{◌≡◌, ℕ, ◌≤◌, List, [], ◌++◌, length, take, Option, Some, None}
use Rattle.call_fs.specs.declared.calls.Answer.{Answer}
use Rattle.call_fs.specs.declared.calls.Answer.TheVariants as answer
use Rattle.call_fs.specs.declared.calls.Recorded.{Recorded}
use Rattle.call_fs.specs.declared.program.Port.TheVariants as port
use Rattle.call_fs.specs.declared.past.NeedData.{NeedData}
use Rattle.call_fs.specs.declared.past.NeedData.TheVariants.{Take, Give}
use Rattle.call_fs.specs.declared.past.GotData.{GotData}
use Rattle.call_fs.specs.declared.past.GotData.TheVariants as got
use Rattle.call_fs.specs.declared.past.Own.{Own}
use Rattle.call_fs.specs.Disk.{Disk}
use Rattle.call_fs.specs.declared.file_system.TheConstants.{PIECE}
use Rattle.call_fs.specs.Past.{HoldsOf, IsFault, Makes, kept_as}
use Rattle.mail_bytes.specs.Moments.{IsMoment}
use Rattle.mail_bytes.specs.Told.{Meets, Records, Rose}

-- What the disk holds, the calls that it was asked and how often it failed; the moments that the clock told, and the last
-- of them; what the input has left and how often it failed; what the output took and how often it failed.
pub record Outside : Type 0 where
  pub disk : Option Disk
  pub calls : Option (List Recorded)
  pub disk_faults : ℕ
  pub moments : Option (List ℕ)
  pub last : ℕ
  pub left : Option (List ℕ)
  pub input_faults : ℕ
  pub taken : Option (List ℕ)
  pub output_faults : ℕ

-- These, and no others, are kept after those that were kept before; or, if there was no room, none are from then on.
abbrev pub AreKept : {X : Type 0} → Option (List X) → Option (List X) → List X → Type 0
AreKept (Some old) (Some new) more = new ≡ old ++ more
AreKept told None more = Unit {0}
AreKept None (Some new) more = ⊥

-- the bytes that an event took of the input
abbrev pub taken_by : NeedData → GotData → List ℕ
taken_by (Take port.Input) (got.Took bytes) = bytes
taken_by due came = []

-- What an event gave to the output: all its bytes, and of a giving that failed a prefix.
abbrev pub Gives : NeedData → GotData → List ℕ → Type 0
Gives (Give port.Output bytes) got.Gave given = given ≡ bytes
Gives (Give port.Output bytes) got.Failed given = (k : ℕ) × (k ≤ length bytes) × (given ≡ take k bytes)
Gives due came given = given ≡ []

-- the input was at its end, if that is what came
abbrev pub EndsInput : NeedData → GotData → List ℕ → Type 0
EndsInput (Take port.Input) got.End left = left ≡ []
EndsInput due came left = Unit {0}

-- a taking of the input failed, or a giving to the output
pub record FailsToTake (event : Own) : Type 0 where
  pub due : event.due ≡ Take port.Input
  pub came : event.came ≡ got.Failed

pub record FailsToGive (event : Own) : Type 0 where
  pub bytes : List ℕ
  pub due : event.due ≡ Give port.Output bytes
  pub came : event.came ≡ got.Failed

-- it took the end of the input
pub record TakesEnd (event : Own) : Type 0 where
  pub due : event.due ≡ Take port.Input
  pub came : event.came ≡ got.End

-- what an event took and left of the input
abbrev pub Takes : Own → List ℕ → List ℕ → Type 0
Takes event before after = (before ≡ taken_by event.due event.came ++ after) × EndsInput event.due event.came after

-- what it gave to the output
abbrev pub Puts : Own → List ℕ → List ℕ → Type 0
Puts event before after = (given : List ℕ) × Gives event.due event.came given × (after ≡ before ++ given)

-- What an event did outside.
pub record Does (event : Own) (old new : Outside) : Type 0 where
  pub moment : IsMoment event.read
  pub later : old.last ≤ event.read
  pub last : new.last ≡ event.read
  pub moments : Records old.moments new.moments event.read
  pub disk : Meets old.disk new.disk (λ before after. Makes before event.read event.due event.came after)
  pub calls : AreKept old.calls new.calls (kept_as event.due event.came)
  pub disk_counts : old.disk_faults ≤ new.disk_faults
  pub disk_cause : HoldsOf IsFault event → Rose old.disk_faults new.disk_faults
  pub left : Meets old.left new.left (Takes event)
  pub input_counts : old.input_faults ≤ new.input_faults
  pub input_cause : FailsToTake event → Rose old.input_faults new.input_faults
  pub taken : Meets old.taken new.taken (Puts event)
  pub output_counts : old.output_faults ≤ new.output_faults
  pub output_cause : FailsToGive event → Rose old.output_faults new.output_faults

-- A look at the clock, and nothing else.
pub record Looks (read : ℕ) (old new : Outside) : Type 0 where
  pub moment : IsMoment read
  pub later : old.last ≤ read
  pub moments : Records old.moments new.moments read
  pub rest : new ≡ record old { moments = new.moments; last = read }

-- how many bytes a read gave
abbrev pub read_count : Answer → ℕ
read_count (answer.Count count) = count
read_count other = 0

-- no more than a piece
abbrev pub HasFew : Answer → Type 0
HasFew answer = read_count answer ≤ PIECE
