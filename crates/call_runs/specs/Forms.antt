-- Disks in memory that answer alike, whatever each keeps beside what it holds.
use Rattle.std.specs.Prelude.{◌≡◌, ◌≢◌, ℕ, List, None, All}
use Rattle.call_fs.specs.declared.calls.FsError.TheVariants.{Memory}
use Rattle.call_fs.specs.declared.calls.CallData.{CallData}
use Rattle.call_fs.specs.declared.calls.CallData.TheVariants.{Close}
use Rattle.call_fs.specs.declared.calls.Answer.{Answer}
use Rattle.call_fs.specs.declared.calls.Answer.TheVariants.{Refused}
use Rattle.call_fs.specs.declared.calls.Told.{Told}
use Rattle.mem_fs.specs.MemDisk.{Counts, MemWent, Planned, disk_of, with_held}

-- They hold the same disk, and have the same picks and the same calls that are to fail.
pub record AreAlike (a b : Planned) : Type 0 where
  pub held : disk_of a.held ≡ disk_of b.held
  pub picks : a.picks ≡ b.picks
  pub plan : a.plan ≡ b.plan
  pub made : a.made ≡ b.made
  pub faults : a.faults ≡ b.faults

-- what a call counted; a close counts nothing
abbrev pub CountsBy : CallData → Planned → Planned → Answer → Type 0
CountsBy (Close fd) old new answer = new ≡ with_held old new.held
CountsBy call old new answer = Counts old new None answer

-- such a disk got this call at this moment, and told that
pub record Makes (old : Planned) (now : ℕ) (call : CallData) (got : Told) (new : Planned) : Type 0 where
  pub went : MemWent old new now call got
  pub counts : CountsBy call old new got.answer

-- memory didn't run out
abbrev pub HasMemory : List Told → Type 0
HasMemory all = All (λ got. got.answer ≢ Refused Memory) all
