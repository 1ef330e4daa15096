-- What a disk answers that fails at the chosen call alone, and has memory; and disks on which something is always free.
use Rattle.std.specs.Prelude.{◌≡◌, ◌≢◌, ◌↔◌, ℕ, ◌<◌, List, Some}
use Rattle.call_fs.specs.declared.calls.FsError.TheVariants.{Fault, Memory}
use Rattle.call_fs.specs.declared.calls.CallData.{CallData}
use Rattle.call_fs.specs.declared.calls.CallData.TheVariants.{Close}
use Rattle.call_fs.specs.declared.calls.Answer.{Answer}
use Rattle.call_fs.specs.declared.calls.Answer.TheVariants.{Refused}
use Rattle.call_fs.specs.declared.calls.Told.{Told}
use Rattle.call_fs.specs.Apply.{Fits, IsReadBy}
use Rattle.call_fs.specs.Disk.{Disk, Open, Among}
use Rattle.call_fs.specs.Plan.{Plan, Takes, plan_left}

-- whether a call fails by this plan: `close` never does
abbrev pub FailsBy : CallData → Plan → Answer → Type 0
FailsBy (Close fd) plan answer = answer ≢ Refused Fault
FailsBy call plan answer = (answer ≡ Refused Fault) ↔ (plan.fault ≡ Some 1)

-- what is left of a plan after a call: `close` isn't counted
abbrev pub plan_left_by : CallData → Plan → Answer → Plan
plan_left_by (Close fd) plan answer = plan
plan_left_by call plan answer = plan_left plan answer

-- What a disk answers by this plan, which has memory. A failed write has written nothing.
pub record Answers (plan : Plan) (d : Disk) (call : CallData) (told : Told) : Type 0 where
  pub fits : Fits d call told.answer 0
  pub bytes : IsReadBy d call told
  pub fails : FailsBy call plan told.answer
  pub takes : Takes d plan.pick told.answer
  pub no_memory : told.answer ≢ Refused Memory

-- Finitely many names are there, all of them among these texts, and finitely many descriptors are open, all of them
-- below this one.
pub record IsFinite (d : Disk) : Type 0 where
  pub texts : List (List ℕ)
  pub named : (name : List ℕ) (n : ℕ) → d.names name ≡ Some n → Among name texts
  pub descriptors : ℕ
  pub within : (fd : ℕ) (o : Open) → d.opens fd ≡ Some o → fd < descriptors
