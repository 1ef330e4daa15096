-- What the command `clean` did, and why it ended so.
use Rattle.std.specs.Prelude.{◌≡◌, ◌⊎◌, ℕ, List, [], ◌∷◌, ◌++◌, length}
use Rattle.call_fs.specs.declared.past.NeedData.TheVariants.{Give}
use Rattle.call_fs.specs.declared.program.Port.{Port}
use Rattle.call_fs.specs.declared.past.Own.{Own}
use Rattle.call_fs.specs.Past.{IsRunBy}
use Rattle.mail_bytes.specs.Told.{OnTold, Rose}
use Rattle.call_fs.specs.declared.program.TheConstants.{INPUT_READY}
use Rattle.program_runner.specs.Outside.{Outside, TakesEnd}
use Rattle.program_runner.specs.Runs.{Did, HasRun, HasEvent, most_turns}
use Rattle.queue_clean.specs.Table.{Next}
use Rattle.queue_clean.specs.Causes.{IsAnswered, IsEnded}
use Rattle.queue_limits.specs.declared.statuses.TheConstants.{DONE, INPUT, MEMORY, OUTPUT}

-- each answer of a past is the right one to its command, by what came before it
abbrev pub AreAnswered : List Own → Type 0
AreAnswered past = (later before : List Own) (event : Own) (port : Port) (bytes : List ℕ) → later ++ (event ∷ before) ≡ past → event.due ≡ Give port bytes → IsAnswered before port bytes

-- The cleaner was run to its end, which is never with 51. It ended with 0 only if its input ended, and with 53 or 54 only if its output or
-- its input failed.
pub record HasCleaned (old new : Outside) (status : ℕ) : Type 0 where
  pub ran : HasRun Next (λ _. Unit {0}) INPUT_READY old.last status old new
  pub why : IsEnded ran.past status
  pub answers : AreAnswered ran.past
  pub ended : status ≡ DONE → HasEvent ran.past TakesEnd × OnTold new.left (λ left. left ≡ [])
  pub output : status ≡ OUTPUT → Rose old.output_faults new.output_faults
  pub input : status ≡ INPUT → Rose old.input_faults new.input_faults
  pub known : (status ≡ DONE) ⊎ ((status ≡ OUTPUT) ⊎ (status ≡ INPUT))

-- It hasn't ended, after as many turns as a run may take.
pub record StillRuns (old new : Outside) : Type 0 where
  pub past : List Own
  pub long : length past ≡ most_turns
  pub run : IsRunBy (Next tt) past
  pub did : Did old.last past old new

-- It was run to its end, or until no more turns may be taken, which is told by 51.
abbrev pub WasRun : Outside → Outside → ℕ → Type 0
WasRun old new status = HasCleaned old new status ⊎ ((status ≡ MEMORY) × StillRuns old new)
