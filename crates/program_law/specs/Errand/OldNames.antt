-- Which names a cleaner takes away in its scan of `pid` (qmail-clean(8)).
use Rattle.std.specs.Prelude.{◌≡◌, ℕ, ◌+◌, ◌<◌, List, ◌∷◌, Some}
use Rattle.call_fs.specs.Past.{IsRunBy}
use Rattle.call_fs.specs.declared.calls.CallData.TheVariants.{Stat, Unlink}
use Rattle.call_fs.specs.declared.past.NeedData.TheVariants.{File}
use Rattle.call_fs.specs.declared.past.Own.{Own}
use Rattle.call_fs.specs.declared.program.Ready.{Ready}
use Rattle.queue_clean.specs.Table.{Next, moment_in, pid_path}
use Rattle.queue_limits.specs.declared.times.TheConstants.{PID_NAME_AGE}

-- Its last event is a look at the file of this name, which told a moment more than 36 hours before this one.
pub record WasOld (past : List Own) (now : ℕ) (part : List ℕ) : Type 0 where
  pub look : Own
  pub before : List Own
  pub last : past ≡ look ∷ before
  pub asked : look.due ≡ File (Stat (pid_path part))
  pub moment : ℕ
  pub told : moment_in look.came ≡ Some moment
  pub old : moment + PID_NAME_AGE < now

-- Only then it takes the name away.
abbrev pub OldNamesGo : Type 0
OldNamesGo = (past : List Own) (now : ℕ) (ready : Ready) (part : List ℕ) → IsRunBy (Next tt) past → Next tt past now ready ≡ File (Unlink (pid_path part)) → WasOld past now part
