-- A whole injection from its parts.
use Rattle.std.proofs.Common.{◌≡◌, ℕ, ◌^◌, ◌<◌, List, Option, subst, sym}
use Rattle.call_fs.specs.declared.program.Ready.{Ready}
use Rattle.mail_bytes.specs.Told.{Records}
use Rattle.call_fs.specs.declared.past.NeedData.TheVariants as needs
use Rattle.call_fs.specs.declared.past.Own.{Own}
use Rattle.queue_inject.specs.declared.injection.Arguments.{Arguments}
use Rattle.queue_inject.specs.Table.{Next}
use Rattle.queue_inject.specs.Run.{IsRun}
use Rattle.queue_inject.specs.Causes.{IsCausedBy}
use Rattle.call_fs.specs.declared.program.TheConstants.{INPUT_READY}
use Rattle.queue_command.specs.declared.input.Form.{Form}
use Rattle.queue_command.specs.Inputs.{Stream}
use Rattle.queue_command.specs.Runs.{Outside, Who}
use Rattle.queue_command.specs.Injected.{HasInjectedFrom, HasReadAndRun}
use Rattle.queue_command.proofs.Complete.{may_be_queued}

-- each run's status has its cause
abbrev pub HaveCauses : Type 0
HaveCauses = (args : Arguments) (past : List Own) (now : ℕ) (ready : Ready) (status : ℕ) → IsRun args past → Next args past now ready ≡ needs.Ended status → IsCausedBy args past now status

pub injected : (who : Who) (start : ℕ) (form : Form) (message envelope : Stream) (old new : Outside) (status : ℕ) (first_read : Option (List ℕ)) → HaveCauses
    → who.pid < 2 ^ 32 → start < 2 ^ 64 → Records old.moments first_read start → HasInjectedFrom who start form message envelope (record old { moments = first_read }) new status
    → HasReadAndRun who form message envelope old new status
injected who start form message envelope old new status first_read law low soon started from =
    let ran = from.ran in
    record {
      start = start;
      first_read = first_read;
      started = started;
      from_start = from;
      caused = λ args is. law args ran.past ran.last INPUT_READY status (ran.run args is) (ran.ends args is);
      complete = λ args is. may_be_queued args old.disk new.disk ran.past ran.last status (subst (λ p. p < 2 ^ 32) (sym is.started.pid_is) low) (subst (λ s. s < 2 ^ 64) (sym is.started.start_is) soon) (ran.run args is) ran.disk
          (law args ran.past ran.last INPUT_READY status (ran.run args is) (ran.ends args is));
    }
