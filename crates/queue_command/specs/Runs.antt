-- What a run of the injector did to a disk, and what it asked of a clock.
use Rattle.std.specs.Prelude.{◌≡◌, ℕ, ◌≤◌, List, [], ◌∷◌, ◌++◌, Option}
use Rattle.call_fs.specs.declared.calls.Recorded.{Recorded}
use Rattle.call_fs.specs.Disk.{Disk}
use Rattle.mail_bytes.specs.Told.{Meets, Rose}
use Rattle.call_fs.specs.declared.past.NeedData.TheVariants as needs
use Rattle.call_fs.specs.declared.past.Own.{Own}
use Rattle.received_line.specs.declared.line.Invoked.{Invoked}
use Rattle.queue_inject.specs.declared.injection.Arguments.{Arguments}
use Rattle.queue_inject.specs.Table.{Next}
use Rattle.queue_inject.specs.Run.{IsRun}
use Rattle.queue_inject.specs.Stands.{IsStartedBy}
use Rattle.call_fs.specs.Past.{HasCall, IsFault, LeadsTo, InOrder, calls_of, moments_of, latest_from}
use Rattle.program_runner.specs.Outside.{AreKept}
use Rattle.program_runner.specs.Runs.{Finds}
use Rattle.call_fs.specs.declared.program.TheConstants.{INPUT_READY}
use Rattle.queue_command.specs.Inputs.{Heard, Begins}

-- What a disk and a clock tell: what the disk holds, the calls that it was asked, how often it failed, and the moments
-- that were read.
pub record Outside : Type 0 where
  pub disk : Option Disk
  pub calls : Option (List Recorded)
  pub faults : ℕ
  pub moments : Option (List ℕ)

-- who injects, and in which process
pub record Who : Type 0 where
  pub uid : ℕ
  pub pid : ℕ
  pub invoked : Invoked

-- Arguments that an injector may have that was started so and of whose input so much was read: that input begins so,
-- however it goes on.
pub record IsPossible (who : Who) (start : ℕ) (heard : Heard) (args : Arguments) : Type 0 where
  pub started : IsStartedBy args who.uid who.pid who.invoked start
  pub message : Begins args.message args.message_end heard.message
  pub envelope : Begins args.envelope args.envelope_end heard.envelope

-- The injector was run to its end, for whatever arguments are possible: each of its calls was due at the moment that was
-- read before it, and at the last moment that was read it had ended with this status. The calls of its past are those
-- that the disk was asked, and its moments those that the clock was.
pub record HasRun (possible : Arguments → Type 0) (start : ℕ) (old new : Outside) (status : ℕ) : Type 0 where
  pub past : List Own
  pub last : ℕ
  pub run : (args : Arguments) → possible args → IsRun args past
  pub ends : (args : Arguments) → possible args → Next args past last INPUT_READY ≡ needs.Ended status
  pub ready : Finds INPUT_READY past
  pub in_order : InOrder start past
  pub later : latest_from start past ≤ last
  pub calls : AreKept old.calls new.calls (calls_of past)
  pub moments : AreKept old.moments new.moments (moments_of past ++ last ∷ [])
  pub disk : Meets old.disk new.disk (λ before after. LeadsTo before past after)
  pub counts : old.faults ≤ new.faults
  pub cause : HasCall past IsFault → Rose old.faults new.faults
