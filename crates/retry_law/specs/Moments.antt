-- Moments of a past in which a clock tells each moment, and each look at an info file tells one that a clock may tell (qmail-send(8)).
use Rattle.std.specs.Prelude.{◌≡◌, ℕ, List, Option, Some, All}
use Rattle.call_fs.specs.declared.calls.Answer.TheVariants as answer
use Rattle.call_fs.specs.declared.calls.Answer.{Answer}
use Rattle.call_fs.specs.declared.calls.CallData.TheVariants as call
use Rattle.call_fs.specs.declared.past.GotData.TheVariants as came
use Rattle.call_fs.specs.declared.past.GotData.{GotData}
use Rattle.call_fs.specs.declared.past.NeedData.TheVariants as needs
use Rattle.call_fs.specs.declared.past.NeedData.{NeedData}
use Rattle.call_fs.specs.declared.past.Own.{Own}
use Rattle.mail_bytes.specs.Moments.{IsMoment}
use Rattle.queue_paths.specs.Names.Name.{Of}
use Rattle.queue_paths.specs.Names.Part.{Info as InfoFile}
use Rattle.queue_paths.specs.Names.{Name, parse}
use Rattle.retry_law.specs.Tried.{tried_in}
use Rattle.send_core.specs.Births.{births}
use Rattle.send_jobs.specs.Tries.{moment_of}
use Rattle.send_known.specs.declared.channel.Channel.{Channel}
use Rattle.send_runs.specs.Dues.{pass_in}

abbrev pub IsMomentAt : Option Name → Answer → Type 0
IsMomentAt (Some (Of InfoFile n)) (answer.Stat stat) = IsMoment stat.moment
IsMomentAt name told = Unit {0}

abbrev pub IsMomentOf : NeedData → GotData → Type 0
IsMomentOf (needs.File (call.Stat name)) (came.Answered told) = IsMomentAt (parse name) told.answer
IsMomentOf due got = Unit {0}

pub record TellsMoments (event : Own) : Type 0 where
  pub read : IsMoment event.read
  pub came : IsMomentOf event.due event.came

-- Births, and the moments at which passes began, are such moments; and each of these counts as itself.
pub record MomentsAreTold : Type 0 where
  pub births : (past : List Own) → All TellsMoments past → (n : ℕ) → IsMoment ((births past).of n)
  pub passes : (past : List Own) → All TellsMoments past → (c : Channel) (n begun : ℕ) → pass_in c n past ≡ Some begun → IsMoment begun
  pub tries : (past : List Own) → All TellsMoments past → (c : Channel) (n begun : ℕ) → tried_in c n past ≡ Some begun → IsMoment begun
  pub same : (moment : ℕ) → IsMoment moment → moment_of moment ≡ moment
