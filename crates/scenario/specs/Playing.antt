-- A world in which a script is played.
use Rattle.std.specs.Prelude.{◌≡◌, ℕ, List, ◌∷◌, ◌++◌, Bool, true, false, Some, reverse}
use Rattle.std.specs.List.{AllByRecursion, AllZip}
use Rattle.call_fs.specs.Disk.{Disk}
use Rattle.crash_fs.specs.Crash.{Crash, crash_disk, crash_plan}
use Rattle.call_fs.specs.Plan.{Plan}
use Rattle.world_events.specs.declared.answers.WorldError.{WorldError}
use Rattle.world_events.specs.declared.answers.WorldError.TheVariants as error
use Rattle.mail_world.specs.History.{IsLiving}
use Rattle.mail_world.specs.Wired.{AreWholeGivings}
use Rattle.mail_world.specs.World.{Seen, IsHistory}
use Rattle.script_lines.specs.declared.line.Line.{Line}
use Rattle.scenario.specs.declared.stepping.AfterStep.{AfterStep}
use Rattle.scenario.specs.declared.stepping.AfterStep.TheVariants as how
use Rattle.scenario.specs.Deeds.{Deed, TellsDeed, event_in, history_of, after}
use Rattle.scenario.specs.Fates.{AreNamedStarts, IsFedSo}
use Rattle.scenario.specs.Played.{Plays, plan_after}
use Rattle.scenario.specs.Steps.{Refusal, IsRefusalOf, StepsTo, plan_by, plan_through, idles, has_idled, IsRunOf}
use Rattle.scenario.specs.Steps.Outcome.{Happens, Is}
use Rattle.scenario.specs.Steps.Refusal.{Gone}

-- The world began with this disk, this happened in it, of which it kept each deed, and its disk tells this plan. No giving failed, no
-- injector and no delivery has a member's name, and no delivery is given its input at once.
pub record IsPlaying (d : Disk) (w : Seen Crash) (plan : Plan) (h : List Deed) : Type 0 where
  pub is : IsHistory d (crash_disk w.disk) w.events w.present (history_of h)
  pub told : AllZip TellsDeed (reverse w.events) h
  pub planned : crash_plan w.disk ≡ Some plan
  pub whole : AreWholeGivings (reverse w.events)
  pub starts : AreNamedStarts (history_of h)
  pub fed : AllByRecursion IsFedSo (reverse w.events)

-- whether an actor is over after a step, and whether an idle turn has just ended
abbrev pub IsLeftBy : AfterStep → Disk → Plan → List ℕ → Deed → List Deed → Type 0
IsLeftBy how.On d plan a deed h = IsLiving (after d (deed ∷ h)) a × (idles (after d h) (event_in deed) ≡ false)
IsLeftBy how.Idle d plan a deed h = idles (after d h) (event_in deed) ≡ true
IsLeftBy how.Over d plan a deed h = StepsTo d (deed ∷ h) plan a (Is Gone) × (idles (after d h) (event_in deed) ≡ false)

-- whatever happened before, a step of that actor happened then
pub record HasStepped (d : Disk) (new : Seen Crash) (a : List ℕ) (left : AfterStep) (plan : Plan) (h : List Deed) : Type 0 where
  pub deed : Deed
  pub steps : StepsTo d h plan a (Happens deed)
  pub playing : IsPlaying d new (plan_by (event_in deed) plan) (deed ∷ h)
  pub over : IsLeftBy left d (plan_by (event_in deed) plan) a deed h

-- a step was refused
abbrev pub IsRefusedAs : WorldError → Disk → Plan → List ℕ → List Deed → Type 0
IsRefusedAs error.Memory d plan a h = Unit {0}
IsRefusedAs why d plan a h = (refusal : Refusal) × IsRefusalOf why refusal × StepsTo d h plan a (Is refusal)

-- a run added this to the history, and to the text; and whether it stopped with an idle turn
pub record HasRun (d : Disk) (new : Seen Crash) (a : List ℕ) (idle : Bool) (before after_text : List ℕ) (plan : Plan) (h : List Deed) : Type 0 where
  pub events : List Deed
  pub own : List ℕ
  pub run : IsRunOf d h plan a events own
  pub idled : idle ≡ has_idled d h events
  pub playing : IsPlaying d new (plan_through plan events) (events ++ h)
  pub text : after_text ≡ before ++ own

-- what a line added to the history, and to the text
pub record HasPlayed (d : Disk) (new : Seen Crash) (line : Line) (before after : List ℕ) (plan : Plan) (h : List Deed) : Type 0 where
  pub events : List Deed
  pub own : List ℕ
  pub plays : Plays d h plan line events own
  pub playing : IsPlaying d new (plan_after plan line events own) (events ++ h)
  pub text : after ≡ before ++ own
