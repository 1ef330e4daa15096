-- With what injectors end, and when no finish was put off, where nothing fails (qmail-queue(8), qmail-send(8)).
use Rattle.std.specs.Prelude.{◌≡◌, ◌⊎◌, ℕ, List, [], ◌∷◌, Some}
use Rattle.call_fs.specs.Disk.{Disk}
use Rattle.call_fs.specs.declared.past.GotData.TheVariants as came
use Rattle.call_fs.specs.declared.past.NeedData.TheVariants as needs
use Rattle.call_fs.specs.declared.past.Own.{Own}
use Rattle.call_fs.specs.declared.program.Port.TheVariants as port
use Rattle.queue_inject.specs.declared.injection.Arguments.{Arguments}
use Rattle.queue_inject.specs.Causes.{first_fault}
use Rattle.send_known.specs.declared.known.Known.{Known}
use Rattle.world_events.specs.declared.event.Program.TheVariants.{Injector, Sender}
use Rattle.mail_world.specs.History.{Actor, Event, after}
use Rattle.mail_world.specs.History.Life.{Over}
use Rattle.settle_law.specs.Suffices.{IsKnown}
use Rattle.settle_law.specs.Well.{GoesWell}

-- An injector that has ended ended with 0, or with the status of the first fault of its input.
abbrev pub InjectorsEnd : Type 0
InjectorsEnd = (d : Disk) (h : List Event) → GoesWell d h → (a : List ℕ) (x : Actor) (args : Arguments) (status : ℕ) → (after d h).actors a ≡ Some x
    → x.program ≡ Injector args → x.life ≡ Over status → (status ≡ 0) ⊎ (first_fault args ≡ Some status)

-- each injector of a bounce whose status a sender took had ended with 0
abbrev pub BouncesEnd : List Own → Type 0
BouncesEnd [] = Unit {0}
BouncesEnd (own ∷ past) = BouncesEnd past × ((slot : ℕ) → own.due ≡ needs.Take (port.Status slot) → own.came ≡ came.Ended 0)

-- Each had.
abbrev pub BouncesAreTaken : Type 0
BouncesAreTaken = (d : Disk) (h : List Event) → GoesWell d h → (a : List ℕ) (x : Actor) (start : ℕ) → (after d h).actors a ≡ Some x
    → x.program ≡ Sender start → BouncesEnd x.past

-- So each message that a sender knows may be finished at once.
abbrev pub KnownFinishAtOnce : Type 0
KnownFinishAtOnce = (d : Disk) (h : List Event) → GoesWell d h → (a : List ℕ) (x : Actor) (start : ℕ) → (after d h).actors a ≡ Some x
    → x.program ≡ Sender start → (k : Known) → IsKnown x.past k → k.finish_at ≡ 0
