-- What led to a world is safe.
use Rattle.std.proofs.Common.{ℕ, List, Option, Some, None, IsSomeAnd, subst, sym}
use Rattle.call_fs.specs.Disk.{Disk}
use Rattle.mail_bytes.specs.Told.{OnTold}
use Rattle.mail_world.specs.History.{Event, Legal, Opening}
use Rattle.mail_world.specs.Waiting.{EachWaiting, HasNoGeneration}
use Rattle.mail_world.specs.World.{IsHistory, Leads}
use Rattle.mail_world.proofs.Waiting.{mails_wait}
use Rattle.world_events.specs.declared.event.Event.{Event as Kept}
use Rattle.world_law.specs.Headline.{EachPromised, IsSafeBy}
use Rattle.world_law.proofs.Promise.{headline}

pub each_safe : (opening : Disk) (h : List Event) → Legal opening h → EachPromised opening h
each_safe opening h legal = λ later before same. headline opening later before (subst (Legal opening) (sym same) legal)

pub safe_by_disk : (opening : Disk) (h : List Event) → Legal opening h → IsSafeBy opening h
safe_by_disk opening h legal = record {
  safe = each_safe opening h legal;
  alone = λ none. mails_wait opening h legal none;
}

-- what led to a world, if it began with an initial disk
pub led_safe : (told : Option Disk) (events : List Kept) (present : ℕ)
    → OnTold told (λ now. (o : Disk) × (h : List Event) × Leads o now events present h × (Opening o → Legal o h))
    → OnTold told (λ now. (o : Disk) × (h : List Event) × Leads o now events present h × (Opening o → Legal o h × IsSafeBy o h))
led_safe None events present led = tt
led_safe (Some now) events present led = (led.0, led.1, led.2, λ opens. let legal = led.3 opens in (legal, safe_by_disk led.0 led.1 legal))

-- in a world in which no generation was started each accepted message waits in todo
pub told_waiting : (opening : Disk) (told : Option Disk) (events : List Kept) (present : ℕ) (h : List Event)
    → IsSomeAnd told (λ now. IsHistory opening now events present h) → HasNoGeneration h → EachWaiting opening h
told_waiting opening (Some now) events present h happened none = mails_wait opening h happened.legal none
told_waiting opening None events present h happened none = absurd happened
