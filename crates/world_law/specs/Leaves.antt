-- What an event of a legal history leaves as it was, besides that each state is safe.
use Rattle.std.specs.Prelude.{◌≡◌, ℕ, List, ◌∷◌, true, false, Option, Some}
use Rattle.call_fs.specs.Disk.{Disk, Open}
use Rattle.program_law.specs.Delivery.Leaves.{LeavesButDrops}
use Rattle.queue_law.specs.Books.{Injection, IsInjected, IsLater}
use Rattle.queue_law.specs.Cleaners.{LeavesButPid}
use Rattle.queue_law.specs.Injectors.{IsHeld}
use Rattle.queue_law.specs.Numbers.{IsSorted}
use Rattle.queue_law.specs.Steps.{Outside}
use Rattle.world_events.specs.declared.event.Program.{Program}
use Rattle.world_events.specs.declared.event.Program.TheVariants.{Cleaner, Delivery, Sender}
use Rattle.mail_world.specs.History.{Event, Legal, State, after, happens}
use Rattle.mail_world.specs.Untouched.{IsOther, about_in, doer, is_halt}

-- what an event of a program leaves of what isn't the queue's: all, except that a cleaner takes old names in `pid` away, and that a delivery
-- puts files into maildirs
abbrev pub LeavesOutside : Option Program → Disk → Disk → Type 0
LeavesOutside (Some (Cleaner since)) d e = LeavesButPid d e
LeavesOutside (Some (Delivery since args)) d e = LeavesButDrops d e
LeavesOutside program d e = Outside d e

-- it is neither a sender's nor a cleaner's, which change what is preprocessed
abbrev pub IsSparing : Option Program → Type 0
IsSparing (Some (Sender since)) = ⊥
IsSparing (Some (Cleaner since)) = ⊥
IsSparing program = Unit {0}

-- What an event leaves: of each accepted injection one of which only the ledger has grown; and, unless it is a machine stop, what isn't
-- the queue's, what other actors hold open, and, but for events of a sender or a cleaner, all that concerns a preprocessed number.
pub record LeavesMost (s : State) (e : Event) : Type 0 where
  pub outside : is_halt e ≡ false → LeavesOutside (doer s e) s.disk (happens s e).disk
  pub opens : (o : List ℕ) (fd : ℕ) (how : Open) → IsOther e o → IsHeld s.disk.opens s.holder o fd how → IsHeld (happens s e).disk.opens (happens s e).holder o fd how
  pub accepted : (i : Injection) → IsInjected s.books i → i.accepted ≡ true → (j : Injection) × IsInjected (happens s e).books j × IsLater i j
  pub sorted : is_halt e ≡ false → IsSparing (doer s e) → (n : ℕ) → IsSorted (about_in s n) → about_in (happens s e) n ≡ about_in s n

-- so does each event of a legal history
abbrev pub EventsLeave : Type 0
EventsLeave = (d : Disk) (e : Event) (before : List Event) → Legal d (e ∷ before) → LeavesMost (after d before) e
