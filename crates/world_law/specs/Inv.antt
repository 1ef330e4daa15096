-- What holds of the whole system after each event: of the queue, of each actor, and of what the sender asks of its
-- cleaner.
use Rattle.std.specs.Prelude.{◌≡◌, ℕ, List, [], ◌∷◌, Bool, true, Option, Some, None, codes, Contains}
use Rattle.call_fs.specs.declared.past.GotData.{GotData}
use Rattle.call_fs.specs.declared.past.GotData.TheVariants as got
use Rattle.call_fs.specs.declared.past.NeedData.{NeedData}
use Rattle.call_fs.specs.declared.past.NeedData.TheVariants as needs
use Rattle.call_fs.specs.declared.past.Own.{Own}
use Rattle.call_fs.specs.declared.program.Port.TheVariants as port
use Rattle.call_fs.specs.declared.program.Ready.{Ready}
use Rattle.mail_bytes.specs.Moments.{IsMoment}
use Rattle.received_line.specs.declared.line.Invoked.TheVariants as invoking
use Rattle.queue_clean.specs.declared.command.Command.{Command}
use Rattle.queue_clean.specs.declared.command.Command.TheVariants.{Todo}
use Rattle.program_law.specs.Errand.Errands.{Link, Errand, SaysWell}
use Rattle.program_law.specs.Errand.Errands.Awaits.{Answer}
use Rattle.queue_law.specs.Numbers.{Role, Queue, IsPreprocessed, Sound}
use Rattle.queue_law.specs.Rests.{IsClosed, RestsAs}
use Rattle.local_deliver.specs.Table.{Next as DeliversNext}
use Rattle.send_core.specs.Table.{Next}
use Rattle.program_law.specs.Sender.Commands.{WaitsAtRest}
use Rattle.world_pipes.specs.Pipework.{Tenant}
use Rattle.world_pipes.specs.Pipework.Tenant.{Remote, Runs}
use Rattle.world_events.specs.declared.event.Program.{Program}
use Rattle.world_events.specs.declared.event.Program.TheVariants.{Delivery, Injector, LocalSpawner, Sender}
use Rattle.actor_names.specs.MailNames.{members}
use Rattle.mail_world.specs.History.{Actor, IsFed, Life, MayRun, State}
use Rattle.mail_world.specs.History.Life.{Alive}
use Rattle.mail_world.specs.Untouched.{queue}
use Rattle.world_law.specs.Bounces.{BouncesAreQueued}
use Rattle.world_law.specs.Crew.{IsNamed, lives_in, link_in}
use Rattle.world_law.specs.Fares.{FaresBy}

-- Of what the sender asks of its cleaner at most one command is under way, which is the one that it waits for; and the numbers of those
-- commands are as they need.
pub record ErrandRests (now : ℕ) (q : Queue) (cleans : Bool) (x : Link) : Type 0 where
  pub waits : Option Command
  pub errand : Errand waits x
  -- the number of the command that waits for a living cleaner rests
  pub rests : cleans ≡ true → WaitsAtRest now q waits
  -- while the sender waits for the answer to `todo/N`, no injector touches N
  pub asked : (n : ℕ) → x.awaits ≡ Answer (Todo n) → IsClosed now q n
  -- and `+` says that N is preprocessed
  pub told : (n : ℕ) → x.awaits ≡ Answer (Todo n) → SaysWell x → RestsAs now q n IsPreprocessed

abbrev pub ErrandsRest : State → (ℕ → Role) → Type 0
ErrandsRest s role = ErrandRests s.now (queue s role) (lives_in (s.actors (codes "clean"))) (link_in s)

-- which programs start an actor: a sender the injector of a bounce, the local spawner a delivery, and that the injector of its forwards, as
-- its user
abbrev pub Bears : Program → Program → Type 0
Bears (Sender since) (Injector args) = args.invoked ≡ invoking.Bounce
Bears (LocalSpawner since) (Delivery start args) = Unit {0}
Bears (Delivery start words) (Injector args) = args.invoked ≡ invoking.Uid words.uid
Bears program other = ⊥

-- and in which slots: the local spawner in any, others in the first alone
abbrev pub HasSlot : Program → ℕ → Type 0
HasSlot (LocalSpawner since) slot = Unit {0}
HasSlot program slot = slot ≡ 0

-- An actor that runs in a slot of another one, which has started it: it has no name of a member.
pub record IsChild (s : State) (parent : List ℕ) (slot : ℕ) (a : List ℕ) : Type 0 where
  pub bearer : Actor
  pub bearer_is : s.actors parent ≡ Some bearer
  pub actor : Actor
  pub is : s.actors a ≡ Some actor
  pub bears : Bears bearer.program actor.program
  pub has : HasSlot bearer.program slot
  -- that is its own slot
  pub back : s.pipework.slots a ≡ Some (record { parent = parent; number = slot })
  pub apart : Contains members a → ⊥

-- what runs in a slot is that, or a program of the remote spawner
abbrev pub IsTenantOf : State → List ℕ → ℕ → Tenant → Type 0
IsTenantOf s parent slot (Runs a) = IsChild s parent slot a
IsTenantOf s parent slot (Remote reported) = parent ≡ codes "rspawn"

-- What an actor gave to its child is the input that stands in the child's start.
abbrev pub FedBy : State → List ℕ → NeedData → GotData → Type 0
FedBy s a (needs.Give (port.Program d) bytes) got.Gave = IsFed s (s.pipework.programs a d) bytes
FedBy s a due came = Unit {0}

-- of one whose newest event was that, by its table
abbrev pub PastFed : State → List ℕ → (List Own → ℕ → Ready → NeedData) → List Own → Type 0
PastFed s a next [] = Unit {0}
PastFed s a next (own ∷ before) = FedBy s a (next before own.read own.ready) own.came

-- a sender or a delivery that lives
abbrev pub ChildBy : State → List ℕ → Program → List Own → Life → Type 0
ChildBy s a (Sender began) past Alive = PastFed s a (Next None) past
ChildBy s a (Delivery began args) past Alive = PastFed s a (DeliversNext args) past
ChildBy s a program past life = Unit {0}

abbrev pub ChildrenFare : State → Type 0
ChildrenFare s = (a : List ℕ) (x : Actor) → s.actors a ≡ Some x → ChildBy s a x.program x.past x.life

pub record Inv (s : State) : Type 0 where
  -- what each file number was made as
  pub role : ℕ → Role
  -- the present moment is one that a clock may tell
  pub moment : IsMoment s.now
  -- Each name suits what its file was made as. Each number is free, queued, preprocessed or finished, by its files and by the newest
  -- injection of it. Of an accepted injection whose life is over nothing is owed.
  pub sound : Sound (queue s role)
  -- each bounce in a ledger was accepted, and returns the message of that ledger
  pub bounces : BouncesAreQueued s.books
  -- each member has the name of its program
  pub crew : (a : List ℕ) (x : Actor) → s.actors a ≡ Some x → IsNamed a x.program
  -- with one that doesn't start alone each member is there
  pub crewed : (a : List ℕ) (x : Actor) → s.actors a ≡ Some x → (MayRun x.program → ⊥) → (m : List ℕ) → Contains members m → s.actors m ≡ None → ⊥
  -- each actor has what it rests on
  pub fares : (a : List ℕ) (x : Actor) → s.actors a ≡ Some x → FaresBy s.now (queue s role) a x.program x.past x.life
  -- who runs in a slot was started there by who may start it: only the sender, the local spawner and deliveries start actors
  pub tenants : (a : List ℕ) (d : ℕ) (t : Tenant) → s.pipework.programs a d ≡ Some t → IsTenantOf s a d t
  -- after an actor gave to its child, until its next event, that child was given what it was started for
  pub child : ChildrenFare s
  -- the sender and its cleaner
  pub errands : ErrandsRest s role
