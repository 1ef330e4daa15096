-- The invariant says that the state is safe.
use Rattle.std.proofs.Common.{◌≡◌, ◌≢◌, ℕ, List, Bool, true, false, Some, None, is_some, refl, ap}
use Rattle.call_fs.specs.Past.{IsRunBy}
use Rattle.call_fs.specs.declared.past.Own.{Own}
use Rattle.queue_paths.specs.Names.{Part, path}
use Rattle.queue_paths.specs.Names.Name.{Of}
use Rattle.queue_paths.specs.Names.Part.{Mess, Info, Local, Remote, Bounce}
use Rattle.queue_paths.specs.Parts.{in_intd, in_todo}
use Rattle.queue_law.proofs.Waits.{todo_named, todo_unnamed, intd_unnamed}
use Rattle.queue_states.specs.declared.state.State.TheVariants.{Other}
use Rattle.queue_states.specs.States.{state_by, is_there, state_of, is_in_intd, is_in_todo}
use Rattle.queue_law.specs.Claims.{InState}
use Rattle.queue_law.specs.Claims.InState.{First, Second, Third, Fourth, Fifth}
use Rattle.queue_law.specs.Numbers.{Entry, Queue, Role, Sound, about, entry}
use Rattle.queue_law.proofs.Accounted.{all_accounted}
use Rattle.queue_law.proofs.Claims.{sound_is_safe}
use Rattle.queue_law.proofs.Looks.{find_some, found, not_found}
use Rattle.mail_world.specs.History.{Actor, Life, State, next_of}
use Rattle.mail_world.specs.History.Life.{Over}
use Rattle.mail_world.specs.Untouched.{queue}
use Rattle.world_events.specs.declared.event.Program.{Program}
use Rattle.world_events.specs.declared.event.Program.TheVariants.{Delivery, Injector}
use Rattle.world_law.specs.Crew.{is_well}
use Rattle.world_law.specs.Fares.{FaresBy}
use Rattle.world_law.specs.Headline.{EndsWell, IsBooked, SafeState}
use Rattle.world_law.specs.Inv.{Inv}
use Rattle.world_law.specs.Laws.{AreAccounted}
use Rattle.world_law.proofs.DeliveryEnds.{forwarded_in}
use Rattle.world_law.proofs.Queuing.{has_queued}
use Rattle.world_law.proofs.Ran.{HaveRun}

fourth : (mess intd todo info local remote bounce : Bool) → mess ≡ true → todo ≡ true → bounce ≡ false → state_by mess intd todo info local remote bounce ≢ Other
fourth true true true info local remote false m t b = λ e. absurd (cc)
fourth true false true info local remote false m t b = λ e. absurd (cc)
fourth true intd false info local remote bounce m t b = absurd (cc)
fourth true intd true info local remote true m t b = absurd (cc)
fourth false intd todo info local remote bounce m t b = absurd (cc)

fifth : (mess intd todo info local remote bounce : Bool) → mess ≡ true → intd ≡ false → todo ≡ false → info ≡ true → state_by mess intd todo info local remote bounce ≢ Other
fifth true false false true local remote bounce m i t f = λ e. absurd (cc)
fifth true true todo info local remote bounce m i t f = absurd (cc)
fifth true false true info local remote bounce m i t f = absurd (cc)
fifth true false false false local remote bounce m i t f = absurd (cc)
fifth false intd todo info local remote bounce m i t f = absurd (cc)

early : (mess intd todo info local remote bounce : Bool) → (mess ≡ false → intd ≡ false) → todo ≡ false → info ≡ false → local ≡ false → remote ≡ false → bounce ≡ false
    → state_by mess intd todo info local remote bounce ≢ Other
early true true false false false false false below t f l r b = λ e. absurd (cc)
early true false false false false false false below t f l r b = λ e. absurd (cc)
early false false false false false false false below t f l r b = λ e. absurd (cc)
early false true todo info local remote bounce below t f l r b = let w = below refl in absurd (cc)
early mess intd true info local remote bounce below t f l r b = absurd (cc)
early mess intd false true local remote bounce below t f l r b = absurd (cc)
early mess intd false false true remote bounce below t f l r b = absurd (cc)
early mess intd false false false true bounce below t f l r b = absurd (cc)
early mess intd false false false false true below t f l r b = absurd (cc)

module _ (q : Queue) (n : ℕ) where
  there : (part : Part) (y : Entry) → (about q n).parts part ≡ Some y → is_there q.disk part n ≡ true
  there part y is = ap is_some (found q.disk.names q.disk.files (Of part n) y is).0

  gone : (part : Part) → (about q n).parts part ≡ None → is_there q.disk part n ≡ false
  gone part none = ap is_some (not_found q.disk.names q.disk.files (Of part n) none)

  no_intd : in_intd (about q n).parts ≡ None → is_in_intd q.disk n ≡ false
  no_intd none = ap is_some (intd_unnamed q.disk.names q.disk.files n none)

  no_todo : in_todo (about q n).parts ≡ None → is_in_todo q.disk n ≡ false
  no_todo none = ap is_some (todo_unnamed q.disk.names q.disk.files n none)

  has_todo : (y : Entry) → in_todo (about q n).parts ≡ Some y → is_in_todo q.disk n ≡ true
  has_todo y is = ap is_some (todo_named q.disk.names q.disk.files n y is)

  state_in : InState (about q n) → state_of q.disk n ≢ Other
  state_in (First mess intd todo later) = early _ _ _ _ _ _ _ (λ _. no_intd intd) (no_todo todo) (gone Info (later Info refl)) (gone Local (later Local refl))
      (gone Remote (later Remote refl)) (gone Bounce (later Bounce refl))
  state_in (Second y mess intd todo later) = early _ _ _ _ _ _ _ (λ _. no_intd intd) (no_todo todo) (gone Info (later Info refl)) (gone Local (later Local refl))
      (gone Remote (later Remote refl)) (gone Bounce (later Bounce refl))
  state_in (Third y z mess intd todo later) = early _ _ _ _ _ _ _ (λ e. let w = there Mess y mess in absurd (cc)) (no_todo todo) (gone Info (later Info refl))
      (gone Local (later Local refl)) (gone Remote (later Remote refl)) (gone Bounce (later Bounce refl))
  state_in (Fourth y z mess todo bounce) = fourth _ _ _ _ _ _ _ (there Mess y mess) (has_todo z todo) (gone Bounce bounce)
  state_in (Fifth y z mess intd todo info) = fifth _ _ _ _ _ _ _ (there Mess y mess) (no_intd intd) (no_todo todo) (there Info z info)

booked : (now : ℕ) (q : Queue) (a : List ℕ) (program : Program) (past : List Own) (life : Life) → FaresBy now q a program past life
    → IsRunBy (next_of program) past → IsBooked q.books a program past
booked now q a (Injector args) past life F run = λ made. F.queued (has_queued args past run made)
booked now q a other past life F run = tt

well : (now : ℕ) (q : Queue) (a : List ℕ) (program : Program) (past : List Own) (life : Life) → FaresBy now q a program past life
    → life ≡ Over 0 → EndsWell q.books a program past
well now q a (Injector args) past life F over = F.queued (F.ends (ap is_well over))
well now q a (Delivery start args) past life F over = record { carried = F.well (ap is_well over); forwarded = forwarded_in q.books past F.forwards }
well now q a other past life F over = tt

-- what holds of the queue says that the state is safe, if its actors have ended as they say
pub safe_by : (s : State) (role : ℕ → Role) → Sound (queue s role)
    → ((a : List ℕ) (x : Actor) → s.actors a ≡ Some x → IsBooked s.books a x.program x.past)
    → ((a : List ℕ) (x : Actor) → s.actors a ≡ Some x → x.life ≡ Over 0 → EndsWell s.books a x.program x.past) → SafeState s × AreAccounted s
safe_by s role sound queued ends =
    let q = queue s role in
    let S = sound_is_safe q sound in (
      record {
        states = λ n. state_in q n (S.states n);
        numbers = λ n i h. S.numbers n (entry s.disk.files i) (find_some s.disk.names s.disk.files (Of Mess n) i h);
        messages = λ i file lives accepted h. S.messages i (entry s.disk.files file) lives accepted (find_some s.disk.names s.disk.files (Of Mess i.number) file h);
        valid = S.valid;
        queued = queued;
        ends = ends;
      },
      all_accounted q sound,
    )

-- the name of a message is the file of its own number
pub own_numbers : (s : State) → Inv s → (n i : ℕ) → s.disk.names (path (Of Mess n)) ≡ Some i → i ≡ n
own_numbers s I n i h = (sound_is_safe (queue s I.role) I.sound).numbers n (entry s.disk.files i) (find_some s.disk.names s.disk.files (Of Mess n) i h)

-- and an actor that has ended with 0 has ended as it says
pub end_well : (s : State) → Inv s → (a : List ℕ) (x : Actor) → s.actors a ≡ Some x → x.life ≡ Over 0 → EndsWell s.books a x.program x.past
end_well s I a x h over = well s.now (queue s I.role) a x.program x.past x.life (I.fares a x h) over

pub inv_is_safe : (s : State) → HaveRun s.actors → Inv s → SafeState s × AreAccounted s
inv_is_safe s run I =
    safe_by s I.role I.sound
    (λ a x h. booked s.now (queue s I.role) a x.program x.past x.life (I.fares a x h) (run a x h))
    (end_well s I)
