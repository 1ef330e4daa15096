-- The invariant, and that each legal event keeps it.
use Rattle.std.proofs.Common.{◌≡◌, ◌≢◌, ℕ, ◌≤◌, List, [], ◌∷◌, true, Option, Some, None, refl, sym, ap, ◌∙◌, subst, ⊎_elim}
use Rattle.call_fs.specs.Disk.{Disk, Open}
use Rattle.call_fs.specs.Maps.{put_at}
use Rattle.call_fs.specs.Survival.{AllSurvive}
use Rattle.call_fs.specs.declared.crash_file_system.Survival.{Survival}
use Rattle.call_fs.specs.declared.past.NeedData.{NeedData}
use Rattle.call_fs.specs.declared.past.NeedData.TheVariants as needs
use Rattle.call_fs.specs.declared.past.GotData.{GotData}
use Rattle.call_fs.specs.declared.past.Own.{Own}
use Rattle.call_fs.specs.declared.calls.CallData.{CallData}
use Rattle.call_fs.specs.declared.calls.Told.{Told}
use Rattle.call_fs.specs.declared.program.Port.{Port}
use Rattle.call_fs.specs.declared.program.Ready.{Ready as Found}
use Rattle.call_fs.specs.Apply.{Fits}
use Rattle.queue_paths.specs.Names.Name.{Pid, Of}
use Rattle.queue_law.proofs.Waits.{intd_bare, todo_bare}
use Rattle.world_events.specs.declared.event.Program.{Program}
use Rattle.world_events.specs.declared.event.Program.TheVariants.{Injector}
use Rattle.mail_world.specs.History.{Event, Life, Injection, Books, Actor, State, newborn, begins, next_of, own_call, acted, called, unless_by, shut_by, finished, stopped, happens, MayRun, MayRead, MayEnd, IsLiving, Opening, opening, after}
use Rattle.mail_world.specs.History.Event.{Start, Act, Child, Generation, Report, End, Stop, Moment, Halt}
use Rattle.mail_world.specs.History.Life.{Alive, Over, Stopped}
use Rattle.call_fs.proofs.Maps.{put_at_cases}
use Rattle.mail_world.proofs.Covered.{IsLone, AreLone, covered}
use Rattle.mail_world.proofs.Owns.{MayCall, IsPass, own_of, by_act}
use Rattle.mail_world.specs.Pipework.{Pipework, pipework_after, without_writer, with_report}
use Rattle.queue_law.specs.Books.{IsInjected}
use Rattle.queue_law.proofs.Tests.{unless_same}
use Rattle.queue_law.proofs.Looks.{find_none, found, mapped_some}
use Rattle.queue_law.specs.Numbers.{Role, Queue, NamesSuit, find, IsSorted, Sound, IsEarly}
use Rattle.queue_law.specs.Injectors.{IsHeld}
use Rattle.mail_world.specs.Untouched.{queue, about_in, LeavesBy, program_of, doer, LeavesRest, EventsLeave}
use Rattle.queue_law.specs.Numbers.Role.{AsOld}
use Rattle.queue_law.specs.Numbers.Phase.{Free}
use Rattle.queue_law.specs.Steps.{Elsewhere, Outside, after_halt}
use Rattle.queue_law.proofs.Frame.{still_there, outside_same}
use Rattle.queue_law.proofs.Step.{nothing_elsewhere}
use Rattle.queue_law.proofs.Halts.{sound_after, early_after}
use Rattle.mail_world.proofs.Programs.{program_starts_none, FaresBy, IsBooked, IsDone, fares_passes, fares_runs, fares_start, fares_frame, fares_halt, fares_later, fares_over, fares_done, fares_booked, queue_by, fares_calls, leaves_same}

-- what holds of an actor
abbrev pub Fares : ℕ → Queue → List ℕ → Actor → Type 0
Fares now q a x = FaresBy now q a x.program x.past x.life

-- the invariant
pub record Inv (s : State) : Type 0 where
  pub role : ℕ → Role
  pub sound : Sound (queue s role)
  -- no program that moves so far preprocesses a number, so the control files make no difference
  pub early : IsEarly (queue s role)
  pub actors : (a : List ℕ) (x : Actor) → s.actors a ≡ Some x → Fares s.now (queue s role) a x

-- What an event of one actor keeps: the invariant, what isn't the queue's, what others hold open, what was accepted, and each
-- preprocessed number.
record KeptBy (s : State) (a : List ℕ) (p : Option Program) (t : State) : Type 0 where
  inv : Inv t
  outside : LeavesBy p s.disk t.disk
  opens : (o : List ℕ) (fd : ℕ) (how : Open) → o ≢ a → IsHeld s.disk.opens s.holder o fd how → IsHeld t.disk.opens t.holder o fd how
  accepted : (i : Injection) → IsInjected s.books i → i.accepted ≡ true → IsInjected t.books i
  sorted : (n : ℕ) → IsSorted (about_in s n) → about_in t n ≡ about_in s n

-- an actor with one event more
abbrev with_own : Actor → Own → Actor
with_own x own = record { program = x.program; past = own ∷ x.past; life = x.life }

-- a state with this queue, in which one actor is as told
abbrev with_actor : State → Queue → Pipework → List ℕ → Actor → State
with_actor s r l a y = record { disk = r.disk; holder = r.holder; now = s.now; actors = put_at s.actors a (Some y); books = r.books; pipework = l }

module _ (s : State) (I : Inv s) where
  -- what stands after a step of one actor, and how the actor fares
  kept_by : (a : List ℕ) (m : Option ℕ) (r : Queue) (l : Pipework) (y : Actor) → Elsewhere s.now a m (queue s I.role) r → Sound r → IsEarly r → Fares s.now r a y
      → Inv (with_actor s r l a y)
  kept_by a m r l y E G early F = record {
    role = r.role;
    sound = G;
    early = early;
    actors = λ o x h. ⊎_elim
        (λ (c : (o ≡ a) × (put_at s.actors a (Some y) o ≡ Some y)).
        let same : y ≡ x = (let w = c.1 in cc) in
        subst (λ b. Fares s.now r b x) (sym c.0) (subst (Fares s.now r a) same F))
        (λ (c : (o ≢ a) × (put_at s.actors a (Some y) o ≡ s.actors o)).
        fares_frame s.now a m (queue s I.role) r E o c.0 x.program x.past x.life (I.actors o x (sym c.1 ∙ h)))
        (put_at_cases s.actors a (Some y) o);
  }

  kept_start : (a : List ℕ) (program : Program) → MayRun program → (l : Pipework) → Inv (begins s a program l)
  kept_start a program runs l =
      kept_by a None (queue s I.role) l (newborn program) (nothing_elsewhere s.now (queue s I.role) a) I.sound I.early (fares_start s.now (queue s I.role) a program runs)

  -- the queue is as before, and one actor as told
  still : (a : List ℕ) (y : Actor) (l : Pipework) → Fares s.now (queue s I.role) a y → KeptBy s a (Some y.program) (with_actor s (queue s I.role) l a y)
  still a y l F = record {
    inv = kept_by a None (queue s I.role) l y (nothing_elsewhere s.now (queue s I.role) a) I.sound I.early F;
    outside = leaves_same y.program s.disk s.disk.opens;
    opens = λ o fd how other h. h;
    accepted = λ i h t. h;
    sorted = λ n h. refl;
  }

  -- what holds after an event of one actor
  abbrev KeepsBy : List ℕ → (Option Actor → State) → Option Actor → Type 0
  KeepsBy a change o = KeptBy s a (program_of o) (change o)

  -- a call, by the program that makes it, which is no sender's
  called_on : (a : List ℕ) (read : ℕ) (ready : Found) (call : CallData) (told : Told) (wrote : ℕ) (program : Program) (past : List Own) (life : Life)
      → MayRead s a (record { program = program; past = past; life = life }) read → next_of program past read ready ≡ needs.File call
      → Fits s.disk call told.answer wrote → FaresBy s.now (queue s I.role) a program past life
      → KeepsBy a (called s a read ready call told wrote) (Some (record { program = program; past = past; life = life }))
  called_on a read ready call told wrote (Injector args) past life reads next fits F =
      let q = queue s I.role in
      let w = fares_calls s.now q a (Injector args) past life read ready call told wrote I.sound F reads.alive reads.no_earlier reads.no_stall next fits in
      record {
        inv = kept_by a w.number (queue_by q a (Injector args) read call told.answer wrote w.role) s.pipework
            (record { program = Injector args; past = own_call read ready call told ∷ past; life = life })
            w.elsewhere w.sound (w.early I.early) w.fares;
        outside = w.outside;
        opens = w.elsewhere.opens;
        accepted = w.accepted;
        sorted = w.sorted;
      }
  called_on a read ready call told wrote other past life reads next fits F = absurd F

  called_by : (a : List ℕ) (read : ℕ) (ready : Found) (call : CallData) (told : Told) (wrote : ℕ) (x : Actor)
      → MayRead s a x read → next_of x.program x.past read ready ≡ needs.File call
      → Fits s.disk call told.answer wrote → KeepsBy a (called s a read ready call told wrote) (Some x)
  called_by a read ready call told wrote x reads next fits =
      called_on a read ready call told wrote x.program x.past x.life reads next fits (I.actors a x reads.is)

  kept_call : (a : List ℕ) (read : ℕ) (ready : Found) (call : CallData) (told : Told) (wrote : ℕ)
      → MayCall s a read ready call told wrote → KeepsBy a (called s a read ready call told wrote) (s.actors a)
  kept_call a read ready call told wrote m =
      subst (KeepsBy a (called s a read ready call told wrote)) (sym m.reads.is) (called_by a read ready call told wrote m.actor m.reads m.due m.fits)

  -- what passes between programs, which concerns nothing of the queue if it isn't a sender's
  taken_by : (a : List ℕ) (read : ℕ) (ready : Found) (port : Port) (came : GotData) (wrote : ℕ) (program : Program) (past : List Own) (life : Life)
      → FaresBy s.now (queue s I.role) a program (own_of read ready (needs.Take port) came ∷ past) life
      → KeepsBy a (acted s a (own_of read ready (needs.Take port) came) wrote) (Some (record { program = program; past = past; life = life }))
  taken_by a read ready port came wrote (Injector args) past life F =
      still a (record { program = Injector args; past = own_of read ready (needs.Take port) came ∷ past; life = life }) (pipework_after s.pipework a (needs.Take port) came wrote) F
  taken_by a read ready port came wrote other past life F = absurd F

  gave_by : (a : List ℕ) (read : ℕ) (ready : Found) (port : Port) (bytes : List ℕ) (came : GotData) (wrote : ℕ) (program : Program) (past : List Own) (life : Life)
      → FaresBy s.now (queue s I.role) a program (own_of read ready (needs.Give port bytes) came ∷ past) life
      → KeepsBy a (acted s a (own_of read ready (needs.Give port bytes) came) wrote) (Some (record { program = program; past = past; life = life }))
  gave_by a read ready port bytes came wrote (Injector args) past life F =
      still a (record { program = Injector args; past = own_of read ready (needs.Give port bytes) came ∷ past; life = life }) (pipework_after s.pipework a (needs.Give port bytes) came wrote) F
  gave_by a read ready port bytes came wrote other past life F = absurd F

  passed_by : (a : List ℕ) (read : ℕ) (ready : Found) (due : NeedData) (came : GotData) (wrote : ℕ) (x : Actor) → IsPass due
      → Fares s.now (queue s I.role) a (with_own x (own_of read ready due came))
      → KeepsBy a (acted s a (own_of read ready due came) wrote) (Some x)
  passed_by a read ready (needs.Take port) came wrote x pass F = taken_by a read ready port came wrote x.program x.past x.life F
  passed_by a read ready (needs.Give port bytes) came wrote x pass F = gave_by a read ready port bytes came wrote x.program x.past x.life F
  passed_by a read ready (needs.Start asked) came wrote x pass F =
      still a (with_own x (own_of read ready (needs.Start asked) came)) (pipework_after s.pipework a (needs.Start asked) came wrote) F
  passed_by a read ready (needs.Command bytes) came wrote x pass F =
      still a (with_own x (own_of read ready (needs.Command bytes) came)) (pipework_after s.pipework a (needs.Command bytes) came wrote) F
  passed_by a read ready (needs.File call) came wrote x pass F = absurd pass
  passed_by a read ready needs.Wait came wrote x pass F = absurd pass
  passed_by a read ready (needs.Ended status) came wrote x pass F = absurd pass

  kept_pass : (a : List ℕ) (wrote : ℕ) (x : Actor) (read : ℕ) (ready : Found) (due : NeedData) (came : GotData)
      → MayRead s a x read → next_of x.program x.past read ready ≡ due → IsPass due → KeepsBy a (acted s a (own_of read ready due came) wrote) (s.actors a)
  kept_pass a wrote x read ready due came reads next pass =
      subst (KeepsBy a (acted s a (own_of read ready due came) wrote)) (sym reads.is) (passed_by a read ready due came wrote x pass
      (fares_passes s.now (queue s I.role) a x.program x.past x.life (own_of read ready due came) (I.actors a x reads.is) next pass))

  -- an end or a stop shuts what the actor had open
  still_open : (a o : List ℕ) (fd : ℕ) (how : Open) → o ≢ a → IsHeld s.disk.opens s.holder o fd how
      → IsHeld (shut_by a s.holder s.disk).opens (λ k. unless_by a (s.holder k) (s.holder k)) o fd how
  still_open a o fd how other h = record {
    opened = ap (λ w. unless_by a w (s.disk.opens fd)) h.held ∙ unless_same o a None (s.disk.opens fd) other ∙ h.opened;
    held = ap (λ w. unless_by a w (s.holder fd)) h.held ∙ unless_same o a None (s.holder fd) other ∙ h.held;
  }

  -- the queue then
  abbrev shut_queue : List ℕ → Queue
  shut_queue a = record { disk = shut_by a s.holder s.disk; holder = λ fd. unless_by a (s.holder fd) (s.holder fd); books = s.books; role = I.role }

  finished_by : (a : List ℕ) (life : Life) (x : Actor) → Fares s.now (queue s I.role) a x
      → (life ≡ Alive → ⊥) → (life ≡ Over 0 → IsDone x.program x.past) → KeepsBy a (finished s a life) (Some x)
  finished_by a life x F dead ends = record {
    inv = kept_by a None
        (shut_queue a)
        (without_writer s.pipework a)
        (record { program = x.program; past = x.past; life = life })
        (record {
          looks = λ _ _. refl;
          living = λ _ _. refl;
          opens = still_open a;
          roles = λ _ _ _. refl;
          apart = λ _ _ _ _ _ _ _ _ _ h. absurd (cc);
          accepted = λ i h _. still_there s.books i h;
        })
        (record { suits = I.sound.suits; fine = I.sound.fine; over = I.sound.over })
        (record { unsorted = I.early.unsorted; waits = I.early.waits; none_over = I.early.none_over })
        (fares_over s.now (queue s I.role) (shut_queue a) refl a x.program x.past x.life life F dead ends);
    outside = leaves_same x.program s.disk (shut_by a s.holder s.disk).opens;
    opens = still_open a;
    accepted = λ i h t. h;
    sorted = λ n h. refl;
  }

  kept_finish : (a : List ℕ) (life : Life) (x : Actor) → s.actors a ≡ Some x
      → (life ≡ Alive → ⊥) → (life ≡ Over 0 → IsDone x.program x.past) → KeepsBy a (finished s a life) (s.actors a)
  kept_finish a life x is dead ends = subst (KeepsBy a (finished s a life)) (sym is) (finished_by a life x (I.actors a x is) dead ends)

  kept_end : (a : List ℕ) (read : ℕ) (ready : Found) (status : ℕ) → MayEnd s a read ready status → KeepsBy a (finished s a (Over status)) (s.actors a)
  kept_end a read ready status m =
      let x = m.actor in
      kept_finish a (Over status) x m.reads.is (λ h. cc) (λ h.
      let zero_status : status ≡ 0 = cc in
      fares_done s.now (queue s I.role) a x.program x.past x.life read ready (I.actors a x m.reads.is) m.reads.alive (m.due ∙ ap needs.Ended zero_status))

  kept_stop : (a : List ℕ) → IsLiving s a → KeepsBy a (finished s a Stopped) (s.actors a)
  kept_stop a m = kept_finish a Stopped m.actor m.is (λ h. cc) (λ h. absurd (cc))

  kept_moment : (m : ℕ) → s.now ≤ m → Inv (record { disk = s.disk; holder = s.holder; now = m; actors = s.actors; books = s.books; pipework = s.pipework })
  kept_moment m later = record {
    role = I.role;
    sound = I.sound;
    early = I.early;
    actors = λ a x h. fares_later s.now m later (queue s I.role) a x.program x.past x.life (I.actors a x h);
  }

  -- no actor lives on after a machine stop, and what ended stays ended
  kept_halt : (how : Survival) (contents : ℕ → List ℕ) → AllSurvive s.disk contents → Inv (happens s (Halt how contents))
  kept_halt how contents survives = record {
    role = I.role;
    sound = sound_after (queue s I.role) contents survives I.sound;
    early = early_after (queue s I.role) contents I.early;
    actors = λ a y h.
        let w = mapped_some stopped (s.actors a) y h in
        let q = queue s I.role in
        subst (Fares s.now (after_halt contents q) a) w.2 (fares_halt s.now q contents a w.0.program w.0.past w.0.life (I.actors a w.0 w.1));
  }

  -- each actor runs a program that a history may start
  runs : (a : List ℕ) (x : Actor) → s.actors a ≡ Some x → MayRun x.program
  runs a x is = fares_runs s.now (queue s I.role) a x.program x.past x.life (I.actors a x is)

-- the pipework concerns nothing of the queue
kept_pipework : (s : State) (l : Pipework) → Inv s → Inv (record { disk = s.disk; holder = s.holder; now = s.now; actors = s.actors; books = s.books; pipework = l })
kept_pipework s l I = record { role = I.role; sound = I.sound; early = I.early; actors = I.actors }

-- what a legal event keeps: the invariant, and all that it leaves
record Keeps (s : State) (e : Event) : Type 0 where
  inv : Inv (happens s e)
  rest : LeavesRest s e

-- an event of no actor, after which disk, descriptors and books are the same
keeps : (s : State) (e : Event) → Inv (happens s e) → (happens s e).disk ≡ s.disk → (happens s e).holder ≡ s.holder → (happens s e).books ≡ s.books → doer s e ≡ None → Keeps s e
keeps s e after disk holder books none = record {
  inv = after;
  rest = record {
    outside = λ _. subst (λ (p : Option Program). LeavesBy p s.disk (happens s e).disk) (sym none) (subst (Outside s.disk) (sym disk) (outside_same s.disk s.disk.opens));
    opens = λ o fd how other h. record { opened = ap (λ (d : Disk). d.opens fd) disk ∙ h.opened; held = ap (λ (f : ℕ → Option (List ℕ)). f fd) holder ∙ h.held };
    accepted = λ i h t. subst (λ (b : Books). IsInjected b i) (sym books) h;
    sorted = λ _ n h i. record { parts = λ part. find (disk i).names (disk i).files (Of part n); living = (books i).living n };
  };
}

kept : (s : State) (e : Event) → Inv s → IsLone s e → Keeps s e
kept s (Start a program) I h = keeps s (Start a program) (kept_start s I a program h.runs s.pipework) refl refl refl refl
kept s (Act a own wrote) I h =
    let w = by_act s a wrote (λ own. KeptBy s a (program_of (s.actors a)) (acted s a own wrote (s.actors a)))
    (λ read ready call told may. kept_call s I a read ready call told wrote may) (kept_pass s I a wrote) own h in
    record { inv = w.inv; rest = record { outside = λ _. w.outside; opens = w.opens; accepted = w.accepted; sorted = λ _. w.sorted } }
kept s (Child parent own a program) I h = absurd (program_starts_none h.actor.program h.actor.past own.read own.ready h.asked (runs s I parent h.actor h.reads.is) (h.due ∙ h.starts))
kept s (Generation crew) I h = absurd h
kept s (Report slot output) I h =
    keeps s (Report slot output) (kept_pipework s (with_report s.pipework slot output) I) refl refl refl refl
kept s (End a read ready status) I h =
    let w = kept_end s I a read ready status h in
    record { inv = w.inv; rest = record { outside = λ _. w.outside; opens = w.opens; accepted = w.accepted; sorted = λ _. w.sorted } }
kept s (Stop a) I h =
    let w = kept_stop s I a h in
    record { inv = w.inv; rest = record { outside = λ _. w.outside; opens = w.opens; accepted = w.accepted; sorted = λ _. w.sorted } }
kept s (Moment m) I h = keeps s (Moment m) (kept_moment s I m h.no_earlier) refl refl refl refl
kept s (Halt how contents) I h = record {
  inv = kept_halt s I how contents h;
  rest = record {
    outside = λ e. absurd (cc);
    opens = λ o fd opened other w. absurd other;
    accepted = λ i w t. w;
    sorted = λ e. absurd (cc);
  };
}

kept_opening : (d : Disk) → Opening d → Inv (opening d)
kept_opening d o = record {
  role = λ _. AsOld;
  sound = record {
    suits = opening_suits;
    fine = λ n. Free (record {
      not_accepted = λ i h t. absurd (cc);
      unsorted = λ part later. find_none d.names d.files (Of part n) (o.empty part n);
      no_todo = todo_bare d.names d.files n (λ part. o.empty part n);
      intd_below = λ _. intd_bare d.names d.files n (λ part. o.empty part n);
    });
    over = λ i h t. absurd h;
  };
  early = record { unsorted = λ n part later. find_none d.names d.files (Of part n) (o.empty part n); waits = λ n i h. absurd (cc); none_over = λ i h t. h };
  actors = λ a x h. absurd (cc);
}
  where
    opening_suits : NamesSuit (queue (opening d) (λ _. AsOld))
    opening_suits (Pid p t k) y h = (tt, tt)
    opening_suits (Of part n) y h = let w = (found d.names d.files (Of part n) y h).0 in let v = o.empty part n in absurd (cc)

pub always : (d : Disk) (h : List Event) → AreLone d h → Inv (after d h)
always d [] o = kept_opening d o
always d (e ∷ before) l = (kept (after d before) e (always d before l.0) l.1).inv

-- so it is after each history in which no generation was started
pub runs_always : (d : Disk) (h : List Event) → AreLone d h → (a : List ℕ) (x : Actor) → (after d h).actors a ≡ Some x → MayRun x.program
runs_always d h l = runs (after d h) (always d h l)

-- and what its past has put into the books is there
pub books_always : (d : Disk) (h : List Event) → AreLone d h → (a : List ℕ) (x : Actor) → (after d h).actors a ≡ Some x → IsBooked (after d h).books a x.program x.past
books_always d h l a x is =
    let s = after d h in
    let I = always d h l in
    fares_booked s.now (queue s I.role) a x.program x.past x.life (I.actors a x is)

-- and each event of a legal one leaves the rest
pub events_leave : EventsLeave
events_leave d e before legal none =
    let l = covered d (e ∷ before) legal none in
    (kept (after d before) e (always d before l.0) l.1).rest
