-- What is known of actors, pipes and slots by the events that a world kept is so after each history that they tell.
use Rattle.std.proofs.Common.{◌≡◌, ℕ, List, [], ◌∷◌, reverse, Bool, true, false, not, ◌&&◌, Option, Some, None, refl, sym, ap, ◌∙◌, subst}
use Rattle.std.proofs.Math.Path.{fun_ext}
use Rattle.std.specs.Prelude.{codes, nat_lt, position, is_some, if◌then◌else◌}
use Rattle.std.specs.List.{AllZip, range_with_len}
use Rattle.call_fs.specs.Disk.{Disk}
use Rattle.call_fs.specs.declared.past.GotData.{GotData}
use Rattle.call_fs.specs.declared.past.GotData.TheVariants.{Gave, Started}
use Rattle.call_fs.specs.declared.past.NeedData.{NeedData}
use Rattle.call_fs.specs.declared.past.NeedData.TheVariants as needs
use Rattle.call_fs.specs.declared.past.Own.{Own}
use Rattle.call_fs.specs.declared.program.Port.{Port}
use Rattle.call_fs.specs.declared.program.Port.TheVariants as port
use Rattle.call_fs.specs.declared.program.Ready.{Ready}
use Rattle.call_fs.specs.declared.program.TheConstants.{INPUT_READY}
use Rattle.world_events.specs.declared.event.Event.{Event as Kept}
use Rattle.world_events.specs.declared.event.Program.{Program}
use Rattle.world_events.specs.declared.event.Program.TheVariants.{Injector, Cleaner, Sender}
use Rattle.world_pipes.specs.Pipes.{offered}
use Rattle.mail_world.specs.Generations.{CanNot, Waits, idled_by, is_unreported, lives_in, lowest_unreported}
use Rattle.mail_world.specs.History.{Event, Actor, State, MayReport, after, next_of, program_of}
use Rattle.mail_world.specs.Known.{known}
use Rattle.mail_world.specs.Pipework.{Pipework, Tenant, is_ready}
use Rattle.mail_world.specs.Pipework.Tenant.{Runs, Remote}
use Rattle.mail_world.specs.Readiness.{found_at, found_by, found_in, has_ended, input_alone, only_child, input_or_child, is_awaiting, is_gone, lies_ready, lowest_ended}
use Rattle.mail_world.specs.Wired.{AreWholeGivings}
use Rattle.mail_world.specs.World.{ComesWhole, Counts, EndsInWorld, IsKeptBy, IsKeptGiving, IsKeptTo, Tells, most_of, with_inputs}
use Rattle.mail_world.proofs.Known.{after_known, known_pipework}

module _ (s t : State) (actors : s.actors ≡ t.actors) (pipework : s.pipework ≡ t.pipework) where
  ended_same : (o : Option Tenant) → has_ended s o ≡ has_ended t o
  ended_same None = refl
  ended_same (Some (Runs b)) = ap (λ (m : List ℕ → Option Actor). is_gone (m b)) actors
  ended_same (Some (Remote reported)) = refl

  ready_same : (a : List ℕ) (p : Port) → lies_ready s a p ≡ lies_ready t a p
  ready_same a p = ap (λ (w : Pipework). is_ready (w.pipes a p)) pipework

  slot_same : (a : List ℕ) (d : ℕ) → has_ended s (s.pipework.programs a d) ≡ has_ended t (t.pipework.programs a d)
  slot_same a d = ended_same (s.pipework.programs a d) ∙ ap (λ (w : Pipework). has_ended t (w.programs a d)) pipework

  lowest_same : (a : List ℕ) → lowest_ended s a ≡ lowest_ended t a
  lowest_same a =
      let is : ◌≡◌ {A = ℕ → Bool} (λ d. has_ended s (s.pipework.programs a d)) (λ d. has_ended t (t.pipework.programs a d)) = fun_ext (λ d. slot_same a d) in
      ap (λ (f : ℕ → Bool). position f (range_with_len 0 256)) is

  awaiting_same : (a : List ℕ) → is_awaiting s a ≡ is_awaiting t a
  awaiting_same a = ap (λ (w : Pipework). is_some (w.slots a) && not (is_ready (w.pipes a port.Input))) pipework

  or_child_same : (a : List ℕ) → input_or_child s a ≡ input_or_child t a
  or_child_same a =
      let f : Bool → Option ℕ → Ready = λ b c. record { links = b ∷ false ∷ false ∷ false ∷ []; child = c } in
      ap (λ (b : Bool). f b (lowest_ended s a)) (ready_same a port.Input) ∙ ap (λ (c : Option ℕ). f (lies_ready t a port.Input) c) (lowest_same a)

  by_program : (a : List ℕ) (program : Program) → found_by s a program ≡ found_by t a program
  by_program a (Injector args) = ap (λ (t : Bool). if t then input_alone false else INPUT_READY) (awaiting_same a)
  by_program a (Cleaner start) = ap (λ (b : Bool). input_alone b) (ready_same a port.Input)
  by_program a (Sender start) =
      let f : Pipework → Bool → Ready = λ w b.
      record { links = is_ready (w.pipes a port.Clean) ∷ is_ready (w.pipes a port.Lspawn) ∷ is_ready (w.pipes a port.Rspawn) ∷ false ∷ []; child = only_child b } in
      ap (λ (w : Pipework). f w (has_ended s (s.pipework.programs a 0))) pipework ∙ ap (f t.pipework) (slot_same a 0)
  by_program a other = or_child_same a

  by_actor : (a : List ℕ) (o : Option Actor) → found_at s a o ≡ found_at t a o
  by_actor a None = refl
  by_actor a (Some x) = by_program a x.program

  -- what an actor finds ready
  pub found_same : (a : List ℕ) → found_in s a ≡ found_in t a
  found_same a = by_actor a (s.actors a) ∙ ap (λ (m : List ℕ → Option Actor). found_at t a (m a)) actors

  ends_same : (o : Option Tenant) (came : GotData) → EndsInWorld t o came → EndsInWorld s o came
  ends_same None came h = h
  ends_same (Some (Runs b)) came h = (h.0, ap (λ (m : List ℕ → Option Actor). m b) actors ∙ h.1, h.2)
  ends_same (Some (Remote true)) came h = h
  ends_same (Some (Remote false)) came h = h

  offers_same : (a : List ℕ) (program : Program) (p : Port) (came : GotData) → offered (most_of program) (t.pipework.pipes a p) ≡ Some came → offered (most_of program) (s.pipework.pipes a p) ≡ Some came
  offers_same a program p came h = ap (λ (w : Pipework). offered (most_of program) (w.pipes a p)) pipework ∙ h

  -- what comes of what is due to it
  pub comes_same : (pid : ℕ) (a : List ℕ) (program : Program) (due : NeedData) (came : GotData) → ComesWhole t pid a program due came → ComesWhole s pid a program due came
  comes_same pid a program (needs.File call) came h = h
  comes_same pid a program (needs.Take (port.Status d)) came h =
      ends_same (s.pipework.programs a d) came (subst (λ (w : Pipework). EndsInWorld t (w.programs a d) came) (sym pipework) h)
  comes_same pid a program (needs.Take port.Input) came h = offers_same a program port.Input came h
  comes_same pid a program (needs.Take port.Output) came h = offers_same a program port.Output came h
  comes_same pid a program (needs.Take port.Clean) came h = offers_same a program port.Clean came h
  comes_same pid a program (needs.Take port.Lspawn) came h = offers_same a program port.Lspawn came h
  comes_same pid a program (needs.Take port.Rspawn) came h = offers_same a program port.Rspawn came h
  comes_same pid a program (needs.Take port.Todo) came h = offers_same a program port.Todo came h
  comes_same pid a program (needs.Take (port.Program d)) came h = offers_same a program (port.Program d) came h
  comes_same pid a program (needs.Give port bytes) came h = h
  comes_same pid a program (needs.Start asked) came h = h
  comes_same pid a program (needs.Command bytes) came h = h
  comes_same pid a program needs.Wait came h = h
  comes_same pid a program (needs.Ended status) came h = h

  -- as what it is kept
  giving_same : (o : Option Tenant) (a : List ℕ) (own : Own) (bytes : List ℕ) (k : Kept) → IsKeptGiving t o a own bytes k → IsKeptGiving s o a own bytes k
  giving_same None a own bytes k h = h
  giving_same (Some (Remote reported)) a own bytes k h = h
  giving_same (Some (Runs c)) a own bytes k h = subst (λ (m : List ℕ → Option Actor). IsKeptTo (program_of (m c)) c a own bytes k) (sym actors) h

  pub kept_same : (n : Counts) (a : List ℕ) (own : Own) (due : NeedData) (came : GotData) (k : Kept) → IsKeptBy t n a own due came k → IsKeptBy s n a own due came k
  kept_same n a own (needs.Start asked) (Started pid) k h = h
  kept_same n a own (needs.Give (port.Program d) bytes) Gave k h =
      giving_same (s.pipework.programs a d) a own bytes k (subst (λ (w : Pipework). IsKeptGiving t (w.programs a d) a own bytes k) (sym pipework) h)
  kept_same n a own due came k h = h

  -- what can't be done yet
  pub cannot_same : (a : List ℕ) (due : NeedData) → CanNot t a due → CanNot s a due
  cannot_same a needs.Wait h = tt
  cannot_same a (needs.Take (port.Status d)) h = slot_same a d ∙ h
  cannot_same a (needs.Take port.Input) h = ready_same a port.Input ∙ h
  cannot_same a (needs.Take port.Output) h = ready_same a port.Output ∙ h
  cannot_same a (needs.Take port.Clean) h = ready_same a port.Clean ∙ h
  cannot_same a (needs.Take port.Lspawn) h = ready_same a port.Lspawn ∙ h
  cannot_same a (needs.Take port.Rspawn) h = ready_same a port.Rspawn ∙ h
  cannot_same a (needs.Take port.Todo) h = ready_same a port.Todo ∙ h
  cannot_same a (needs.Take (port.Program d)) h = ready_same a (port.Program d) ∙ h
  cannot_same a (needs.File call) h = h
  cannot_same a (needs.Give port bytes) h = h
  cannot_same a (needs.Start child) h = h
  cannot_same a (needs.Command bytes) h = h
  cannot_same a (needs.Ended status) h = h

  -- who waits at a moment
  pub waits_same : (present : ℕ) (a : List ℕ) → Waits t present a → Waits s present a
  waits_same present a w = record {
    actor = w.actor;
    is = ap (λ (m : List ℕ → Option Actor). m a) actors ∙ w.is;
    alive = w.alive;
    due = subst (λ (ready : Ready). CanNot s a (next_of w.actor.program w.actor.past present ready)) (sym (found_same a)) (cannot_same a _ w.due);
  }

  -- whether a report may come, and in which slot the next one may
  pub may_report_same : (slot : ℕ) → MayReport t slot → MayReport s slot
  may_report_same slot r = record {
    lives = record { actor = r.lives.actor; is = ap (λ (m : List ℕ → Option Actor). m (codes "rspawn")) actors ∙ r.lives.is; alive = r.lives.alive };
    runs = ap (λ (w : Pipework). w.programs (codes "rspawn") slot) pipework ∙ r.runs;
  }

  pub unreported_same : (from : ℕ) → lowest_unreported from s ≡ lowest_unreported from t
  unreported_same from =
      let test : (List ℕ → Option Actor) → Pipework → ℕ → Bool = λ m w d. not (nat_lt d from) && (lives_in (m (codes "rspawn")) && is_unreported (w.programs (codes "rspawn") d)) in
      ap (λ (m : List ℕ → Option Actor). position (test m s.pipework) (range_with_len 0 256)) actors
      ∙ ap (λ (w : Pipework). position (test t.actors w) (range_with_len 0 256)) pipework

  -- whether an event ended an idle turn
  pub idled_same : (a : List ℕ) (own : Own) → idled_by (s.actors a) own ≡ idled_by (t.actors a) own
  idled_same a own = ap (λ (m : List ℕ → Option Actor). idled_by (m a) own) actors

-- after each history that these events tell
pub actors_told : (d : Disk) (events : List Kept) (h : List Event) → AllZip Tells (with_inputs (reverse events)) h → (after d h).actors ≡ (known events).actors
actors_told d events h told = (after_known d events h told).actors

pub pipework_told : (d : Disk) (events : List Kept) (h : List Event) → AllZip Tells (with_inputs (reverse events)) h → AreWholeGivings (reverse events) → (after d h).pipework ≡ (known events).pipework
pipework_told d events h told whole = known_pipework d events h told whole
