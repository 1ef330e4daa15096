-- States that are alike but for what the sender did, as before and after its searches of `todo`.
use Rattle.std.proofs.Common.{◌≡◌, ◌≢◌, ⊎_elim, ℕ, List, [], ◌∷◌, ◌++◌, Bool, true, false, not, ◌&&◌, if◌then◌else◌, Option, Some, None, refl, sym, ap, ◌∙◌, subst}
use Rattle.std.proofs.Math.Path.{fun_ext}
use Rattle.std.proofs.lemmas.Bool.{and_parts, false≢true}
use Rattle.std.proofs.lemmas.Slice.Eq.{bytes_eq-Decides}
use Rattle.std.specs.Prelude.{bytes_eq, codes, is_some, position}
use Rattle.std.specs.List.{list_all, range_with_len}
use Rattle.call_fs.specs.Disk.{Disk}
use Rattle.call_fs.specs.Maps.{put_at}
use Rattle.call_fs.specs.declared.calls.CallData.TheVariants.{NextName}
use Rattle.call_fs.specs.declared.past.GotData.{GotData}
use Rattle.call_fs.specs.declared.past.GotData.TheVariants.{Answered}
use Rattle.call_fs.specs.declared.past.NeedData.{NeedData}
use Rattle.call_fs.specs.declared.past.NeedData.TheVariants as needs
use Rattle.call_fs.specs.declared.past.Own.{Own}
use Rattle.call_fs.specs.declared.program.Port.{Port}
use Rattle.call_fs.specs.declared.program.Port.TheVariants as port
use Rattle.call_fs.specs.declared.program.Ready.{Ready}
use Rattle.call_fs.specs.declared.program.TheConstants.{INPUT_READY}
use Rattle.call_fs.proofs.Maps.{put_at_cases, put_at_other}
use Rattle.world_events.specs.declared.event.Program.{Program}
use Rattle.world_events.specs.declared.event.Program.TheVariants.{Injector, Cleaner, Sender}
use Rattle.mail_world.specs.Generations.{CanNot, lives_in}
use Rattle.mail_world.specs.History.{Actor, Life, State, acted, disk_after, happens, next_of}
use Rattle.mail_world.specs.History.Event.{Start, Act, Child, Generation, Report, End, Stop, Moment, Halt}
use Rattle.mail_world.specs.History.Life.{Alive, Over, Stopped}
use Rattle.mail_world.specs.Pipework.{Pipework, Tenant, is_ready, pipework_after}
use Rattle.mail_world.specs.Pipework.Tenant.{Runs, Remote}
use Rattle.mail_world.specs.Readiness.{found_at, found_by, found_in, has_ended, input_alone, input_or_child, is_awaiting, is_gone, lies_ready, lowest_ended, only_child}
use Rattle.scenario.specs.Deeds.{Deed, after}
use Rattle.scenario.specs.Deeds.Deed.{Came, Fed}
use Rattle.scenario.specs.Turns.{is_search_call, is_search_deed}

pub record AreAlike (s t : State) : Type 0 where
  pub now : s.now ≡ t.now
  pub disk : s.disk ≡ t.disk
  pub pipework : s.pipework ≡ t.pipework
  pub others : (a : List ℕ) → a ≢ codes "sender" → s.actors a ≡ t.actors a
  pub lives : (a : List ℕ) → lives_in (s.actors a) ≡ lives_in (t.actors a)
  pub gone : (a : List ℕ) → is_gone (s.actors a) ≡ is_gone (t.actors a)

pub alike_itself : (s : State) → AreAlike s s
alike_itself s = record { now = refl; disk = refl; pipework = refl; others = λ a far. refl; lives = λ a. refl; gone = λ a. refl }

pub alike_turned : (s t : State) → AreAlike s t → AreAlike t s
alike_turned s t alike = record {
  now = sym alike.now;
  disk = sym alike.disk;
  pipework = sym alike.pipework;
  others = λ a far. sym (alike.others a far);
  lives = λ a. sym (alike.lives a);
  gone = λ a. sym (alike.gone a);
}

pub alike_then : (s t u : State) → AreAlike s t → AreAlike t u → AreAlike s u
alike_then s t u one more = record {
  now = one.now ∙ more.now;
  disk = one.disk ∙ more.disk;
  pipework = one.pipework ∙ more.pipework;
  others = λ a far. one.others a far ∙ more.others a far;
  lives = λ a. one.lives a ∙ more.lives a;
  gone = λ a. one.gone a ∙ more.gone a;
}

-- A search leaves all but the sender's past and the books as it was.

put_tells : (f : Option Actor → Bool) (m : List ℕ → Option Actor) (k : List ℕ) (y : Option Actor) → f (m k) ≡ f y → (a : List ℕ) → f (m a) ≡ f (put_at m k y a)
put_tells f m k y same a = ⊎_elim
    (λ h. ap (λ (b : List ℕ). f (m b)) h.0 ∙ same ∙ ap f (sym h.1))
    (λ h. ap f (sym h.1))
    (put_at_cases m k y a)

search_pipes : (w : Pipework) (a : List ℕ) (due : NeedData) (came : GotData) (wrote : ℕ) → is_search_call due ≡ true → pipework_after w a due came wrote ≡ w
search_pipes w a (needs.File call) came wrote search = refl
search_pipes w a row came wrote search = absurd (cc)

search_disk : (d : Disk) (read : ℕ) (due : NeedData) (came : GotData) (wrote : ℕ) → is_search_call due ≡ true → disk_after d read due came wrote ≡ d
search_disk d read (needs.File (NextName dir from)) (Answered told) wrote search = refl
search_disk d read (needs.File (NextName dir from)) came wrote search = refl
search_disk d read (needs.File c) came wrote search = absurd (false≢true search)
search_disk d read due came wrote search = absurd (false≢true search)

lives_still : (program : Program) (past after_past : List Own) (life : Life) → lives_in (Some (record { program = program; past = past; life = life }))
    ≡ lives_in (Some (record { program = program; past = after_past; life = life }))
lives_still program past after_past Alive = refl
lives_still program past after_past (Over status) = refl
lives_still program past after_past Stopped = refl

acted_alike : (s : State) (own : Own) (wrote : ℕ) (o : Option Actor) → s.actors (codes "sender") ≡ o → is_search_call own.due ≡ true → AreAlike s (acted s (codes "sender") own wrote o)
acted_alike s own wrote None is search = alike_itself s
acted_alike s own wrote (Some x) is search =
    let y : Option Actor = Some (record { program = x.program; past = own ∷ x.past; life = x.life }) in
    record {
      now = refl;
      disk = sym (search_disk s.disk own.read own.due own.came wrote search);
      pipework = sym (search_pipes s.pipework (codes "sender") own.due own.came wrote search);
      others = λ a far. sym (put_at_other s.actors (codes "sender") y a far);
      lives = put_tells lives_in s.actors (codes "sender") y (ap lives_in is ∙ lives_still x.program x.past (own ∷ x.past) x.life);
      gone = put_tells is_gone s.actors (codes "sender") y (ap is_gone is);
    }

search_alike : (s : State) (a : List ℕ) (own : Own) (wrote : ℕ) → a ≡ codes "sender" → is_search_call own.due ≡ true → AreAlike s (happens s (Act a own wrote))
search_alike s a own wrote same search =
    subst (λ (b : List ℕ). AreAlike s (happens s (Act b own wrote))) (sym same) (acted_alike s own wrote (s.actors (codes "sender")) refl search)

deed_alike : (d : Disk) (before : List Deed) (deed : Deed) → is_search_deed deed ≡ true → AreAlike (after d before) (after d (deed ∷ before))
deed_alike d before (Came (Act a own wrote)) search =
    let parts = and_parts (bytes_eq a (codes "sender")) (is_search_call own.due) search in
    search_alike (after d before) a own wrote ((bytes_eq-Decides a (codes "sender")).0 parts.0) parts.1
deed_alike d before row search = absurd (cc)

pub searches_alike : (d : Disk) (h events : List Deed) → list_all is_search_deed events ≡ true → AreAlike (after d h) (after d (events ++ h))
searches_alike d h [] all = alike_itself (after d h)
searches_alike d h (x ∷ events) all =
    let parts = and_parts (is_search_deed x) (list_all is_search_deed events) all in
    alike_then (after d h) (after d (events ++ h)) (after d (x ∷ (events ++ h))) (searches_alike d h events parts.1) (deed_alike d (events ++ h) x parts.0)

-- So nobody else can do anything that it couldn't do before.

module _ (s t : State) (alike : AreAlike s t) where
  ended_alike : (o : Option Tenant) → has_ended s o ≡ has_ended t o
  ended_alike None = refl
  ended_alike (Some (Runs b)) = alike.gone b
  ended_alike (Some (Remote reported)) = refl

  ready_alike : (a : List ℕ) (p : Port) → lies_ready s a p ≡ lies_ready t a p
  ready_alike a p = ap (λ (w : Pipework). is_ready (w.pipes a p)) alike.pipework

  slot_alike : (a : List ℕ) (d : ℕ) → has_ended s (s.pipework.programs a d) ≡ has_ended t (t.pipework.programs a d)
  slot_alike a d = ended_alike (s.pipework.programs a d) ∙ ap (λ (w : Pipework). has_ended t (w.programs a d)) alike.pipework

  lowest_alike : (a : List ℕ) → lowest_ended s a ≡ lowest_ended t a
  lowest_alike a =
      let is : ◌≡◌ {A = ℕ → Bool} (λ d. has_ended s (s.pipework.programs a d)) (λ d. has_ended t (t.pipework.programs a d)) = fun_ext (λ d. slot_alike a d) in
      ap (λ (f : ℕ → Bool). position f (range_with_len 0 256)) is

  awaiting_alike : (a : List ℕ) → is_awaiting s a ≡ is_awaiting t a
  awaiting_alike a = ap (λ (w : Pipework). is_some (w.slots a) && not (is_ready (w.pipes a port.Input))) alike.pipework

  or_child_alike : (a : List ℕ) → input_or_child s a ≡ input_or_child t a
  or_child_alike a =
      let f : Bool → Option ℕ → Ready = λ b c. record { links = b ∷ false ∷ false ∷ false ∷ []; child = c } in
      ap (λ (b : Bool). f b (lowest_ended s a)) (ready_alike a port.Input) ∙ ap (λ (c : Option ℕ). f (lies_ready t a port.Input) c) (lowest_alike a)

  by_program : (a : List ℕ) (program : Program) → found_by s a program ≡ found_by t a program
  by_program a (Injector args) = ap (λ (t : Bool). if t then input_alone false else INPUT_READY) (awaiting_alike a)
  by_program a (Cleaner start) = ap (λ (b : Bool). input_alone b) (ready_alike a port.Input)
  by_program a (Sender start) =
      let f : Pipework → Bool → Ready = λ w b.
      record { links = is_ready (w.pipes a port.Clean) ∷ is_ready (w.pipes a port.Lspawn) ∷ is_ready (w.pipes a port.Rspawn) ∷ false ∷ []; child = only_child b } in
      ap (λ (w : Pipework). f w (has_ended s (s.pipework.programs a 0))) alike.pipework ∙ ap (f t.pipework) (slot_alike a 0)
  by_program a other = or_child_alike a

  by_actor : (a : List ℕ) (o : Option Actor) → found_at s a o ≡ found_at t a o
  by_actor a None = refl
  by_actor a (Some x) = by_program a x.program

  found_alike : (a : List ℕ) → a ≢ codes "sender" → found_in s a ≡ found_in t a
  found_alike a far = by_actor a (s.actors a) ∙ ap (found_at t a) (alike.others a far)

  cannot_alike : (a : List ℕ) (due : NeedData) → CanNot t a due → CanNot s a due
  cannot_alike a needs.Wait h = tt
  cannot_alike a (needs.Take (port.Status d)) h = slot_alike a d ∙ h
  cannot_alike a (needs.Take port.Input) h = ready_alike a port.Input ∙ h
  cannot_alike a (needs.Take port.Output) h = ready_alike a port.Output ∙ h
  cannot_alike a (needs.Take port.Clean) h = ready_alike a port.Clean ∙ h
  cannot_alike a (needs.Take port.Lspawn) h = ready_alike a port.Lspawn ∙ h
  cannot_alike a (needs.Take port.Rspawn) h = ready_alike a port.Rspawn ∙ h
  cannot_alike a (needs.Take port.Todo) h = ready_alike a port.Todo ∙ h
  cannot_alike a (needs.Take (port.Program d)) h = ready_alike a (port.Program d) ∙ h
  cannot_alike a (needs.File call) h = h
  cannot_alike a (needs.Give to bytes) h = h
  cannot_alike a (needs.Start child) h = h
  cannot_alike a (needs.Command bytes) h = h
  cannot_alike a (needs.Ended status) h = h

-- an actor other than the sender waits, if it lives
abbrev pub WaitsIn : State → List ℕ → Type 0
WaitsIn s a = (x : Actor) → s.actors a ≡ Some x → x.life ≡ Alive → a ≢ codes "sender" → CanNot s a (next_of x.program x.past s.now (found_in s a))

pub waits_alike : (s t : State) → AreAlike s t → (a : List ℕ) → WaitsIn t a → WaitsIn s a
waits_alike s t alike a waits x is alive far =
    let there : t.actors a ≡ Some x = sym (alike.others a far) ∙ is in
    cannot_alike s t alike a (next_of x.program x.past s.now (found_in s a))
    (subst (λ (now : ℕ). CanNot t a (next_of x.program x.past now (found_in s a))) (sym alike.now)
    (subst (λ (ready : Ready). CanNot t a (next_of x.program x.past t.now ready)) (sym (found_alike s t alike a far)) (waits x there alive far)))
