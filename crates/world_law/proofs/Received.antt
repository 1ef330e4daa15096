-- What a delivery has received, in full or in part, stays so through what isn't the giving of its message. And what was entered stays through
-- events of those who write no books.
use Rattle.std.specs.Prelude.{Contains}
use Rattle.std.proofs.Common.{◌≡◌, ◌≢◌, ⊎_elim, ℕ, List, ◌∷◌, ◌++◌, take, Bool, true, ◌&&◌, Option, Some, None, refl, sym, ap, ◌∙◌, subst, codes, if◌then◌else◌}
use Rattle.actor_names.specs.MailNames.{members}
use Rattle.call_fs.specs.Maps.{put_at}
use Rattle.call_fs.proofs.Maps.{put_at_cases, put_at_other}
use Rattle.call_fs.specs.declared.calls.Answer.{Answer}
use Rattle.call_fs.specs.declared.calls.CallData.{CallData}
use Rattle.call_fs.specs.declared.past.ChildData.TheVariants as child
use Rattle.call_fs.specs.declared.past.GotData.{GotData}
use Rattle.call_fs.specs.declared.past.GotData.TheVariants as got
use Rattle.call_fs.specs.declared.past.NeedData.{NeedData}
use Rattle.call_fs.specs.declared.past.NeedData.TheVariants as needs
use Rattle.call_fs.specs.declared.past.Own.{Own}
use Rattle.call_fs.specs.declared.program.Port.{Port}
use Rattle.call_fs.specs.declared.program.Port.TheVariants as port
use Rattle.call_fs.specs.declared.program.Ready.{Ready}
use Rattle.call_fs.specs.Past.{taken, taken_by}
use Rattle.local_parts.specs.declared.arguments.LocalArgs.{LocalArgs}
use Rattle.program_law.specs.Post.Posts.{Task}
use Rattle.queue_law.specs.Books.{Books}
use Rattle.queue_law.specs.Entered.{Child}
use Rattle.queue_law.proofs.Tests.{same_text}
use Rattle.world_pipes.specs.Pipework.{Pipe, Pipework, Yields, fresh, is_member, is_writer, mouth, pipes_after, taken as without, writer}
use Rattle.world_pipes.specs.Pipework.Tenant.{Runs}
use Rattle.world_events.specs.declared.event.Program.{Program}
use Rattle.world_events.specs.declared.event.Program.TheVariants.{Delivery, Injector, LocalSpawner, Sender}
use Rattle.mail_world.specs.History.{Actor, ComesOf, IsDelivery, IsLocalSpawner, Life, State, acted, bears, booked_by, books_after, finished, newborn, slot_by, told_by}
use Rattle.world_law.specs.Crew.{IsNamed}
use Rattle.world_law.specs.Inv.{Bears, Inv}
use Rattle.world_law.specs.inside.Posts.{IsDeliveryFor}
use Rattle.world_law.proofs.EnteredKept.{ReceivedSame}
use Rattle.world_law.proofs.MessageSteps.{IsNoFeed, away_left, gives_left, input_left, no_feed_part, taken_same}
use Rattle.world_law.proofs.Pipes.{away_same, no_member}
use Rattle.world_law.proofs.Gone.{bytes_shut}
use Rattle.world_law.proofs.Tenants.{some_actor}

-- An event of the delivery itself: what it takes of its input it has taken

abbrev pub InputYields : Pipe → NeedData → GotData → Type 0
InputYields pipe (needs.Take port.Input) came = Yields pipe came
InputYields pipe due came = Unit {0}

pub input_yields : (s : State) (a : List ℕ) (due : NeedData) (came : GotData) (wrote : ℕ) → ComesOf s a due came wrote → InputYields (s.pipework.pipes a port.Input) due came
input_yields s a (needs.Take port.Input) came wrote comes = comes
input_yields s a due came wrote comes = tt

module _ (w : Pipework) (a : List ℕ) (clean : a ≢ codes "clean") (lspawn : a ≢ codes "lspawn") (rspawn : a ≢ codes "rspawn") (past : List Own) where
  abbrev lies : List ℕ
  lies = (w.pipes a port.Input).bytes

  abbrev Same : NeedData → GotData → ℕ → Type 0
  Same due came wrote = taken_by (taken past) due came ++ (pipes_after w a due came wrote a port.Input).bytes ≡ taken past ++ lies

  took_own : (p : Port) (came : GotData) (wrote : ℕ) → InputYields (w.pipes a port.Input) (needs.Take p) came → Same (needs.Take p) came wrote
  took_own port.Input (got.Took bytes) wrote yields =
      ap (λ (b : Bool). (taken past ++ bytes) ++ (if b && true then without bytes (w.pipes a port.Input) else w.pipes a port.Input).bytes) (same_text a)
      ∙ taken_same (taken past) lies bytes yields.1.0 yields.1.1
  took_own port.Input came wrote yields = refl
  took_own p (got.Took bytes) wrote yields = ap (λ (q : Pipe). taken past ++ q.bytes) (away_same w.pipes (Some (mouth a p)) (without bytes) a port.Input refl)
  took_own p came wrote yields = refl

  own_left : (due : NeedData) (came : GotData) (wrote : ℕ) → IsNoFeed w a a due → InputYields (w.pipes a port.Input) due came → Same due came wrote
  own_left (needs.Give p bytes) got.Gave wrote none yields = ap (λ (t : List ℕ). taken past ++ t) (gives_left w a a clean lspawn rspawn p bytes none)
  own_left (needs.Give p bytes) got.Failed wrote none yields =
      ap (λ (t : List ℕ). taken past ++ t) (gives_left w a a clean lspawn rspawn p (take wrote bytes) (no_feed_part w a a clean lspawn rspawn p bytes (take wrote bytes) none))
  own_left (needs.Take p) came wrote none yields = took_own p came wrote yields
  own_left (needs.Start (child.Remote slot domain sender recipient)) (got.Started pid) wrote none yields =
      ap (λ (t : List ℕ). taken past ++ t) (away_left w a a clean lspawn rspawn (Some (mouth a (port.Program slot))) (λ pipe. fresh) refl)
  own_left due came wrote none yields = refl

-- A delivery runs only in slots of the local spawner

bears_not : (program : Program) (start : ℕ) (args : LocalArgs) → (IsLocalSpawner program → ⊥) → Bears program (Delivery start args) → ⊥
bears_not (LocalSpawner since) start args other bears = other tt
bears_not program start args other bears = bears

module _ (s : State) (I : Inv s) where
  pub fed_not : (a : List ℕ) (x : Actor) → s.actors a ≡ Some x → (IsLocalSpawner x.program → ⊥) → (k : Task) → IsDeliveryFor s k → (due : NeedData) → IsNoFeed s.pipework a k.name due
  fed_not a x is other k it (needs.Give (port.Program d) bytes) = λ runs.
      let h = I.tenants a d (Runs k.name) runs in
      let one : h.bearer ≡ x = some_actor h.bearer x (sym h.bearer_is ∙ is) in
      let two : h.actor ≡ it.delivery = some_actor h.actor it.delivery (sym h.is ∙ it.is) in
      bears_not x.program it.start it.args other
      (subst (λ (z : Program). Bears x.program z) (ap (λ (y : Actor). y.program) two ∙ it.program) (subst (λ (y : Actor). Bears y.program h.actor.program) one h.bears))
  fed_not a x is other k it due = tt

  pub task_apart : (k : Task) → IsDeliveryFor s k → Contains members k.name → ⊥
  task_apart k it = subst (λ (z : Program). IsNamed k.name z) it.program (I.crew k.name it.delivery it.is)

  -- An event that isn't the giving to it

  module _ (a : List ℕ) (own : Own) (wrote : ℕ) (x : Actor) (is : s.actors a ≡ Some x) (none : (k : Task) → IsDeliveryFor s k → IsNoFeed s.pipework a k.name own.due)
      (yields : IsDelivery x.program → InputYields (s.pipework.pipes a port.Input) own.due own.came) where
    abbrev then_state : State
    then_state = acted s a own wrote (Some x)

    abbrev moved : Actor
    moved = record { program = x.program; past = own ∷ x.past; life = x.life }

    abbrev lies_then : List ℕ → List ℕ
    lies_then name = (then_state.pipework.pipes name port.Input).bytes

    -- its own one
    of_itself : (k : Task) (it : IsDeliveryFor s k) → k.name ≡ a → taken (own ∷ x.past) ++ lies_then k.name ≡ taken it.delivery.past ++ (s.pipework.pipes k.name port.Input).bytes
    of_itself k it name =
        let same : it.delivery ≡ x = some_actor it.delivery x (sym it.is ∙ ap s.actors name ∙ is) in
        let runs : IsDelivery x.program = subst IsDelivery (sym it.program ∙ ap (λ (y : Actor). y.program) same) tt in
        let off : (m : List ℕ) → is_member m ≡ true → a ≢ m = λ m member. subst (λ (n : List ℕ). n ≢ m) name (no_member s.pipework k.name (task_apart k it) m member) in
        ap (λ (n : List ℕ). taken (own ∷ x.past) ++ lies_then n) name
        ∙ own_left s.pipework a (off (codes "clean") refl) (off (codes "lspawn") refl) (off (codes "rspawn") refl) x.past own.due own.came wrote
        (subst (λ (n : List ℕ). IsNoFeed s.pipework a n own.due) name (none k it)) (yields runs)
        ∙ ap (λ (n : List ℕ). taken x.past ++ (s.pipework.pipes n port.Input).bytes) (sym name)
        ∙ ap (λ (y : Actor). taken y.past ++ (s.pipework.pipes k.name port.Input).bytes) (sym same)

    pub received_acts : ReceivedSame s then_state
    received_acts k it y there = ⊎_elim
        (λ (c : (k.name ≡ a) × (put_at s.actors a (Some moved) k.name ≡ Some moved)).
        ap (λ (z : Actor). taken z.past ++ lies_then k.name) (some_actor y moved (sym there ∙ c.1)) ∙ of_itself k it c.0)
        (λ (c : (k.name ≢ a) × (put_at s.actors a (Some moved) k.name ≡ s.actors k.name)).
        let off = no_member s.pipework k.name (task_apart k it) in
        ap (λ (z : Actor). taken z.past ++ lies_then k.name) (some_actor y it.delivery (sym there ∙ c.1 ∙ it.is))
        ∙ ap (λ (t : List ℕ). taken it.delivery.past ++ t)
        (input_left s.pipework a k.name c.0 (off (codes "clean") refl) (off (codes "lspawn") refl) (off (codes "rspawn") refl) own.due own.came wrote (none k it)))
        (put_at_cases s.actors a (Some moved) k.name)

-- Another actor starts as a child

pub received_bears : (s : State) (parent : List ℕ) (own : Own) (a : List ℕ) (program : Program) → s.actors a ≡ None → ReceivedSame s (bears s parent own a program)
received_bears s parent own a program new k it y there =
    ap (λ (z : Actor). taken z.past ++ (then_state.pipework.pipes k.name port.Input).bytes)
    (some_actor y it.delivery (sym there ∙ put_at_other s.actors a (Some (newborn program)) k.name apart ∙ it.is))
    ∙ ap (λ (p : Pipe). taken it.delivery.past ++ p.bytes) (away_same s.pipework.pipes (Some (mouth parent (port.Program (slot_by own.due)))) (λ pipe. fresh) k.name port.Input refl)
  where
    then_state : State
    then_state = bears s parent own a program

    apart : k.name ≢ a
    apart same = let both : ◌≡◌ {A = Option Actor} None (Some it.delivery) = sym new ∙ ap s.actors (sym same) ∙ it.is in absurd (cc)

-- An end or a stop

pub received_ends : (s : State) (a : List ℕ) (life : Life) (x : Actor) → s.actors a ≡ Some x → ReceivedSame s (finished s a life (Some x))
received_ends s a life x is k it y there =
    ap (λ (t : List ℕ). taken y.past ++ t) (bytes_shut (is_writer a (writer s.pipework k.name port.Input)) (s.pipework.pipes k.name port.Input))
    ∙ ap (λ (past : List Own). taken past ++ (s.pipework.pipes k.name port.Input).bytes) same
  where
    gone : Actor
    gone = record { program = x.program; past = x.past; life = life }

    same : y.past ≡ it.delivery.past
    same = ⊎_elim
        (λ (c : (k.name ≡ a) × (put_at s.actors a (Some gone) k.name ≡ Some gone)).
        ap (λ (z : Actor). z.past) (some_actor y gone (sym there ∙ c.1)) ∙ ap (λ (z : Actor). z.past) (some_actor x it.delivery (sym is ∙ ap s.actors (sym c.0) ∙ it.is)))
        (λ (c : (k.name ≢ a) × (put_at s.actors a (Some gone) k.name ≡ s.actors k.name)).
        ap (λ (z : Actor). z.past) (some_actor y it.delivery (sym there ∙ c.1 ∙ it.is)))
        (put_at_cases s.actors a (Some gone) k.name)

-- Who writes no books

abbrev pub WritesNone : Program → Type 0
WritesNone (Injector args) = ⊥
WritesNone (Sender since) = ⊥
WritesNone program = Unit {0}

module _ (bouncer : Option Child) (a : List ℕ) where
  told_none : (b : Books) (program : Program) → WritesNone program → (past : List Own) (read : ℕ) (ready : Ready) (came : GotData) → told_by bouncer b program past read ready came ≡ b
  told_none b (Injector args) none past read ready came = absurd none
  told_none b (Sender since) none past read ready came = absurd none
  told_none b program none past read ready came = refl

  booked_none : (b : Books) (program : Program) → WritesNone program → (c : CallData) (told : Answer) → booked_by b a program c told ≡ b
  booked_none b (Injector args) none c told = absurd none
  booked_none b (Sender since) none c told = absurd none
  booked_none b program none c told = refl

  pub books_same : (b : Books) (program : Program) → WritesNone program → (past : List Own) (read : ℕ) (ready : Ready) (due : NeedData) (came : GotData)
      → books_after bouncer b a program past read ready due came ≡ b
  books_same b program none past read ready (needs.File c) (got.Answered told) =
      told_none (booked_by b a program c told.answer) program none past read ready (got.Answered told) ∙ booked_none b program none c told.answer
  books_same b program none past read ready (needs.Take from) came = told_none b program none past read ready came
  books_same b program none past read ready (needs.Give to bytes) came = told_none b program none past read ready came
  books_same b program none past read ready due came = refl
