-- What is held and given of messages through events of others than the sender and the local spawner, through ends, and through the start of a child.
use Rattle.std.proofs.Common.{◌≡◌, ◌≢◌, ℕ, List, Bool, true, false, ◌&&◌, Option, Some, is_some, refl, sym, ap, ◌∙◌, subst, codes}
use Rattle.std.proofs.lemmas.Bool.{and_parts}
use Rattle.call_fs.proofs.Maps.{put_at_other, put_at_same}
use Rattle.call_fs.specs.Disk.{Disk}
use Rattle.call_fs.specs.declared.past.Own.{Own}
use Rattle.call_fs.specs.declared.program.Port.TheVariants as port
use Rattle.call_fs.specs.declared.program.Ready.{Ready}
use Rattle.program_law.specs.Post.Posts.{goes_at}
use Rattle.program_law.specs.Post.Senders.{is_on}
use Rattle.queue_law.specs.Books.{Books}
use Rattle.queue_law.specs.Injectors.{IsHeld}
use Rattle.queue_law.specs.Numbers.{About, IsSorted}
use Rattle.queue_law.proofs.Looks.{not_found}
use Rattle.queue_paths.specs.Names.Name.{Of}
use Rattle.queue_paths.specs.Names.Part.{Bounce, Info, Local as LocalPart, Mess, Remote}
use Rattle.queue_states.specs.declared.state.State.TheVariants.{S5}
use Rattle.queue_states.specs.States.{is_there, state_of, is_in_intd, is_in_todo}
use Rattle.send_known.specs.declared.channel.Channel.TheVariants.{Local}
use Rattle.send_jobs.specs.Sending.{lane}
use Rattle.send_jobs.specs.Slots.{attempt_in}
use Rattle.spawner_parts.specs.declared.row.Row.{Row}
use Rattle.world_events.specs.declared.event.Program.{Program}
use Rattle.world_events.specs.declared.event.Program.TheVariants.{Injector, LocalSpawner, Sender}
use Rattle.mail_world.specs.History.{Actor, IsDelivery, IsLocalSpawner, IsLiving, Life, MayDo, MayEnd, State, acted, bouncer_of, finished, happens, next_of}
use Rattle.mail_world.specs.History.Event.{Act, End, Stop}
use Rattle.mail_world.specs.History.Life.{Alive, Over, Stopped}
use Rattle.mail_world.specs.Untouched.{about_in, program_of}
use Rattle.world_law.specs.Crew.{IsNamed, is_alive}
use Rattle.world_law.specs.Entered.{IsEntered}
use Rattle.world_law.specs.Inv.{Inv}
use Rattle.world_law.specs.Leaves.{IsSparing, LeavesMost}
use Rattle.world_law.specs.inside.Posts.{desk_in, place_in, sends_by, sends_in, serves_by, serves_in}
use Rattle.world_law.proofs.EnteredFlights.{IsFlying, flying_stays}
use Rattle.world_law.proofs.EnteredKept.{KeepsHeld, given_for_left}
use Rattle.world_law.proofs.EnteredLeft.{messages_left}
use Rattle.world_law.proofs.EnteredStands.{DoneHold, IsGivenFor, MessagesStand, NothingComes, sends_on, serves_on}
use Rattle.world_law.proofs.Leaves.{leaves}
use Rattle.world_law.proofs.MessageSteps.{in_s5}
use Rattle.world_law.proofs.PostEvents.{IsNeither, neither_ends, neither_leaves, neither_seen, sender_over, spawner_over}
use Rattle.world_law.proofs.PostPipes.{names_apart}
use Rattle.world_law.proofs.PostViews.{Halves}
use Rattle.world_law.proofs.Received.{InputYields, WritesNone, books_same, fed_not, input_yields, received_acts, received_ends}

-- The number of an attempt in flight is preprocessed

sorted_in : (d : Disk) (n : ℕ) → state_of d n ≡ S5 → is_there d Info n ≡ true
sorted_in d n stays = (in_s5 (is_there d Mess n) (is_in_intd d n) (is_in_todo d n) (is_there d Info n) (is_there d LocalPart n) (is_there d Remote n) (is_there d Bounce n) stays).1

module _ (s : State) (I : Inv s) where
  flying_sorted : sends_on s ≡ true → (n : ℕ) → IsFlying s n → IsSorted (about_in s n)
  flying_sorted on n w = (
    Info,
    refl,
    λ none.
        let gone : is_there s.disk Info n ≡ false = ap is_some (not_found s.disk.names s.disk.files (Of Info n) none) in
        let there : is_there s.disk Info n ≡ true = sorted_in s.disk n (flying_stays s I on n w) in
        absurd (cc),
  )

-- What was entered, by what stays

entered_about : (s t : State) (n : ℕ) (m : List ℕ) → about_in t n ≡ about_in s n → IsEntered s n m → IsEntered t n m
entered_about s t n m same h = record { injection = h.injection; lives = ap (λ (w : About). w.living) same ∙ h.lives; accepted = h.accepted; text = h.text }

pub entered_books : (s t : State) → t.books ≡ s.books → (n : ℕ) (m : List ℕ) → IsEntered s n m → IsEntered t n m
entered_books s t same n m h = record { injection = h.injection; lives = ap (λ (b : Books). b.living n) same ∙ h.lives; accepted = h.accepted; text = h.text }

-- An event of an actor that is neither side

goes_serves : (b : Bool) (row : Row) → goes_at b row ≡ true → b ≡ true
goes_serves true row e = refl
goes_serves false row e = absurd (cc)

not_local : (program : Program) → IsNeither program → IsLocalSpawner program → ⊥
not_local (LocalSpawner since) it is = it
not_local program it is = is

-- while the local spawner goes on, it has another name
neither_apart : (s : State) (a : List ℕ) (x : Actor) → s.actors a ≡ Some x → IsNeither x.program → serves_on s ≡ true → codes "lspawn" ≢ a
neither_apart s a x is it goes same =
    let serves : serves_in (s.actors (codes "lspawn")) ≡ true = goes_serves (serves_in (s.actors (codes "lspawn"))) (place_in (s.actors (codes "lspawn"))).work.row goes in
    let none : serves_in (s.actors (codes "lspawn")) ≡ false =
    ap (λ (n : List ℕ). serves_in (s.actors n)) same ∙ ap serves_in is ∙ ap (λ (h : Halves). h.serves) (neither_seen x.program it x.past x.life) in
    absurd (cc)

module _ (B C : ℕ → List ℕ → Type 0) (carry : (slot : ℕ) (name : List ℕ) → B slot name → C slot name)
    (s : State) (I : Inv s) (M : MessagesStand B s) (a : List ℕ) (own : Own) (wrote : ℕ) (x : Actor) (is : s.actors a ≡ Some x) where
  abbrev then_state : State
  then_state = acted s a own wrote (Some x)

  -- whatever comes of what is due, also the start of a child
  pub neither_moves : IsNeither x.program → next_of x.program x.past own.read own.ready ≡ own.due
      → (sends_on s ≡ true → (n : ℕ) (m : List ℕ) → IsFlying s n → IsEntered s n m → IsEntered then_state n m) → (codes "lspawn" ≢ a → KeepsHeld s then_state)
      → (IsDelivery x.program → InputYields (s.pipework.pipes a port.Input) own.due own.came) → NothingComes then_state → MessagesStand C then_state
  neither_moves it due entered held yields N =
      messages_left B C carry s then_state (neither_leaves s I a own wrote x is it due) entered (λ goes. held (neither_apart s a x is it goes))
      (received_acts s I a own wrote x is (λ k for. fed_not s I a x is (not_local x.program it) k for own.due) yields) M N

  module _ (L : LeavesMost s (Act a own wrote)) where
    held_left : codes "lspawn" ≢ a → KeepsHeld s then_state
    held_left apart fd how h = subst (λ (o : Option Actor). IsHeld (acted s a own wrote o).disk.opens (acted s a own wrote o).holder (codes "lspawn") fd how) is (L.opens (codes "lspawn") fd how apart h)

    about_left : IsSparing (Some x.program) → (n : ℕ) → IsSorted (about_in s n) → about_in then_state n ≡ about_in s n
    about_left spares n sorted =
        subst (λ (o : Option Actor). about_in (acted s a own wrote o) n ≡ about_in s n) is
        (L.sorted refl (subst (λ (o : Option Actor). IsSparing (program_of o)) (sym is) spares) n sorted)

    unwritten : WritesNone x.program → (n : ℕ) (m : List ℕ) → IsEntered s n m → IsEntered then_state n m
    unwritten none n m h =
        entered_books s then_state (books_same (bouncer_of s a) a s.books x.program none x.past own.read own.ready own.due own.came) n m h

    -- an injector begins and accepts no injection of a number in flight
    entered_by : (program : Program) → x.program ≡ program → IsNeither program → sends_on s ≡ true → (n : ℕ) (m : List ℕ) → IsFlying s n → IsEntered s n m → IsEntered then_state n m
    entered_by (Injector args) e it on n m flies h =
        entered_about s then_state n m (about_left (subst (λ (p : Program). IsSparing (Some p)) (sym e) tt) n (flying_sorted s I on n flies)) h
    entered_by (Sender since) e it on n m flies h = absurd it
    entered_by (LocalSpawner since) e it on n m flies h = absurd it
    entered_by program e it on n m flies h = unwritten (subst WritesNone (sym e) tt) n m h

pub acts_held : (B : ℕ → List ℕ → Type 0) (s : State) → Inv s → MessagesStand B s → (a : List ℕ) (own : Own) (wrote : ℕ) (may : MayDo s a own wrote) → codes "lspawn" ≢ a
    → KeepsHeld s (acted s a own wrote (Some may.actor))
acts_held B s I M a own wrote may apart = held_left B B (λ slot name born. born) s I M a own wrote may.actor may.reads.is (leaves s I (Act a own wrote) may) apart

pub neither_messages : (B C : ℕ → List ℕ → Type 0) → ((slot : ℕ) (name : List ℕ) → B slot name → C slot name) → (s : State) → Inv s → MessagesStand B s → (a : List ℕ) (own : Own) (wrote : ℕ) (may : MayDo s a own wrote) → IsNeither may.actor.program
    → NothingComes (acted s a own wrote (Some may.actor)) → MessagesStand C (acted s a own wrote (Some may.actor))
neither_messages B C carry s I M a own wrote may it N =
    let x = may.actor in
    let L = leaves s I (Act a own wrote) may in
    neither_moves B C carry s I M a own wrote x may.reads.is it may.due (entered_by B C carry s I M a own wrote x may.reads.is L x.program refl it)
    (acts_held B s I M a own wrote may) (λ runs. input_yields s a own.due own.came wrote may.came) N

-- An end or a stop

module _ (B C : ℕ → List ℕ → Type 0) (carry : (slot : ℕ) (name : List ℕ) → B slot name → C slot name)
    (s : State) (I : Inv s) (M : MessagesStand B s) (a : List ℕ) (x : Actor) (is : s.actors a ≡ Some x) (alive : x.life ≡ Alive) (life : Life) (dead : is_alive life ≡ false)
    (held : codes "lspawn" ≢ a → KeepsHeld s (finished s a life (Some x))) (N : NothingComes (finished s a life (Some x))) where
  abbrev gone : Actor
  gone = record { program = x.program; past = x.past; life = life }

  abbrev over : State
  over = finished s a life (Some x)

  neither_over : IsNeither x.program → MessagesStand C over
  neither_over it = messages_left B C carry s over (neither_ends s M.posts a x is alive life dead it) (λ on n m flies h. record { injection = h.injection; lives = h.lives; accepted = h.accepted; text = h.text })
      (λ goes. held (neither_apart s a x is it goes)) (received_ends s a life x is) M N

  -- the sender
  sender_gone : (began : ℕ) → x.program ≡ Sender began → a ≡ codes "sender" → MessagesStand C over
  sender_gone began runs name = record {
    posts = sender_over s M.posts a x is alive life dead began runs name;
    new = N;
    hold = λ on. absurd (off on);
    done = λ on. absurd (off on);
  }
    where
      here : over.actors (codes "sender") ≡ Some gone
      here = ap over.actors (sym name) ∙ put_at_same s.actors a (Some gone)

      off : sends_on over ≡ true → ⊥
      off on =
          let none : sends_in (over.actors (codes "sender")) ≡ false = ap sends_in here ∙ ap (λ (p : Program). sends_by p life) runs ∙ dead in
          let some : sends_in (over.actors (codes "sender")) ≡ true = (and_parts (sends_in (over.actors (codes "sender"))) (is_on (desk_in (over.actors (codes "sender"))).row) on).0 in
          absurd (cc)

  -- the local spawner
  spawner_gone : (began : ℕ) → x.program ≡ LocalSpawner began → a ≡ codes "lspawn" → MessagesStand C over
  unfolding spawner_over
  spawner_gone began runs name = record {
    posts = spawner_over s M.posts a x is alive life dead began runs name;
    new = N;
    hold = λ on goes. absurd (off goes);
    done = λ on. still (M.done (ap (λ (o : Option Actor). sends_in o && is_on (desk_in o).row) (sym there) ∙ on));
  }
    where
      here : over.actors (codes "lspawn") ≡ Some gone
      here = ap over.actors (sym name) ∙ put_at_same s.actors a (Some gone)

      there : over.actors (codes "sender") ≡ s.actors (codes "sender")
      there = put_at_other s.actors a (Some gone) (codes "sender") (λ same. names_apart (codes "sender") (codes "lspawn") refl (same ∙ name))

      off : serves_on over ≡ true → ⊥
      off goes =
          let none : serves_in (over.actors (codes "lspawn")) ≡ false = ap serves_in here ∙ ap (λ (p : Program). serves_by p life) runs ∙ dead in
          let some : serves_in (over.actors (codes "lspawn")) ≡ true = goes_serves (serves_in (over.actors (codes "lspawn"))) (place_in (over.actors (codes "lspawn"))).work.row goes in
          absurd (cc)

      still : DoneHold B s M.posts → DoneHold C over (spawner_over s M.posts a x is alive life dead began runs name)
      still h = record {
        was = λ d among.
            subst (λ (o : Option Actor). IsGivenFor over d.task.name (attempt_in (lane Local (desk_in o).slots).slots d.slot) (M.posts.last d.slot)) (sym there)
            (given_for_left s over (received_ends s a life x is) d.task (M.posts.was d among).is_for (attempt_in (lane Local (desk_in (s.actors (codes "sender"))).slots).slots d.slot) (M.posts.last d.slot)
            (λ r g. record { injection = g.is.injection; lives = g.is.lives; accepted = g.is.accepted; text = g.is.text }) (h.was d among));
        started = λ d among. carry d.slot d.task.name (h.started d among);
        gone = λ d among slot runs. h.gone d among slot runs;
      }

  over_messages : (program : Program) → x.program ≡ program → IsNamed a program → MessagesStand C over
  over_messages (Sender began) runs name = sender_gone began runs name
  over_messages (LocalSpawner began) runs name = spawner_gone began runs name
  over_messages program runs name = neither_over (subst IsNeither (sym runs) tt)

pub end_messages : (B C : ℕ → List ℕ → Type 0) → ((slot : ℕ) (name : List ℕ) → B slot name → C slot name)
    → (s : State) → Inv s → MessagesStand B s → (a : List ℕ) (read : ℕ) (ready : Ready) (status : ℕ) → MayEnd s a read ready status
    → NothingComes (happens s (End a read ready status)) → MessagesStand C (happens s (End a read ready status))
end_messages B C carry s I M a read ready status may =
    let x = may.actor in
    let L = leaves s I (End a read ready status) may in
    subst (λ (o : Option Actor). NothingComes (finished s a (Over status) o) → MessagesStand C (finished s a (Over status) o)) (sym may.reads.is)
    (λ N. over_messages B C carry s I M a x may.reads.is may.reads.alive (Over status) refl
    (λ apart fd how h. subst (λ (o : Option Actor). IsHeld (finished s a (Over status) o).disk.opens (finished s a (Over status) o).holder (codes "lspawn") fd how) may.reads.is
    (L.opens (codes "lspawn") fd how apart h))
    N x.program refl (I.crew a x may.reads.is))

pub stop_messages : (B C : ℕ → List ℕ → Type 0) → ((slot : ℕ) (name : List ℕ) → B slot name → C slot name)
    → (s : State) → Inv s → MessagesStand B s → (a : List ℕ) → IsLiving s a → NothingComes (happens s (Stop a)) → MessagesStand C (happens s (Stop a))
stop_messages B C carry s I M a may =
    let x = may.actor in
    let L = leaves s I (Stop a) may in
    subst (λ (o : Option Actor). NothingComes (finished s a Stopped o) → MessagesStand C (finished s a Stopped o)) (sym may.is)
    (λ N. over_messages B C carry s I M a x may.is may.alive Stopped refl
    (λ apart fd how h. subst (λ (o : Option Actor). IsHeld (finished s a Stopped o).disk.opens (finished s a Stopped o).holder (codes "lspawn") fd how) may.is (L.opens (codes "lspawn") fd how apart h))
    N x.program refl (I.crew a x may.is))
