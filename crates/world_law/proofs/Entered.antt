-- The message that a local delivery took is the one that was entered.
use Rattle.std.proofs.Common.{◌≡◌, ◌≢◌, ℕ, List, [], ◌∷◌, ◌++◌, Bool, true, false, ◌&&◌, option_map, Option, Some, None, refl, sym, ap, ◌∙◌, subst, codes}
use Rattle.std.proofs.lemmas.List.{append-nil, append_assoc}
use Rattle.call_fs.specs.Disk.{Disk}
use Rattle.call_fs.specs.declared.past.Own.{Own}
use Rattle.call_fs.specs.declared.program.Port.TheVariants as port
use Rattle.call_fs.specs.Past.{taken}
use Rattle.mail_bytes.specs.Netstring.{netstring}
use Rattle.local_parts.specs.Inputs.{message_in}
use Rattle.local_parts.proofs.Netstrings.{written}
use Rattle.program_law.specs.Post.Posts.{Done, IsAskedFor, Posted, Task}
use Rattle.program_law.proofs.Post.Asks.{starts_posted}
use Rattle.program_law.proofs.Post.Senders.{senders_keep}
use Rattle.program_law.specs.Post.Senders.{IsFirst, is_on}
use Rattle.send_jobs.specs.declared.attempts.Attempt.{Attempt}
use Rattle.send_known.specs.declared.channel.Channel.TheVariants.{Local}
use Rattle.send_jobs.specs.Sending.{lane}
use Rattle.send_jobs.specs.Slots.{attempt_in}
use Rattle.spawn_protocol.specs.declared.request.Request.{Request}
use Rattle.world_pipes.specs.Pipework.{Pipe, closed, given, mouth}
use Rattle.call_fs.specs.Maps.{put_at}
use Rattle.call_fs.proofs.Maps.{put_at_other}
use Rattle.world_events.specs.declared.event.Program.{Program}
use Rattle.world_events.specs.declared.event.Program.TheVariants.{Cleaner, Injector, LocalSpawner, Sender}
use Rattle.mail_world.proofs.Members.{are_four}
use Rattle.mail_world.specs.History.{Actor, Allowed, Event, IsLocalSpawner, IsSender, Legal, MayDo, State, acted, after, happens, newborn, opening, slot_by, stopped}
use Rattle.mail_world.specs.History.Event.{Act, Child, End, Generation, Halt, Moment, Report as Tells, Start, Stop}
use Rattle.mail_world.specs.History.Life.{Alive}
use Rattle.world_law.specs.Crew.{IsNamed}
use Rattle.world_law.specs.Entered.{IsEntered}
use Rattle.world_law.specs.Inv.{Inv}
use Rattle.world_law.specs.Started.{Stays}
use Rattle.world_law.specs.inside.Posts.{PostsStand, View, WasDone, desk_in, place_in, post_of}
use Rattle.world_law.proofs.Born.{IsBorn, born_now, born_on, neither_sends, others_stay}
use Rattle.world_law.proofs.EnteredStands.{Begins, FeedsLast, IsGivenFor, MessagesStand, NothingComes, has_message, received, sends_on}
use Rattle.world_law.proofs.Histories.{always}
use Rattle.world_law.proofs.EnteredFlights.{one_number}
use Rattle.world_law.proofs.EnteredChild.{child_messages}
use Rattle.world_law.proofs.EnteredLeft.{messages_left}
use Rattle.world_law.proofs.EnteredOthers.{acts_held, end_messages, neither_messages, stop_messages}
use Rattle.world_law.proofs.EnteredSender.{sender_messages}
use Rattle.world_law.proofs.EnteredSpawner.{spawner_messages}
use Rattle.world_law.proofs.Inputs.{one_text}
use Rattle.world_law.proofs.Newcomers.{newcomers_always}
use Rattle.world_law.proofs.Pipes.{away_same}
use Rattle.world_law.proofs.PostEvents.{IsNeither, neither_seen}
use Rattle.world_law.proofs.PostKept.{four_begun, halts_stand, lspawn_is, posts_always, seen_begun, sends_halted}
use Rattle.world_law.proofs.Ran.{HaveRun, have_run}
use Rattle.world_law.proofs.Starts.{is_cleaner, is_local, is_remote, is_sender}
use Rattle.world_law.proofs.PostPipes.{names_apart}
use Rattle.world_law.proofs.PostViews.{halves, new_keeps_done, put_seen, view_same}
use Rattle.world_law.proofs.SendersPut.{sender}
use Rattle.world_law.proofs.Tenants.{some_actor}

-- First bytes of a netstring that are an input are all of it.
pub all_of : (part text message : List ℕ) → Begins part (netstring text) → message_in part ≡ Some message → message ≡ text
all_of part text message b is =
    let whole : part ≡ netstring message = (written part message is).text in
    (one_text message text b.rest [] (ap (λ (t : List ℕ). t ++ b.rest) (sym whole) ∙ b.text ∙ sym (append-nil (netstring text)))).0

-- what was taken begins what was received
pub taken_begins : (took lies text : List ℕ) → Begins (took ++ lies) text → Begins took text
taken_begins took lies text b = record { rest = lies ++ b.rest; text = sym (append_assoc took lies b.rest) ∙ b.text }

-- What the last request of a slot was given is of the attempt in flight there.

pub record IsGivenTo (s : State) (name : List ℕ) (n : ℕ) : Type 0 where
  pub message : List ℕ
  pub is : IsEntered s n message
  pub begins : (x : _) → s.actors name ≡ Some x → Begins (received s name x) (netstring message)

given_to : (s : State) (name : List ℕ) (t : Attempt) (o : Option Request) → IsAskedFor o t → IsGivenFor s name (Some t) o → IsGivenTo s name t.n
given_to s name t None asks h = absurd asks
given_to s name t (Some r) asks h = record {
  message = h.message;
  is = subst (λ (n : ℕ). IsEntered s n h.message) (one_number h.n t.n (sym h.mess ∙ asks.1)) h.is;
  begins = h.begins;
}

module _ (B : ℕ → List ℕ → Type 0) (s : State) (I : Inv s) (M : MessagesStand B s) (on : sends_on s ≡ true) where
  abbrev P : PostsStand s
  P = M.posts

  abbrev slots : List (Option Attempt)
  slots = (lane Local (desk_in (s.actors (codes "sender"))).slots).slots

  pub given_in : (x : Done) (t : Attempt) → attempt_in slots x.slot ≡ Some t → IsGivenFor s x.task.name (attempt_in slots x.slot) (P.last x.slot) → IsGivenTo s x.task.name t.n
  given_in x t flies h =
      given_to s x.task.name t (P.last x.slot) (P.posted.fares.flies on x.slot t flies) (subst (λ (o : Option Attempt). IsGivenFor s x.task.name o (P.last x.slot)) flies h)

  -- what it took is that message
  pub took_entered : (x : Done) (was : WasDone s x) (n : ℕ) → IsGivenTo s x.task.name n → (m : List ℕ) → message_in (taken was.is_for.delivery.past) ≡ Some m → IsEntered s n m
  took_entered x was n h m input =
      let begun = taken_begins (taken was.is_for.delivery.past) (s.pipework.pipes x.task.name port.Input).bytes (netstring h.message) (h.begins was.is_for.delivery was.is_for.is) in
      let same : m ≡ h.message = all_of (taken was.is_for.delivery.past) h.message m begun input in
      record { injection = h.is.injection; lives = h.is.lives; accepted = h.is.accepted; text = same ∙ h.is.text }

-- What is held and given stands after each legal history.

opening_holds : (C : ℕ → List ℕ → Type 0) (d : Disk) → Legal d [] → MessagesStand C (opening d)
opening_holds C d legal = record {
  posts = posts_always d [] legal;
  new = newcomers_always d [] legal;
  hold = λ on. absurd (cc);
  done = λ on. absurd (cc);
}

none_runs : (k : Task) → ◌≡◌ {A = Option Task} None (Some k) → ⊥
none_runs k e = cc

-- a generation starts: nothing is at work, and nothing is remembered
module _ (B C : ℕ → List ℕ → Type 0) (s : State) (I : Inv s) (M : MessagesStand B s) (first second third last : ℕ) where
  abbrev begun_posts : PostsStand (four_begun s I M.posts first second third last)
  begun_posts = record {
    tasks = λ slot. None;
    last = M.posts.last;
    done = [];
    posted = subst (λ (v : View). Posted (post_of v (λ slot. None) M.posts.last [])) (sym (seen_begun s I M.posts first second third last)) (starts_posted (λ slot. None) M.posts.last []).0;
    first = subst (λ (v : View). IsFirst v.desk.row v.desk) (sym (seen_begun s I M.posts first second third last)) (senders_keep.begins None);
    run = λ slot k h. absurd (none_runs k h);
    was = λ x among. absurd among;
  }

  idle : has_message (place_in ((four_begun s I M.posts first second third last).actors (codes "lspawn"))).work.row ≡ true → ⊥
  idle has =
      let none : false ≡ true = ap (λ (o : Option Actor). has_message (place_in o).work.row) (sym (lspawn_is s I M.posts first second third last)) ∙ has in
      absurd (cc)

  greets : let work = (place_in ((four_begun s I M.posts first second third last).actors (codes "lspawn"))).work in FeedsLast M.posts.last work.row work
  greets = subst (λ (o : Option Actor). FeedsLast M.posts.last (place_in o).work.row (place_in o).work) (sym (lspawn_is s I M.posts first second third last)) tt

  generation_messages : NothingComes (four_begun s I M.posts first second third last) → MessagesStand C (four_begun s I M.posts first second third last)
  generation_messages N = record {
    posts = begun_posts;
    new = N;
    hold = λ on goes. record { work = λ has. absurd (idle has); feeds = greets; runs = λ slot t is runs. absurd (cc); started = λ slot t is runs. absurd (cc) };
    done = λ on. record { was = λ x among. absurd among; started = λ x among. absurd among; gone = λ x among slot runs. absurd among };
  }

-- an event of an actor, by its program
act_messages : (B C : ℕ → List ℕ → Type 0) (s : State) → Inv s → MessagesStand B s → (a : List ℕ) (own : Own) (wrote : ℕ)
    → ((slot : ℕ) (name : List ℕ) → Stays slot (Act a own wrote) → B slot name → C slot name) → MayDo s a own wrote → Inv (happens s (Act a own wrote))
    → NothingComes (happens s (Act a own wrote)) → MessagesStand C (happens s (Act a own wrote))
act_messages B C s I M a own wrote carry may =
    subst (λ (o : Option Actor). Inv (acted s a own wrote o) → NothingComes (acted s a own wrote o) → MessagesStand C (acted s a own wrote o)) (sym may.reads.is)
    (by_kind may.actor.program refl)
  where
    carried : (IsSender may.actor.program → ⊥) → (slot : ℕ) (name : List ℕ) → B slot name → C slot name
    carried apart slot name = carry slot name (others_stay may.actor.program apart may.actor.past own wrote a slot may.due)

    neither : IsNeither may.actor.program → NothingComes (acted s a own wrote (Some may.actor)) → MessagesStand C (acted s a own wrote (Some may.actor))
    neither it N = neither_messages B C (carried (neither_sends may.actor.program it)) s I M a own wrote may it N

    by_kind : (program : Program) → may.actor.program ≡ program → Inv (acted s a own wrote (Some may.actor)) → NothingComes (acted s a own wrote (Some may.actor))
        → MessagesStand C (acted s a own wrote (Some may.actor))
    by_kind (Sender began) e J N =
        sender_messages B C s I a own wrote may.actor may.reads.is may.reads.alive (subst IsSender (sym e) tt) may.reads.no_later may.due may.came carry
        (acts_held B s I M a own wrote may (λ same. names_apart (codes "lspawn") (codes "sender") refl (same ∙ subst (IsNamed a) e (I.crew a may.actor may.reads.is)))) M N
    by_kind (LocalSpawner began) e J N =
        spawner_messages B C (carried (λ sends. subst IsSender e sends)) s I a own wrote may.actor may.reads.is may.reads.alive (subst IsLocalSpawner (sym e) tt) may.due may.came M J N
    by_kind other e J N = neither (subst IsNeither (sym e) tt) N

-- whom the local spawner starts with an event
abbrev IsBegun : (ℕ → List ℕ → Type 0) → Event → Type 0
IsBegun C (Child parent own a program) = parent ≡ codes "lspawn" → C (slot_by own.due) a
IsBegun C e = Unit {0}

messages_keep : (B C : ℕ → List ℕ → Type 0) (e : Event) → ((slot : ℕ) (name : List ℕ) → Stays slot e → B slot name → C slot name) → IsBegun C e
    → (s : State) → HaveRun s.actors → Inv s → Inv (happens s e) → NothingComes (happens s e)
    → MessagesStand B s → Allowed s e → MessagesStand C (happens s e)
messages_keep B C (Moment m) carry begun s R I J N M may = messages_left B C (λ slot name. carry slot name tt) s (happens s (Moment m)) (record { view = refl; keeps = λ a x is. (x, is, refl, λ h. h); homes = λ a x is. refl; slots = λ d. refl })
    (λ on n m flies h. record { injection = h.injection; lives = h.lives; accepted = h.accepted; text = h.text }) (λ goes fd how h. record { opened = h.opened; held = h.held })
    (λ k it y there. ap (λ (z : Actor). received s k.name z) (some_actor y it.delivery (sym there ∙ it.is))) M N
messages_keep B C (Tells slot output) carry begun s R I J N M may =
    messages_left B C (λ n name. carry n name tt) s (happens s (Tells slot output)) (record { view = refl; keeps = λ a x is. (x, is, refl, λ h. h); homes = λ a x is. refl; slots = λ d. refl })
    (λ on n m flies h. record { injection = h.injection; lives = h.lives; accepted = h.accepted; text = h.text }) (λ goes fd how h. record { opened = h.opened; held = h.held })
    (λ k it y there.
    ap (λ (z : Actor). taken z.past ++ ((happens s (Tells slot output)).pipework.pipes k.name port.Input).bytes) (some_actor y it.delivery (sym there ∙ it.is))
    ∙ ap (λ (p : Pipe). taken it.delivery.past ++ p.bytes)
    (away_same s.pipework.pipes (Some (mouth (codes "rspawn") (port.Program slot))) (λ pipe. closed (given output pipe)) k.name port.Input refl))
    M N
messages_keep B C (Start a (Injector args)) carry begun s R I J N M may = messages_left B C (λ slot name. carry slot name tt) s (happens s (Start a (Injector args)))
    (record {
      view = view_same s.actors (put_at s.actors a (Some (newborn (Injector args)))) s.pipework s.pipework (put_seen halves s.actors a (newborn (Injector args)) (codes "sender") seen)
          (put_seen halves s.actors a (newborn (Injector args)) (codes "lspawn") seen) refl refl;
      keeps = new_keeps_done s.actors a (newborn (Injector args)) may.new;
      homes = λ b z there. refl;
      slots = λ slot. refl;
    })
    (λ on n m flies h. record { injection = h.injection; lives = h.lives; accepted = h.accepted; text = h.text }) (λ goes fd how h. record { opened = h.opened; held = h.held })
    (λ k it y there.
    ap (λ (z : Actor). received s k.name z)
    (some_actor y it.delivery (sym there ∙ put_at_other s.actors a (Some (newborn (Injector args))) k.name (apart k.name it.delivery it.is) ∙ it.is)))
    M N
  where
    seen : halves (Some (newborn (Injector args))) ≡ halves (s.actors a)
    seen = neither_seen (Injector args) tt [] Alive ∙ sym (ap halves may.new)

    apart : (name : List ℕ) (x : Actor) → s.actors name ≡ Some x → name ≢ a
    apart name x is same = let both : ◌≡◌ {A = Option Actor} None (Some x) = sym may.new ∙ ap s.actors (sym same) ∙ is in absurd (cc)
messages_keep B C (Start a program) carry begun s R I J N M may = absurd may.runs
messages_keep B C (Halt how contents) carry begun s R I J N M may = record {
  posts = halts_stand s M.posts how contents;
  new = N;
  hold = λ on. absurd (off on);
  done = λ on. absurd (off on);
}
  where
    off : sends_on (happens s (Halt how contents)) ≡ true → ⊥
    off on =
        let none : true ≡ false = sym on ∙ ap (λ (b : Bool). b && is_on (desk_in (option_map stopped (s.actors (codes "sender")))).row) (sends_halted (s.actors (codes "sender"))) in
        absurd (cc)
messages_keep B C (Generation (sender ∷ clean ∷ lspawn ∷ rspawn ∷ [])) carry begun s R I J N M may =
    let one = is_sender sender may.kinds.0 in
    let two = is_cleaner clean may.kinds.1.0 in
    let three = is_local lspawn may.kinds.1.1.0 in
    let four = is_remote rspawn may.kinds.1.1.1.0 in
    subst (λ (p : Program). NothingComes (happens s (Generation (p ∷ clean ∷ lspawn ∷ rspawn ∷ []))) → MessagesStand C (happens s (Generation (p ∷ clean ∷ lspawn ∷ rspawn ∷ [])))) (sym one.1)
    (subst (λ (p : Program). NothingComes (happens s (Generation (Sender one.0 ∷ p ∷ lspawn ∷ rspawn ∷ []))) → MessagesStand C (happens s (Generation (Sender one.0 ∷ p ∷ lspawn ∷ rspawn ∷ [])))) (sym two.1)
    (subst (λ (p : Program). NothingComes (happens s (Generation (Sender one.0 ∷ Cleaner two.0 ∷ p ∷ rspawn ∷ []))) → MessagesStand C (happens s (Generation (Sender one.0 ∷ Cleaner two.0 ∷ p ∷ rspawn ∷ []))))
    (sym three.1)
    (subst (λ (p : Program). NothingComes (happens s (Generation (Sender one.0 ∷ Cleaner two.0 ∷ LocalSpawner three.0 ∷ p ∷ [])))
    → MessagesStand C (happens s (Generation (Sender one.0 ∷ Cleaner two.0 ∷ LocalSpawner three.0 ∷ p ∷ [])))) (sym four.1)
    (generation_messages B C s I M one.0 two.0 three.0 four.0)))) N
messages_keep B C (Generation crew) carry begun s R I J N M may = absurd (are_four crew may.kinds)
messages_keep B C (Act a own wrote) carry begun s R I J N M may = act_messages B C s I M a own wrote carry may J N
messages_keep B C (End a read ready status) carry begun s R I J N M may = end_messages B C (λ slot name. carry slot name tt) s I M a read ready status may N
messages_keep B C (Stop a) carry begun s R I J N M may = stop_messages B C (λ slot name. carry slot name tt) s I M a may N
messages_keep B C (Child parent own a program) carry begun s R I J N M may = child_messages B C (λ slot name. carry slot name tt) s I M R parent own a program may begun J N

-- the newest event is the start of whom the local spawner starts with it
begun_now : (before : List Event) (e : Event) → IsBegun (IsBorn (e ∷ before)) e
begun_now before (Child parent own a program) = λ same. born_now before parent same own a program
begun_now before (Start a program) = tt
begun_now before (Act a own wrote) = tt
begun_now before (Generation crew) = tt
begun_now before (Tells slot output) = tt
begun_now before (End a read ready status) = tt
begun_now before (Stop a) = tt
begun_now before (Moment m) = tt
begun_now before (Halt how contents) = tt

pub messages_always : (d : Disk) (before : List Event) → Legal d before → MessagesStand (IsBorn before) (after d before)
messages_always d [] legal = opening_holds (IsBorn []) d legal
messages_always d (e ∷ before) legal =
    messages_keep (IsBorn before) (IsBorn (e ∷ before)) e (λ slot name stays born. born_on before e slot name stays born) (begun_now before e)
    (after d before) (have_run d before legal.0) (always d before legal.0) (always d (e ∷ before) legal)
    (newcomers_always d (e ∷ before) legal)
    (messages_always d before legal.0) legal.1
