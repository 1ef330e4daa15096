-- An event of the sender keeps what is held and given of messages: what it gives is a request for the lowest free slot, of which nothing is in hand,
-- and what it takes frees slots.
use Rattle.std.proofs.Common.{◌≡◌, ◌≢◌, ⊎_elim, ℕ, ◌≤◌, List, [], ◌∷◌, true, ◌&&◌, Option, Some, None, refl, sym, ap, ◌∙◌, subst, codes}
use Rattle.call_fs.proofs.Maps.{put_at_other, put_at_same}
use Rattle.call_fs.specs.Program.{MayCome}
use Rattle.call_fs.specs.declared.past.GotData.{GotData}
use Rattle.call_fs.specs.declared.past.GotData.TheVariants as got
use Rattle.call_fs.specs.declared.past.NeedData.{NeedData}
use Rattle.call_fs.specs.declared.past.NeedData.TheVariants as needs
use Rattle.call_fs.specs.declared.past.Own.{Own}
use Rattle.call_fs.specs.declared.program.Port.TheVariants as port
use Rattle.call_fs.specs.declared.program.Ready.{Ready}
use Rattle.local_spawn.specs.declared.place.Place.{Place as LocalPlace}
use Rattle.program_law.specs.Post.Posts.{Post, Posted, Task, goes_at}
use Rattle.program_law.specs.Post.Senders.{AsksFor, IsSome, Sends, is_on}
use Rattle.queue_law.specs.Books.{Books}
use Rattle.queue_law.specs.Entered.{Child as Bouncer}
use Rattle.send_core.specs.Booked.{booked_at}
use Rattle.send_core.specs.declared.desk.Desk.{Desk}
use Rattle.send_core.specs.Past.{Happening}
use Rattle.send_core.specs.Past.Happening.{Gives}
use Rattle.send_core.specs.Table.{place_after as sender_after, due_at, moved, row_now}
use Rattle.send_jobs.specs.declared.attempts.Attempt.{Attempt}
use Rattle.send_known.specs.declared.channel.Channel.TheVariants.{Local}
use Rattle.send_jobs.specs.Sending.{lane}
use Rattle.send_jobs.specs.Slots.{attempt_in, lowest}
use Rattle.send_links.specs.Requests.{request_of, to_slot}
use Rattle.send_runs.specs.Reports.{given_by as given_at}
use Rattle.spawn_protocol.specs.declared.request.Request.{Request}
use Rattle.spawner_parts.specs.declared.place.Place.{Place}
use Rattle.spawner_parts.specs.declared.row.Row.{Row as SpawnRow}
use Rattle.spawner_parts.specs.declared.row.Row.TheVariants as spawn
use Rattle.spawner_parts.specs.Asked.{runs_in}
use Rattle.world_events.specs.declared.event.Program.{Program}
use Rattle.world_events.specs.declared.event.Program.TheVariants.{Sender}
use Rattle.mail_world.specs.History.{Actor, ComesOf, IsSender, Life, State, acted, books_after, bouncer_of, next_of}
use Rattle.mail_world.specs.History.Life.{Alive}
use Rattle.mail_world.proofs.Coming.{may_come}
use Rattle.world_law.specs.Crew.{IsNamed}
use Rattle.world_law.specs.Entered.{IsEntered}
use Rattle.world_law.specs.Inv.{Inv}
use Rattle.world_law.specs.inside.Posts.{IsDeliveryFor, PostsStand, View, desk_in, place_in, post_of, sends_in, serves_in}
use Rattle.world_law.proofs.AtWork.{runs_not_free}
use Rattle.world_law.proofs.EnteredBooks.{EnteredIn, entered_stays}
use Rattle.world_law.proofs.EnteredKept.{KeepsHeld, ReceivedSame, given_for_kept, message_kept}
use Rattle.world_law.proofs.EnteredStands.{DoneHold, FeedsLast, HoldsMessage, IsGivenFor, MessagesHold, MessagesStand, NothingComes, has_message, sends_on, serves_on}
use Rattle.world_law.proofs.Forgets.{among_left, forget, lowest_forgotten, lowest_is_free, not_lowest}
use Rattle.world_law.proofs.PostPipes.{names_apart, programs_left}
use Rattle.world_law.proofs.PostSends.{gives, sender_event, sender_post, sender_posted, seen_so, sent, some_of}
use Rattle.world_law.proofs.Received.{fed_not, received_acts}
use Rattle.world_law.proofs.SendersPut.{sender}
use Rattle.world_law.proofs.SpawnedSlots.{on_before as goes_on}

-- What was entered stays

module _ (child : Option Bouncer) (b : Books) (n : ℕ) (message : List ℕ) (h : EnteredIn b n message) (began : ℕ) (past : List Own) (read : ℕ) (ready : Ready) where
  abbrev keeps : Desk
  keeps = sender_after None past

  entered_after : (due : NeedData) (came : GotData) → EnteredIn (books_after child b (codes "sender") (Sender began) past read ready due came) n message
  entered_after (needs.File call) (got.Answered told) = entered_stays n message child keeps.book.controls (booked_at (row_now keeps read ready) (got.Answered told) keeps) b h
  entered_after (needs.Take from) came = entered_stays n message child keeps.book.controls (booked_at (row_now keeps read ready) came keeps) b h
  entered_after (needs.Give to bytes) came = entered_stays n message child keeps.book.controls (booked_at (row_now keeps read ready) came keeps) b h
  entered_after due came = h

-- What it gives is for the lowest free slot

at_slot : (slot k : ℕ) (text rest : List ℕ) → k ∷ rest ≡ to_slot slot text → k ≡ slot
at_slot slot k [] rest e = absurd (cc)
at_slot slot k (b ∷ text) rest e = cc

gives_low : (d : Desk) (due : NeedData) (came : GotData) (slot : ℕ) → ((text : List ℕ) → due ≡ needs.Give port.Lspawn text → AsksFor Local d text) → given_at due came Local ≡ Gives slot
    → lowest (lane Local d.slots).slots ≡ Some slot
gives_low d (needs.Give port.Lspawn (k ∷ rest)) got.Gave slot asks e =
    let it = asks (k ∷ rest) refl in
    let given_is : ◌≡◌ {A = Happening} (Gives k) (Gives slot) = e in
    let one : k ≡ slot = cc in
    it.free ∙ ap Some (sym (at_slot it.slot k (request_of it.attempt.n it.sender it.attempt.address) rest it.is) ∙ one)
gives_low d (needs.Give port.Lspawn (k ∷ rest)) came slot asks e = absurd (cc)
gives_low d (needs.Give port.Lspawn []) came slot asks e = absurd (cc)
gives_low d (needs.Give p text) came slot asks e = absurd (cc)
gives_low d due came slot asks e = absurd (cc)

-- An event

module _ (B C : ℕ → List ℕ → Type 0) (s : State) (I : Inv s) (M : MessagesStand B s) (own : Own) (wrote began : ℕ) (past : List Own) (is : s.actors (codes "sender") ≡ Some (sender began past))
    (soon : own.read ≤ s.now) (due : due_at (row_now (sender_after None past) own.read own.ready) (sender_after None past) ≡ own.due)
    (may : MayCome own.due own.came) (takes : own.due ≡ needs.Take port.Lspawn → IsSome own.came (s.pipework.pipes (codes "sender") port.Lspawn).bytes)
    (carry : (slot : ℕ) (name : List ℕ) → (given_at own.due own.came Local ≢ Gives slot) → B slot name → C slot name) where
  abbrev P : PostsStand s
  P = M.posts

  abbrev d : Desk
  d = sender_after None past

  abbrev e : Desk
  e = moved d own

  -- what is in flight before it and after it
  abbrev flying : List (Option Attempt)
  flying = (lane Local d.slots).slots

  abbrev flies : ℕ → Option Attempt
  flies slot = attempt_in (lane Local e.slots).slots slot

  abbrev low : Option ℕ
  low = lowest flying

  abbrev then_state : State
  then_state = acted s (codes "sender") own wrote (Some (sender began past))

  here : then_state.actors (codes "sender") ≡ Some (sender began (own ∷ past))
  here = put_at_same s.actors (codes "sender") (Some (sender began (own ∷ past)))

  there : then_state.actors (codes "lspawn") ≡ s.actors (codes "lspawn")
  there = put_at_other s.actors (codes "sender") (Some (sender began (own ∷ past))) (codes "lspawn") (names_apart (codes "lspawn") (codes "sender") refl)

  desk_before : desk_in (s.actors (codes "sender")) ≡ d
  desk_before = ap desk_in is

  desk_then : desk_in (then_state.actors (codes "sender")) ≡ e
  desk_then = ap desk_in here

  place_then : place_in (then_state.actors (codes "lspawn")) ≡ place_in (s.actors (codes "lspawn"))
  place_then = ap place_in there

  -- It goes on before it

  goes : is_on d.row ≡ true
  goes = goes_on d own (sym due) may

  on_before : sends_on s ≡ true
  on_before = ap (λ (o : Option Actor). sends_in o && is_on (desk_in o).row) is ∙ goes

  on_then : sends_on then_state ≡ true → is_on e.row ≡ true
  on_then on = ap (λ (o : Option Actor). sends_in o && is_on (desk_in o).row) (sym here) ∙ on

  serves_before : serves_on then_state ≡ true → serves_on s ≡ true
  serves_before on = ap (λ (o : Option Actor). goes_at (serves_in o) (place_in o).work.row) (sym there) ∙ on

  -- What the deliveries rest on

  entered_then : (n : ℕ) (message : List ℕ) → IsEntered s n message → IsEntered then_state n message
  entered_then n message h =
      let in_books : EnteredIn s.books n message = record { injection = h.injection; lives = h.lives; accepted = h.accepted; text = h.text } in
      let w = entered_after (bouncer_of s (codes "sender")) s.books n message in_books began past own.read own.ready own.due own.came in
      record { injection = w.injection; lives = w.lives; accepted = w.accepted; text = w.text }

  received_then : ReceivedSame s then_state
  received_then = received_acts s I (codes "sender") own wrote (sender began past) is
      (λ k it. fed_not s I (codes "sender") (sender began past) is (λ h. h) k it own.due) (λ h. absurd h)

  -- What is forgotten: the deliveries that ended in the lowest free slot

  abbrev before : Post
  before = sender_post s P began past is

  posted : Posted before
  posted = sender_posted s P began past is

  left_posted : Posted (record before { done = forget low P.done })
  left_posted = lowest_forgotten before posted goes

  abbrev left : PostsStand s
  left = record {
    tasks = P.tasks;
    last = P.last;
    done = forget low P.done;
    posted = subst (λ (v : View). Posted (post_of v P.tasks P.last (forget low P.done))) (sym (seen_so s P began past is)) left_posted;
    first = P.first;
    run = P.run;
    was = λ x among. P.was x (among_left low x P.done among);
  }

  abbrev then_posts : PostsStand then_state
  then_posts = sender_event s I left own wrote began past is soon due may takes

  abbrev sends : Sends Local d own wrote (sender_post s left began past is)
  sends = sent s I left own wrote began past is soon due may takes

  -- Another slot has the same last request, and what is in flight there was so before

  same_last : (slot : ℕ) → (low ≡ Some slot → ⊥) → sends.last slot ≡ P.last slot
  same_last slot apart = ⊎_elim (λ (same : sends.last slot ≡ P.last slot). same) (λ (free : low ≡ Some slot). absurd (apart free)) (sends.asks slot)

  -- a delivery that was started in one stays so
  carry_on : (slot : ℕ) (name : List ℕ) → (low ≡ Some slot → ⊥) → B slot name → C slot name
  carry_on slot name apart born =
      carry slot name (λ given. apart (gives_low d own.due own.came slot (gives s I left own wrote began past is soon due may takes) given)) born

  feeds_by : (row : SpawnRow) (p : Place) → ((slot : ℕ) → runs_in p.running slot ≡ true → low ≡ Some slot → ⊥) → FeedsLast P.last row p → FeedsLast sends.last row p
  feeds_by spawn.Feed p apart h = (h.0, same_last p.request.slot (apart p.request.slot h.0) ∙ h.1)
  feeds_by row p apart h = tt

  module _ (on : is_on e.row ≡ true) (held : KeepsHeld s then_state) where
    flew : (slot : ℕ) (a : Attempt) → (low ≡ Some slot → ⊥) → flies slot ≡ Some a → attempt_in flying slot ≡ Some a
    flew slot a apart now = ⊎_elim (λ (was : attempt_in flying slot ≡ Some a). was) (λ (free : low ≡ Some slot). absurd (apart free)) (sends.flies on slot a now)

    given_by : (k : Task) → IsDeliveryFor s k → (slot : ℕ) → (low ≡ Some slot → ⊥) → (o : Option Attempt) → flies slot ≡ o → IsGivenFor s k.name (attempt_in flying slot) (P.last slot)
        → IsGivenFor then_state k.name o (sends.last slot)
    given_by k it slot apart None now h = tt
    given_by k it slot apart (Some a) now h =
        subst (λ (r : Option Request). IsGivenFor then_state k.name (Some a) r) (sym (same_last slot apart))
        (given_for_kept s then_state entered_then held received_then k it (Some a) (P.last slot)
        (subst (λ (o : Option Attempt). IsGivenFor s k.name o (P.last slot)) (flew slot a apart now) h))

    abbrev GivenIn : State → (ℕ → Option Request) → Task → ℕ → Desk → Type 0
    GivenIn t asked k slot z = IsGivenFor t k.name (attempt_in (lane Local z.slots).slots slot) (asked slot)

    given_then : (k : Task) → IsDeliveryFor s k → (slot : ℕ) → (low ≡ Some slot → ⊥) → GivenIn s P.last k slot (desk_in (s.actors (codes "sender")))
        → GivenIn then_state sends.last k slot (desk_in (then_state.actors (codes "sender")))
    given_then k it slot apart h =
        subst (GivenIn then_state sends.last k slot) (sym desk_then) (given_by k it slot apart (flies slot) refl (subst (GivenIn s P.last k slot) desk_before h))

    -- While the local spawner goes on too, a slot in which a delivery runs isn't free

    module _ (serves : serves_on s ≡ true) where
      abbrev p : Place
      p = (place_in (s.actors (codes "lspawn"))).work

      runs_apart : (slot : ℕ) → runs_in p.running slot ≡ true → low ≡ Some slot → ⊥
      runs_apart slot runs free =
          runs_not_free p before goes serves posted.fares slot runs (lowest_is_free flying slot free)

      hold_then : MessagesHold B s P → MessagesHold C then_state then_posts
      unfolding sender_event
      hold_then h = record {
        work = λ has.
            subst (λ (z : LocalPlace). HoldsMessage then_state P.tasks z.work) (sym place_then)
            (message_kept s then_state entered_then held received_then P.tasks (λ slot k runs. (P.run slot k runs).is_for) p
            (h.work (ap (λ (z : LocalPlace). has_message z.work.row) (sym place_then) ∙ has)));
        feeds = subst (λ (z : LocalPlace). FeedsLast sends.last z.work.row z.work) (sym place_then) (feeds_by p.row p runs_apart h.feeds);
        runs = λ slot k there runs.
            let now : runs_in p.running slot ≡ true = ap (λ (z : LocalPlace). runs_in z.work.running slot) (sym place_then) ∙ runs in
            given_then k (P.run slot k there).is_for slot (runs_apart slot now) (h.runs slot k there now);
        started = λ slot k there runs.
            let now : runs_in p.running slot ≡ true = ap (λ (z : LocalPlace). runs_in z.work.running slot) (sym place_then) ∙ runs in
            carry_on slot k.name (runs_apart slot now) (h.started slot k there now);
      }

    done_then : DoneHold B s P → DoneHold C then_state then_posts
    unfolding sender_event
    done_then h = record {
      was = λ x among.
          let old = among_left low x P.done among in
          given_then x.task (P.was x old).is_for x.slot (not_lowest low x P.done among) (h.was x old);
      started = λ x among. carry_on x.slot x.task.name (not_lowest low x P.done among) (h.started x (among_left low x P.done among));
      gone = λ x among slot runs.
          h.gone x (among_left low x P.done among) slot
          (sym (programs_left s.pipework (codes "sender") (codes "lspawn") own.due own.came slot (names_apart (codes "sender") (codes "lspawn") refl)) ∙ runs);
    }

  event_messages : KeepsHeld s then_state → NothingComes then_state → MessagesStand C then_state
  event_messages held N = record {
    posts = then_posts;
    new = N;
    hold = λ on serves. let before = serves_before serves in hold_then (on_then on) held before (M.hold on_before before);
    done = λ on. done_then (on_then on) held (M.done on_before);
  }

by_program : (B C : ℕ → List ℕ → Type 0) (s : State) → Inv s → (a : List ℕ) (wrote : ℕ) (program : Program) (past : List Own) (life : Life) (own : Own) → IsSender program → IsNamed a program
    → life ≡ Alive → s.actors a ≡ Some (record { program = program; past = past; life = life }) → own.read ≤ s.now → next_of program past own.read own.ready ≡ own.due → MayCome own.due own.came
    → (own.due ≡ needs.Take port.Lspawn → IsSome own.came (s.pipework.pipes a port.Lspawn).bytes)
    → ((slot : ℕ) (name : List ℕ) → (given_at own.due own.came Local ≢ Gives slot) → B slot name → C slot name)
    → KeepsHeld s (acted s a own wrote (Some (record { program = program; past = past; life = life }))) → MessagesStand B s
    → NothingComes (acted s a own wrote (Some (record { program = program; past = past; life = life })))
    → MessagesStand C (acted s a own wrote (Some (record { program = program; past = past; life = life })))
by_program B C s I a wrote (Sender began) past Alive own it named alive is soon due may takes carry held M N =
    let x : Actor = sender began past in
    subst (λ (b : List ℕ). s.actors b ≡ Some x → (own.due ≡ needs.Take port.Lspawn → IsSome own.came (s.pipework.pipes b port.Lspawn).bytes) → KeepsHeld s (acted s b own wrote (Some x))
    → NothingComes (acted s b own wrote (Some x)) → MessagesStand C (acted s b own wrote (Some x))) (sym named)
    (λ is takes held N. event_messages B C s I M own wrote began past is soon due may takes carry held N) is takes held N
by_program B C s I a wrote (Sender began) past life own it named alive is soon due may takes carry held M N = absurd (cc)
by_program B C s I a wrote other past life own it named alive is soon due may takes carry held M N = absurd it

-- whatever comes of what is due, also the start of a child
pub sender_moves_messages : (B C : ℕ → List ℕ → Type 0) (s : State) → Inv s → (a : List ℕ) (own : Own) (wrote : ℕ) (x : Actor) → s.actors a ≡ Some x → x.life ≡ Alive → IsSender x.program
    → own.read ≤ s.now → next_of x.program x.past own.read own.ready ≡ own.due → MayCome own.due own.came
    → (own.due ≡ needs.Take port.Lspawn → IsSome own.came (s.pipework.pipes a port.Lspawn).bytes)
    → ((slot : ℕ) (name : List ℕ) → (given_at own.due own.came Local ≢ Gives slot) → B slot name → C slot name)
    → KeepsHeld s (acted s a own wrote (Some x)) → MessagesStand B s
    → NothingComes (acted s a own wrote (Some x)) → MessagesStand C (acted s a own wrote (Some x))
sender_moves_messages B C s I a own wrote x is alive it soon due may takes carry held M N =
    by_program B C s I a wrote x.program x.past x.life own it (I.crew a x is) alive is soon due may takes carry held M N

pub sender_messages : (B C : ℕ → List ℕ → Type 0) (s : State) → Inv s → (a : List ℕ) (own : Own) (wrote : ℕ) (x : Actor) → s.actors a ≡ Some x → x.life ≡ Alive → IsSender x.program
    → own.read ≤ s.now → next_of x.program x.past own.read own.ready ≡ own.due → ComesOf s a own.due own.came wrote
    → ((slot : ℕ) (name : List ℕ) → (given_at own.due own.came Local ≢ Gives slot) → B slot name → C slot name)
    → KeepsHeld s (acted s a own wrote (Some x)) → MessagesStand B s
    → NothingComes (acted s a own wrote (Some x)) → MessagesStand C (acted s a own wrote (Some x))
sender_messages B C s I a own wrote x is alive it soon due comes carry held M N = sender_moves_messages B C s I a own wrote x is alive it soon due (may_come s a own.due own.came wrote comes)
    (λ e. some_of (s.pipework.pipes a port.Lspawn) own.came (subst (λ (n : NeedData). ComesOf s a n own.came wrote) e comes)) carry held M N
