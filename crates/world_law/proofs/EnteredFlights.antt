-- The messages that the local spawner holds and has given are of attempts in flight.
use Rattle.std.proofs.Common.{◌≡◌, ℕ, List, ◌++◌, true, Option, Some, None, refl, sym, ap, ◌∙◌, subst, codes}
use Rattle.std.proofs.lemmas.Bool.{and_parts}
use Rattle.call_fs.specs.declared.past.Own.{Own}
use Rattle.program_law.specs.Post.Posts.{At, IsAskedFor, Post}
use Rattle.program_law.specs.Post.Senders.{is_on}
use Rattle.queue_paths.specs.Names.{path, split_text}
use Rattle.queue_paths.specs.Names.Name.{Of}
use Rattle.queue_paths.specs.Names.Part.{Mess}
use Rattle.queue_paths.proofs.Paths.{path_injective}
use Rattle.queue_states.specs.declared.state.State.TheVariants.{S5}
use Rattle.queue_states.specs.States.{state_of}
use Rattle.send_core.specs.Table.{place_after as sender_after}
use Rattle.send_jobs.specs.declared.attempts.Attempt.{Attempt}
use Rattle.send_known.specs.declared.channel.Channel.TheVariants.{Local}
use Rattle.send_jobs.specs.Sending.{lane}
use Rattle.send_jobs.specs.Slots.{attempt_in}
use Rattle.spawn_protocol.specs.declared.request.Request.{Request}
use Rattle.spawner_parts.specs.declared.place.Place.{Place}
use Rattle.spawner_parts.specs.declared.row.Row.{Row}
use Rattle.spawner_parts.specs.declared.row.Row.TheVariants as at
use Rattle.world_events.specs.declared.event.Program.{Program}
use Rattle.world_events.specs.declared.event.Program.TheVariants.{Sender}
use Rattle.mail_world.specs.History.{Actor, Life, State}
use Rattle.mail_world.specs.History.Life.{Alive, Over, Stopped}
use Rattle.world_law.specs.Inv.{Inv}
use Rattle.world_law.specs.inside.Posts.{PostsStand, desk_in, place_in, post_of, sends_by, sends_in, view_of}
use Rattle.world_law.specs.Standing.{HandsStand, is_at_work}
use Rattle.world_law.proofs.AtWork.{IsOfAttempt, held, runs_held, works_by}
use Rattle.world_law.proofs.EnteredStands.{FeedsLast, has_message, sends_on, serves_on}
use Rattle.world_law.proofs.SendersPut.{sender}
use Rattle.world_law.proofs.Standing.{hands_by}

-- the text of a number tells it
pub one_number : (n m : ℕ) → split_text n ≡ split_text m → n ≡ m
unfolding path
one_number n m e = let same : Of Mess n ≡ Of Mess m = path_injective (Of Mess n) (Of Mess m) (ap (λ (t : List ℕ). codes "mess/" ++ t) e) in cc

-- a local attempt of this number is in flight
pub record IsFlying (s : State) (n : ℕ) : Type 0 where
  pub slot : ℕ
  pub attempt : Attempt
  pub flies : attempt_in (lane Local (desk_in (s.actors (codes "sender"))).slots).slots slot ≡ Some attempt
  pub number : attempt.n ≡ n

-- The sender that goes on, which lives

sender_by : (program : Program) (past : List Own) (life : Life) → sends_by program life ≡ true
    → (start : ℕ) × (◌≡◌ {A = Option Actor} (Some (record { program = program; past = past; life = life })) (Some (sender start past)))
sender_by (Sender start) past Alive e = (start, refl)
sender_by (Sender start) past (Over status) e = absurd (cc)
sender_by (Sender start) past Stopped e = absurd (cc)
sender_by program past life e = absurd (cc)

sender_in : (o : Option Actor) → sends_in o ≡ true → (start : ℕ) × (past : List Own) × (o ≡ Some (sender start past))
sender_in None e = absurd (cc)
sender_in (Some x) e = let w = sender_by x.program x.past x.life e in (w.0, x.past, w.1)

-- so that a number in flight is in S5
pub flying_stays : (s : State) → Inv s → sends_on s ≡ true → (n : ℕ) → IsFlying s n → state_of s.disk n ≡ S5
flying_stays s I on n w =
    let sends = and_parts (sends_in (s.actors (codes "sender"))) (is_on (desk_in (s.actors (codes "sender"))).row) on in
    let it = sender_in (s.actors (codes "sender")) sends.0 in
    let H : HandsStand s (sender_after None it.1) = hands_by s I (codes "sender") (Sender it.0) it.1 Alive refl it.0 refl (I.fares (codes "sender") (sender it.0 it.1) it.2) in
    let flies : attempt_in (lane Local (sender_after None it.1).slots).slots w.slot ≡ Some w.attempt =
    ap (λ (o : Option Actor). attempt_in (lane Local (desk_in o).slots).slots w.slot) (sym it.2) ∙ w.flies in
    subst (λ (m : ℕ). state_of s.disk m ≡ S5) w.number (H.flies Local w.slot w.attempt flies).stays

-- The requests

module _ (s : State) (P : PostsStand s) (on : sends_on s ≡ true) where
  -- the last request of a slot is of the attempt in flight there
  pub given_flies : (slot : ℕ) (t : Attempt) (r : Request) (n : ℕ) → attempt_in (lane Local (desk_in (s.actors (codes "sender"))).slots).slots slot ≡ Some t → P.last slot ≡ Some r
      → r.mess ≡ split_text n → IsFlying s n
  given_flies slot t r n flies last mess =
      let asks : IsAskedFor (Some r) t = subst (λ (o : Option Request). IsAskedFor o t) last (P.posted.fares.flies on slot t flies) in
      record { slot = slot; attempt = t; flies = flies; number = one_number t.n n (sym asks.1 ∙ mess) }

  module _ (goes : serves_on s ≡ true) where
    abbrev p : Place
    p = (place_in (s.actors (codes "lspawn"))).work

    abbrev x : Post
    x = post_of (view_of s.actors s.pipework) P.tasks P.last P.done

    abbrev Works : Type 0
    Works = IsOfAttempt x p.request.slot p.request

    works : (row : Row) → p.row ≡ row → is_at_work row ≡ true → Works
    works row e is = works_by p x on goes P.posted.fares row e is (subst (λ (z : Row). At Local P.done P.last z p) e (P.posted.fares.stands goes))

    at_row : (row : Row) → p.row ≡ row → has_message row ≡ true → FeedsLast P.last row p → Works
    at_row at.Feed e has feeds = held p x on goes P.posted.fares p.request.slot p.request
        (runs_held p x on goes P.posted.fares p.request.slot feeds.0) feeds.1
    at_row at.OpenMess e has feeds = works at.OpenMess e refl
    at_row (at.ReadMess fd) e has feeds = works (at.ReadMess fd) e refl
    at_row (at.CloseMess fd whole) e has feeds = works (at.CloseMess fd whole) e refl
    at_row at.Start e has feeds = works at.Start e refl
    at_row row e has feeds = absurd (cc)

    -- the request at work is of the attempt in flight in its slot
    pub work_asked : has_message p.row ≡ true → FeedsLast P.last p.row p → Works
    work_asked has feeds = at_row p.row refl has feeds

    pub work_flies : has_message p.row ≡ true → FeedsLast P.last p.row p → (n : ℕ) → p.request.mess ≡ split_text n → IsFlying s n
    work_flies has feeds n mess =
        let w = work_asked has feeds in
        record { slot = p.request.slot; attempt = w.attempt; flies = w.flies; number = one_number w.attempt.n n (sym w.asks.1 ∙ mess) }
