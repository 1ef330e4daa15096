-- An event that leaves both sides, their pipes and what deliveries have received leaves what is held and given of messages.
use Rattle.std.proofs.Common.{◌≡◌, ℕ, List, true, ◌&&◌, Option, Some, None, refl, sym, ap, ◌∙◌, subst, codes}
use Rattle.local_spawn.specs.declared.place.Place.{Place as LocalPlace}
use Rattle.program_law.specs.Post.Posts.{Posted, Task, goes_at}
use Rattle.program_law.specs.Post.Senders.{IsFirst, is_on}
use Rattle.send_core.specs.declared.desk.Desk.{Desk}
use Rattle.send_jobs.specs.declared.attempts.Attempt.{Attempt}
use Rattle.send_known.specs.declared.channel.Channel.TheVariants.{Local}
use Rattle.send_jobs.specs.Sending.{lane}
use Rattle.send_jobs.specs.Slots.{attempt_in}
use Rattle.spawn_protocol.specs.declared.request.Request.{Request}
use Rattle.spawner_parts.specs.Asked.{runs_in}
use Rattle.mail_world.specs.History.{State}
use Rattle.world_law.specs.Entered.{IsEntered}
use Rattle.world_law.specs.inside.Posts.{IsDeliveryFor, PostsStand, View, desk_in, place_in, post_of}
use Rattle.world_law.proofs.EnteredFlights.{IsFlying, given_flies, work_flies}
use Rattle.world_law.proofs.EnteredKept.{KeepsHeld, ReceivedSame, given_left, message_left}
use Rattle.world_law.proofs.EnteredStands.{DoneHold, FeedsLast, HoldsMessage, IsGivenFor, MessagesHold, MessagesStand, NothingComes, has_message, sends_on, serves_on}
use Rattle.world_law.proofs.PostViews.{Leaves, task_kept, was_kept}

module _ (B C : ℕ → List ℕ → Type 0) (carry : (slot : ℕ) (name : List ℕ) → B slot name → C slot name)
    (s t : State) (L : Leaves s t) (entered : sends_on s ≡ true → (n : ℕ) (m : List ℕ) → IsFlying s n → IsEntered s n m → IsEntered t n m)
    (held : serves_on s ≡ true → KeepsHeld s t) (same : ReceivedSame s t) (M : MessagesStand B s) (N : NothingComes t) where
  abbrev P : PostsStand s
  P = M.posts

  abbrev then_posts : PostsStand t
  then_posts = record {
    tasks = P.tasks;
    last = P.last;
    done = P.done;
    posted = subst (λ (v : View). Posted (post_of v P.tasks P.last P.done)) (sym L.view) P.posted;
    first = subst (λ (v : View). IsFirst v.desk.row v.desk) (sym L.view) P.first;
    run = λ slot k is. task_kept s t L.keeps slot k (L.slots slot) (P.run slot k is);
    was = λ x among. was_kept s t L.keeps L.homes x (P.was x among);
  }

  desk_same : desk_in (t.actors (codes "sender")) ≡ desk_in (s.actors (codes "sender"))
  desk_same = ap (λ (v : View). v.desk) L.view

  place_same : place_in (t.actors (codes "lspawn")) ≡ place_in (s.actors (codes "lspawn"))
  place_same = ap (λ (v : View). v.place) L.view

  on_before : sends_on t ≡ true → sends_on s ≡ true
  on_before on = ap (λ (v : View). v.sends && is_on v.desk.row) (sym L.view) ∙ on

  goes_before : serves_on t ≡ true → serves_on s ≡ true
  goes_before goes = ap (λ (v : View). goes_at v.serves v.place.work.row) (sym L.view) ∙ goes

  abbrev flies_by : Desk → ℕ → Option Attempt
  flies_by d slot = attempt_in (lane Local d.slots).slots slot

  abbrev flies_in : ℕ → Option Attempt
  flies_in slot = flies_by (desk_in (s.actors (codes "sender"))) slot

  -- while the sender goes on
  module _ (on : sends_on s ≡ true) where
    given_for_left : (slot : ℕ) (k : Task) → IsDeliveryFor s k → (flies : Option Attempt) (last : Option Request) → flies_in slot ≡ flies → P.last slot ≡ last → IsGivenFor s k.name flies last
        → IsGivenFor t k.name flies last
    given_for_left slot k it (Some a) (Some r) flies last h = given_left s t same k it r h (entered on h.n h.message (given_flies s P on slot a r h.n flies last h.mess) h.is)
    given_for_left slot k it None last flies last_is h = tt
    given_for_left slot k it (Some a) None flies last_is h = tt

    -- by the task of a slot
    task_left : (slot : ℕ) (k : Task) → IsDeliveryFor s k → IsGivenFor s k.name (flies_in slot) (P.last slot) → IsGivenFor t k.name (flies_by (desk_in (t.actors (codes "sender"))) slot) (P.last slot)
    task_left slot k it h =
        subst (λ (d : Desk). IsGivenFor t k.name (flies_by d slot) (P.last slot)) (sym desk_same) (given_for_left slot k it (flies_in slot) (P.last slot) refl refl h)

    work_left : serves_on s ≡ true → MessagesHold B s P → has_message (place_in (s.actors (codes "lspawn"))).work.row ≡ true → HoldsMessage t P.tasks (place_in (s.actors (codes "lspawn"))).work
    work_left goes h has =
        let it = h.work has in
        message_left s t same (held goes) P.tasks (λ slot k is. (P.run slot k is).is_for) (place_in (s.actors (codes "lspawn"))).work it
        (entered on it.n it.message (work_flies s P on goes has h.feeds it.n it.mess) it.is)

    hold_left : serves_on s ≡ true → MessagesHold B s P → MessagesHold C t then_posts
    hold_left goes h = record {
      work = λ has.
          subst (λ (z : LocalPlace). HoldsMessage t P.tasks z.work) (sym place_same)
          (work_left goes h (ap (λ (z : LocalPlace). has_message z.work.row) (sym place_same) ∙ has));
      feeds = subst (λ (z : LocalPlace). FeedsLast P.last z.work.row z.work) (sym place_same) h.feeds;
      runs = λ slot k is runs.
          task_left slot k (P.run slot k is).is_for (h.runs slot k is (ap (λ (z : LocalPlace). runs_in z.work.running slot) (sym place_same) ∙ runs));
      started = λ slot k is runs. carry slot k.name (h.started slot k is (ap (λ (z : LocalPlace). runs_in z.work.running slot) (sym place_same) ∙ runs));
    }

    done_left : DoneHold B s P → DoneHold C t then_posts
    done_left h = record {
      was = λ x among. task_left x.slot x.task (P.was x among).is_for (h.was x among);
      started = λ x among. carry x.slot x.task.name (h.started x among);
      gone = λ x among slot runs. h.gone x among slot (sym (L.slots slot) ∙ runs);
    }

  pub messages_left : MessagesStand C t
  messages_left = record {
    posts = then_posts;
    new = N;
    hold = λ on goes. let before = on_before on in let went = goes_before goes in hold_left before went (M.hold before went);
    done = λ on. let before = on_before on in done_left before (M.done before);
  }
