-- What a spawner has in hand, as far as the attempts stand that are in flight in the slots.
use Rattle.std.proofs.Common.{◌≡◌, ℕ, List, ◌++◌, Bool, true, Option, Some, None, refl, sym, ap, ◌∙◌}
use Rattle.program_law.specs.Post.Posts.{IsAskedFor, Post, Posted, goes_at, work_of}
use Rattle.queue_states.specs.declared.state.State.TheVariants.{S5}
use Rattle.queue_states.specs.States.{state_of}
use Rattle.send_jobs.specs.declared.attempts.Attempt.{Attempt}
use Rattle.send_jobs.specs.Slots.{attempt_in}
use Rattle.spawn_protocol.specs.declared.request.Request.{Request}
use Rattle.spawner_parts.specs.declared.place.Place.{Place}
use Rattle.mail_world.specs.History.{State}
use Rattle.world_law.specs.Spawned.{HoldsStanding, IsOfStanding}
use Rattle.world_law.proofs.AtWork.{IsOfAttempt, runs_flying, waiting, waiting_plain, waiting_text, works_by}
use Rattle.world_law.proofs.SpawnedRuns.{IsTied}

module _ (x : Post) (P : Posted x) (lives : x.lives ≡ true) (serves : x.serves ≡ true) (on : goes_at true (work_of x.spawner).row ≡ true) where
  abbrev p : Place
  p = work_of x.spawner

  goes : goes_at x.serves (work_of x.spawner).row ≡ true
  goes = ap (λ (b : Bool). goes_at b (work_of x.spawner).row) serves ∙ on

  -- what is in hand is of messages in S5, if these are
  module _ (s : State) (stands : (slot : ℕ) (t : Attempt) → attempt_in x.slots slot ≡ Some t → state_of s.disk t.n ≡ S5) where
    of_attempt : (slot : ℕ) (r : Request) → IsOfAttempt x slot r → IsOfStanding s r
    of_attempt slot r w = record { number = w.attempt.n; mess = w.asks.1; stays = stands slot w.attempt w.flies }

    -- what was started for a request
    of_asked : (o : Option Request) (slot : ℕ) (t : Attempt) → attempt_in x.slots slot ≡ Some t → IsAskedFor o t → (r : Request) × (o ≡ Some r) × IsOfStanding s r
    of_asked None slot t is asks = absurd asks
    of_asked (Some r) slot t is asks = (r, refl, of_attempt slot r (record { attempt = t; flies = is; asks = asks }))

    pub holds : (given missing : List ℕ) (started : ℕ → Option Request) → x.asked ≡ given ++ missing → IsTied (work_of x.spawner) x.slots started
        → HoldsStanding s (work_of x.spawner) started given
    holds given missing started asked_is tied = record {
      waits = P.fares.waits;
      missing = missing;
      text = λ is. ap (λ (l : List ℕ). p.inbox.ahead ++ l) (sym asked_is) ∙ waiting_text p x lives goes P.fares is;
      plain = λ r among. waiting_plain p x lives goes P.fares r among;
      unread = λ r among. of_attempt r.slot r (waiting p x lives goes P.fares r among);
      work = λ is. of_attempt p.request.slot p.request (works_by p x lives goes P.fares p.row refl is (P.fares.stands goes));
      runs = λ slot is. let w = runs_flying p x lives goes P.fares slot is in of_asked (started slot) slot w.0 w.1 (tied on slot w.0 is w.1);
    }
