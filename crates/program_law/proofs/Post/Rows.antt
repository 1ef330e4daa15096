-- What a step of a spawner leaves as it was, by its row before and after it.
use Rattle.std.proofs.Common.{◌≡◌, ◌≢◌, ℕ, ◌+◌, ◌≤◌, List, [], Bool, true, false, Some, refl, sym, ap, ◌∙◌, subst, arith}
use Rattle.send_jobs.specs.declared.attempts.Attempt.{Attempt}
use Rattle.send_known.specs.declared.channel.Channel.{Channel}
use Rattle.send_jobs.specs.Slots.{attempt_in}
use Rattle.spawn_protocol.specs.declared.inbox.Inbox.{Inbox}
use Rattle.spawn_protocol.specs.declared.request.Request.{Request}
use Rattle.spawner_parts.specs.declared.place.Place.{Place}
use Rattle.spawner_parts.specs.declared.row.Row.{Row}
use Rattle.spawner_parts.specs.declared.row.Row.TheVariants as at
use Rattle.spawner_parts.specs.Counts.{asked, runs, times}
use Rattle.spawner_parts.specs.Table.{next_request}
use Rattle.program_law.specs.Post.Posts.{AllTell, AreLast, At, Fares, IsAskedFor, IsToldSo, Post, RunFor, Spawner, Waits, busy, goes_at, most, owed_at, reports, told_of}
use Rattle.program_law.proofs.Post.Frames.{serving, told_on}
use Rattle.program_law.proofs.Post.TakesUp.{TakenUp, taken_up}

-- Sums

over_sum : (a b t m : ℕ) → a + (b + t) ≤ m → 0 + (0 + t) ≤ m
over_sum a b t m w = omega arith

same_sum : (a b n t m : ℕ) → a + (b + t) ≤ m → n ≡ b → a + (n + t) ≤ m
same_sum a b n t m w e = omega arith

less_sum : (a b s r t m : ℕ) → s + b ≤ a + r → a + (r + t) ≤ m → s + (b + t) ≤ m
less_sum a b s r t m w v = omega arith

-- what runs, and what is owed, of a spawner that goes on
pub busy_is : (b : Bool) (row : Row) (p : Place) (slot : ℕ) → b ≡ true → busy b row p slot ≡ times slot (owed_at row p) + runs slot p.running
busy_is b row p slot goes = ap (λ (g : Bool). busy g row p slot) goes

-- another spawner that stands at the same place
pub respawned : (c : Channel) (p : Place) (x : Post) (s : Spawner) → Fares c p x → Fares c p (record x { spawner = s })
respawned c p x s F = record {
  waits = F.waits;
  asks = F.asks;
  lasts = F.lasts;
  stands = F.stands;
  run = F.run;
  tells = F.tells;
  well = F.well;
  once = F.once;
  flies = F.flies;
}

module _ (c : Channel) (x : Post) where
  abbrev on : Post
  on = serving x

  -- a row at which the same is at work, or due
  pub moves : (p q : Place) → goes_at true p.row ≡ true → goes_at true q.row ≡ true → q.inbox ≡ p.inbox → q.running ≡ p.running
      → ((slot : ℕ) → times slot (owed_at q.row q) ≡ times slot (owed_at p.row p)) → q.row ≢ at.Greet → At c x.done x.last q.row q → Fares c p on → Fares c q on
  moves p q goes_p goes_q inbox running owes apart here F = record {
    waits = F.waits;
    asks = subst (λ (i : Inbox). Waits (goes_at true q.row) i.intake x.lives i.ahead x.asked F.waits) (sym inbox)
        (subst (λ (b : Bool). Waits b p.inbox.intake x.lives p.inbox.ahead x.asked F.waits) (goes_p ∙ sym goes_q) F.asks);
    lasts = F.lasts;
    stands = λ e. here;
    run = λ e. subst (λ (rs : List Bool). RunFor c rs x.tasks x.last) (sym running) (F.run goes_p);
    tells = λ live. told_on x.heard (goes_at true p.row) (goes_at true q.row) p.row q.row x.told apart (λ e. goes_p) (F.tells live);
    well = F.well;
    once = λ slot. same_sum (asked slot F.waits) (busy (goes_at true p.row) p.row p slot) (busy (goes_at true q.row) q.row q slot) (told_of slot (reports on)) (most x.lives x.heard (attempt_in x.slots slot))
        (F.once slot)
        (busy_is (goes_at true q.row) q.row q slot goes_q
        ∙ ap (λ n. n + runs slot q.running) (owes slot)
        ∙ ap (λ (rs : List Bool). times slot (owed_at p.row p) + runs slot rs) running
        ∙ sym (busy_is (goes_at true p.row) p.row p slot goes_p));
    flies = F.flies;
  }

  -- it ends
  pub over : (code : ℕ) (p : Place) → Fares c p on → Fares c (record p { row = at.Ended code }) on
  over code p F = record {
    waits = [];
    asks = refl;
    lasts = tt;
    stands = λ e. tt;
    run = λ e. absurd (cc);
    tells = λ live. told_on x.heard (goes_at true p.row) false p.row (at.Ended code) x.told (λ e. cc) (λ e. absurd (cc)) (F.tells live);
    well = F.well;
    once = λ slot. over_sum (asked slot F.waits) (busy (goes_at true p.row) p.row p slot) (told_of slot (reports on)) (most x.lives x.heard (attempt_in x.slots slot)) (F.once slot);
    flies = F.flies;
  }

  -- the next request is taken up
  pub goes_up : (q : Place) (waits : List Request) → AreLast x.last waits → Waits true q.inbox.intake x.lives q.inbox.ahead x.asked waits → RunFor c q.running x.tasks x.last
      → (x.lives ≡ true → (row : Row) → row ≢ at.Greet → IsToldSo x.heard true row x.told) → AllTell c x.done x.last (reports on)
      → ((slot : ℕ) → asked slot waits + (runs slot q.running + told_of slot (reports on)) ≤ most x.lives x.heard (attempt_in x.slots slot))
      → (x.lives ≡ true → (slot : ℕ) (a : Attempt) → attempt_in x.slots slot ≡ Some a → IsAskedFor (x.last slot) a)
      → Fares c (next_request q) on × ((next_request q).row ≢ at.Start)
  goes_up q waits lasts asks run tells well once flies =
      let n : Place = next_request q in
      let t : TakenUp c x.done x.last x.lives x.asked waits q.running n = taken_up c x.done x.last x.lives x.asked q waits lasts asks in (
        record {
          waits = t.still;
          asks = subst (λ (b : Bool). Waits b n.inbox.intake x.lives n.inbox.ahead x.asked t.still) (sym t.goes) t.asks;
          lasts = t.lasts;
          stands = λ e. t.stands;
          run = λ e. subst (λ (rs : List Bool). RunFor c rs x.tasks x.last) (sym t.same) run;
          tells = λ live. subst (λ (b : Bool). IsToldSo x.heard b n.row x.told) (sym t.goes) (tells live n.row t.greeted);
          well = well;
          once = λ slot. subst (λ (b : Bool). asked slot t.still + (busy b n.row n slot + told_of slot (reports on)) ≤ most x.lives x.heard (attempt_in x.slots slot)) (sym t.goes)
              (less_sum (asked slot waits) (busy true n.row n slot) (asked slot t.still) (runs slot q.running) (told_of slot (reports on)) (most x.lives x.heard (attempt_in x.slots slot))
              (t.fewer slot) (once slot));
          flies = flies;
        },
        t.unstarted,
      )
