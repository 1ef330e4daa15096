-- One actor is another one afterwards, which is to the sender and its cleaner what was there, and the queue is as before.
use Rattle.std.proofs.Common.{◌≡◌, ◌≢◌, inr, ℕ, List, true, Option, Some, sym, ap, ◌∙◌, subst, ⊎_elim, codes}
use Rattle.call_fs.specs.Maps.{put_at}
use Rattle.call_fs.specs.declared.program.Port.TheVariants as port
use Rattle.call_fs.proofs.Maps.{put_at_cases}
use Rattle.world_pipes.specs.Pipework.{Pipework, Slot, Tenant}
use Rattle.mail_world.specs.History.{Actor, State}
use Rattle.queue_law.specs.Numbers.{Queue}
use Rattle.mail_world.specs.Untouched.{queue}
use Rattle.world_law.specs.Crew.{awaits_in, place_in, lives_in, link_by, IsNamed}
use Rattle.world_law.specs.Fares.{FaresBy}
use Rattle.world_law.specs.Inv.{ChildBy, ChildrenFare, ErrandRests, ErrandsRest, Inv, IsTenantOf}
use Rattle.world_law.proofs.Gone.{errands_at}
use Rattle.world_law.proofs.Tenants.{GoesOn, IsCrewed, RunsNoMore, one_child, one_crewed, one_keeps, tenants_kept}

-- the two pipes of the sender and its cleaner have the same bytes
pub record IsSameLink (v w : Pipework) : Type 0 where
  pub given : (w.pipes (codes "clean") port.Input).bytes ≡ (v.pipes (codes "clean") port.Input).bytes
  pub answers : (w.pipes (codes "sender") port.Clean).bytes ≡ (v.pipes (codes "sender") port.Clean).bytes

-- this actor is to the sender and its cleaner what was there
pub record IsSeenAs (o : Option Actor) (y : Actor) : Type 0 where
  pub awaits : awaits_in (Some y) ≡ awaits_in o
  pub place : place_in (Some y) ≡ place_in o
  pub lives : lives_in (Some y) ≡ true → lives_in o ≡ true

-- the state then
abbrev pub with_one : State → List ℕ → Actor → Pipework → State
with_one s a y w = record { disk = s.disk; holder = s.holder; now = s.now; actors = put_at s.actors a (Some y); books = s.books; pipework = w }

-- each actor then
pub each_put : (actors : List ℕ → Option Actor) (a : List ℕ) (y : Actor) (P : List ℕ → Actor → Type 0) → P a y → ((o : List ℕ) (z : Actor) → o ≢ a → actors o ≡ Some z → P o z)
    → (o : List ℕ) (z : Actor) → put_at actors a (Some y) o ≡ Some z → P o z
each_put actors a y P own others o z h = ⊎_elim
    (λ (c : (o ≡ a) × (put_at actors a (Some y) o ≡ Some y)).
    let it : y ≡ z = (let v = c.1 in cc) in
    subst (λ (b : List ℕ). P b z) (sym c.0) (subst (P a) it own))
    (λ (c : (o ≢ a) × (put_at actors a (Some y) o ≡ actors o)). others o z c.0 (sym c.1 ∙ h))
    (put_at_cases actors a (Some y) o)

-- what lies between the two then, over this queue
module _ (now : ℕ) (q : Queue) (actors : List ℕ → Option Actor) (a : List ℕ) (y : Actor) (v w : Pipework) (seen : IsSeenAs (actors a) y) (same : IsSameLink v w) where
  abbrev actors_after : List ℕ → Option Actor
  actors_after = put_at actors a (Some y)

  awaits_same : awaits_in (actors_after (codes "sender")) ≡ awaits_in (actors (codes "sender"))
  awaits_same = ⊎_elim
      (λ (c : (codes "sender" ≡ a) × (actors_after (codes "sender") ≡ Some y)). ap awaits_in c.1 ∙ seen.awaits ∙ ap (λ b. awaits_in (actors b)) (sym c.0))
      (λ (c : (codes "sender" ≢ a) × (actors_after (codes "sender") ≡ actors (codes "sender"))). ap awaits_in c.1)
      (put_at_cases actors a (Some y) (codes "sender"))

  place_same : place_in (actors_after (codes "clean")) ≡ place_in (actors (codes "clean"))
  place_same = ⊎_elim
      (λ (c : (codes "clean" ≡ a) × (actors_after (codes "clean") ≡ Some y)). ap place_in c.1 ∙ seen.place ∙ ap (λ b. place_in (actors b)) (sym c.0))
      (λ (c : (codes "clean" ≢ a) × (actors_after (codes "clean") ≡ actors (codes "clean"))). ap place_in c.1)
      (put_at_cases actors a (Some y) (codes "clean"))

  lives_same : lives_in (actors_after (codes "clean")) ≡ true → lives_in (actors (codes "clean")) ≡ true
  lives_same lives = ⊎_elim
      (λ (c : (codes "clean" ≡ a) × (actors_after (codes "clean") ≡ Some y)).
      ap (λ b. lives_in (actors b)) c.0 ∙ seen.lives (sym (ap lives_in c.1) ∙ lives))
      (λ (c : (codes "clean" ≢ a) × (actors_after (codes "clean") ≡ actors (codes "clean"))). sym (ap lives_in c.1) ∙ lives)
      (put_at_cases actors a (Some y) (codes "clean"))

  pub put_errands : ErrandRests now q (lives_in (actors (codes "clean"))) (link_by (actors (codes "sender")) (actors (codes "clean")) v)
      → ErrandRests now q (lives_in (actors_after (codes "clean"))) (link_by (actors_after (codes "sender")) (actors_after (codes "clean")) w)
  put_errands errands =
      errands_at now q (lives_in (actors (codes "clean"))) (lives_in (actors_after (codes "clean"))) (link_by (actors (codes "sender")) (actors (codes "clean")) v)
      lives_same errands
      (awaits_in (actors_after (codes "sender"))) (place_in (actors_after (codes "clean"))) (w.pipes (codes "clean") port.Input).bytes
      (w.pipes (codes "sender") port.Clean).bytes
      (inr awaits_same) place_same same.given same.answers

module _ (s : State) (I : Inv s) (a : List ℕ) (y : Actor) (w : Pipework) (named : IsNamed a y.program)
    (F : FaresBy s.now (queue s I.role) a y.program y.past y.life) where
  -- those that run in slots then
  abbrev pub RunAsTold : Type 0
  RunAsTold = (b : List ℕ) (d : ℕ) (t : Tenant) → w.programs b d ≡ Some t → IsTenantOf (with_one s a y w) b d t

  pub put_one : IsCrewed (put_at s.actors a (Some y)) → RunAsTold → ChildrenFare (with_one s a y w) → ErrandsRest (with_one s a y w) I.role → Inv (with_one s a y w)
  put_one crewed tenants child errands = record {
    role = I.role;
    moment = I.moment;
    sound = I.sound;
    bounces = I.bounces;
    crew = each_put s.actors a y (λ o z. IsNamed o z.program) named (λ o z _. I.crew o z);
    fares = each_put s.actors a y (λ o z. FaresBy s.now (queue s I.role) o z.program z.past z.life) F (λ o z _. I.fares o z);
    crewed = crewed;
    tenants = tenants;
    child = child;
    errands = errands;
  }

  pub moved_by : GoesOn (s.actors a) y.program → ChildBy (with_one s a y w) a y.program y.past y.life → RunsNoMore s.pipework w → w.slots ≡ s.pipework.slots
      → ErrandsRest (with_one s a y w) I.role → Inv (with_one s a y w)
  moved_by goes child no_more slots = put_one (one_crewed s.actors a y goes I.crewed)
      (tenants_kept s (with_one s a y w) (one_keeps s.actors a y goes) (λ b x there. ap (λ (f : List ℕ → Option Slot). f b) slots) no_more I.tenants)
      (one_child s (with_one s a y w) (one_keeps s.actors a y goes) no_more I.tenants a y child I.child)

module _ (s : State) (I : Inv s) (a : List ℕ) (y : Actor) (w : Pipework) (named : IsNamed a y.program)
    (F : FaresBy s.now (queue s I.role) a y.program y.past y.life) (seen : IsSeenAs (s.actors a) y)
    (same : IsSameLink s.pipework w) where
  pub moved_keeps : GoesOn (s.actors a) y.program → ChildBy (with_one s a y w) a y.program y.past y.life → RunsNoMore s.pipework w → w.slots ≡ s.pipework.slots → Inv (with_one s a y w)
  moved_keeps goes child no_more slots = moved_by s I a y w named F goes child no_more slots (put_errands s.now (queue s I.role) s.actors a y s.pipework w seen same I.errands)
