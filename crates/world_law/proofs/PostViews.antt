-- What an event leaves of what lies between the sender and the local spawner.
use Rattle.std.proofs.Common.{◌≡◌, ◌≢◌, ℕ, List, Bool, Option, Some, None, refl, sym, ap, ◌∙◌, subst, ⊎_elim, codes}
use Rattle.call_fs.specs.Maps.{put_at}
use Rattle.call_fs.specs.declared.program.Port.TheVariants as port
use Rattle.call_fs.proofs.Maps.{put_at_cases, put_at_other}
use Rattle.local_spawn.specs.declared.place.Place.{Place}
use Rattle.program_law.specs.Post.Posts.{Done, Posted, Task}
use Rattle.program_law.specs.Post.Senders.{IsFirst}
use Rattle.send_core.specs.declared.desk.Desk.{Desk}
use Rattle.world_pipes.specs.Pipework.{Pipework}
use Rattle.mail_world.specs.History.{Actor, State}
use Rattle.mail_world.specs.History.Life.{Over}
use Rattle.world_law.specs.inside.Posts.{IsDeliveryFor, IsTaskIn, PostsStand, View, WasDone, desk_in, place_in, post_of, sends_in, serves_in, view_of}
use Rattle.world_law.proofs.Tenants.{some_actor}

-- An actor as it is seen

pub record Halves : Type 0 where
  pub desk : Desk
  pub sends : Bool
  pub place : Place
  pub serves : Bool

abbrev pub halves : Option Actor → Halves
halves o = record { desk = desk_in o; sends = sends_in o; place = place_in o; serves = serves_in o }

pub view_same : (old new : List ℕ → Option Actor) (v w : Pipework) → halves (new (codes "sender")) ≡ halves (old (codes "sender")) → halves (new (codes "lspawn")) ≡ halves (old (codes "lspawn"))
    → (w.pipes (codes "sender") port.Lspawn).bytes ≡ (v.pipes (codes "sender") port.Lspawn).bytes → (w.pipes (codes "lspawn") port.Input).bytes ≡ (v.pipes (codes "lspawn") port.Input).bytes
    → view_of new w ≡ view_of old v
view_same old new v w sender lspawn told asked = λ i.
    record { desk = (sender i).desk; sends = (sender i).sends; place = (lspawn i).place; serves = (lspawn i).serves; told = told i; asked = asked i }

-- One actor is another one afterwards

pub put_seen : {X : Type 0} (f : Option Actor → X) (actors : List ℕ → Option Actor) (a : List ℕ) (y : Actor) (n : List ℕ) → f (Some y) ≡ f (actors a) → f (put_at actors a (Some y) n) ≡ f (actors n)
put_seen f actors a y n same = ⊎_elim
    (λ (c : (n ≡ a) × (put_at actors a (Some y) n ≡ Some y)). ap f c.1 ∙ same ∙ ap (λ (b : List ℕ). f (actors b)) (sym c.0))
    (λ (c : (n ≢ a) × (put_at actors a (Some y) n ≡ actors n)). ap f c.1)
    (put_at_cases actors a (Some y) n)

-- each actor stays, with its program, and if it has ended with 0, so
abbrev pub KeepsDone : (old new : List ℕ → Option Actor) → Type 0
KeepsDone old new = (a : List ℕ) (x : Actor) → old a ≡ Some x → (y : Actor) × (new a ≡ Some y) × (y.program ≡ x.program) × (x.life ≡ Over 0 → y.life ≡ Over 0)

pub put_keeps_done : (actors : List ℕ → Option Actor) (a : List ℕ) (x y : Actor) → actors a ≡ Some x → y.program ≡ x.program → (x.life ≡ Over 0 → y.life ≡ Over 0)
    → KeepsDone actors (put_at actors a (Some y))
put_keeps_done actors a x y is program over b z there = ⊎_elim
    (λ (c : (b ≡ a) × (put_at actors a (Some y) b ≡ Some y)).
    let same : x ≡ z = some_actor x z (sym is ∙ ap actors (sym c.0) ∙ there) in
    (y, c.1, program ∙ ap (λ (v : Actor). v.program) same, λ (h : z.life ≡ Over 0). over (ap (λ (v : Actor). v.life) same ∙ h)))
    (λ (c : (b ≢ a) × (put_at actors a (Some y) b ≡ actors b)). (z, c.1 ∙ there, refl, λ (h : z.life ≡ Over 0). h))
    (put_at_cases actors a (Some y) b)

-- a new one
pub new_keeps_done : (actors : List ℕ → Option Actor) (a : List ℕ) (y : Actor) → actors a ≡ None → KeepsDone actors (put_at actors a (Some y))
new_keeps_done actors a y new b z there =
    let apart : b ≢ a = λ same. none_some z (sym new ∙ ap actors (sym same) ∙ there) in
    (z, put_at_other actors a (Some y) b apart ∙ there, refl, λ (h : z.life ≡ Over 0). h)
  where
    none_some : (z : Actor) → ◌≡◌ {A = Option Actor} None (Some z) → ⊥
    none_some z e = cc

pub then_done : (first second third : List ℕ → Option Actor) → KeepsDone first second → KeepsDone second third → KeepsDone first third
then_done first second third f g a x is =
    let v = f a x is in
    let w = g a v.0 v.1 in
    (w.0, w.1, w.2 ∙ v.2, λ (h : x.life ≡ Over 0). w.3 (v.3 h))

-- so does the slot in which each was started
abbrev pub KeepsSlots : State → State → Type 0
KeepsSlots s t = (a : List ℕ) (x : Actor) → s.actors a ≡ Some x → t.pipework.slots a ≡ s.pipework.slots a

-- Deliveries stay

module _ (s t : State) (keeps : KeepsDone s.actors t.actors) where
  pub for_kept : (k : Task) → IsDeliveryFor s k → IsDeliveryFor t k
  for_kept k h = record {
    delivery = (keeps k.name h.delivery h.is).0;
    is = (keeps k.name h.delivery h.is).1;
    start = h.start;
    args = h.args;
    program = (keeps k.name h.delivery h.is).2 ∙ h.program;
    sender = h.sender;
    recipient = h.recipient;
  }

  pub was_kept : KeepsSlots s t → (x : Done) → WasDone s x → WasDone t x
  unfolding for_kept
  was_kept same x h = record {
    is_for = for_kept x.task h.is_for;
    in_slot = same x.task.name h.is_for.delivery h.is_for.is ∙ h.in_slot;
    over = (keeps x.task.name h.is_for.delivery h.is_for.is).3 h.over;
  }

  pub task_kept : (slot : ℕ) (k : Task) → t.pipework.programs (codes "lspawn") slot ≡ s.pipework.programs (codes "lspawn") slot → IsTaskIn s slot k → IsTaskIn t slot k
  task_kept slot k same h = record { runs = same ∙ h.runs; is_for = for_kept k h.is_for }

-- An event that leaves both sides, both pipes and the slots of the local spawner

pub record Leaves (s t : State) : Type 0 where
  pub view : view_of t.actors t.pipework ≡ view_of s.actors s.pipework
  pub keeps : KeepsDone s.actors t.actors
  pub homes : KeepsSlots s t
  pub slots : (slot : ℕ) → t.pipework.programs (codes "lspawn") slot ≡ s.pipework.programs (codes "lspawn") slot

pub posts_left : (s t : State) → Leaves s t → PostsStand s → PostsStand t
posts_left s t L P = record {
  tasks = P.tasks;
  last = P.last;
  done = P.done;
  posted = subst (λ (v : View). Posted (post_of v P.tasks P.last P.done)) (sym L.view) P.posted;
  first = subst (λ (v : View). IsFirst v.desk.row v.desk) (sym L.view) P.first;
  run = λ slot k is. task_kept s t L.keeps slot k (L.slots slot) (P.run slot k is);
  was = λ x among. was_kept s t L.keeps L.homes x (P.was x among);
}
