-- What the sender's steps, each of which concerns one closed number at most, leave of the other actors.
use Rattle.std.proofs.Common.{◌≡◌, ◌≢◌, ℕ, List, true, Option, Some, ◌∙◌, subst, codes}
use Rattle.call_fs.specs.declared.past.Own.{Own}
use Rattle.queue_clean.specs.Table.{place_after}
use Rattle.local_spawn.specs.Table.{place_after as local_after}
use Rattle.remote_spawn.specs.Table.{place_after as spawn_after}
use Rattle.program_law.specs.Delivery.Leaves.{LeavesTmp}
use Rattle.program_law.proofs.Delivery.Stay.{drops_stay}
use Rattle.queue_law.specs.Books.{Books, Injection, IsInjected, IsLater}
use Rattle.queue_law.specs.Cleaners.{IsBeside}
use Rattle.queue_law.specs.Numbers.{NamesSuit, Queue, Sound}
use Rattle.queue_law.specs.Rests.{IsClosed, Spares, SparesNames}
use Rattle.queue_law.specs.Steps.{Elsewhere}
use Rattle.queue_law.proofs.Frame.{injector_frame, still_there}
use Rattle.queue_law.proofs.Growth.{grown_on}
use Rattle.queue_law.proofs.RestIsKept.{rest_is_kept}
use Rattle.program_law.specs.Sender.Takings.{LeadsThrough}
use Rattle.program_law.specs.Sender.Takings.LeadsThrough.{Goes, Stays}
use Rattle.world_events.specs.declared.event.Program.{Program}
use Rattle.world_events.specs.declared.event.Program.TheVariants.{Injector, Cleaner, Sender, LocalSpawner, RemoteSpawner, Delivery}
use Rattle.mail_world.specs.History.{Life}
use Rattle.mail_world.specs.History.Life.{Alive, Over, Stopped}
use Rattle.world_law.specs.Crew.{IsNamed, is_alive, is_well}
use Rattle.world_law.specs.Fares.{FaresBy}
use Rattle.world_law.proofs.Forwarded.{delivery_left}
use Rattle.world_law.proofs.Held.{lspawn_holds, spawner_holds}

-- a cleaner is at work at no number, and takes up none
abbrev pub IsIdle : Program → List Own → Type 0
IsIdle (Cleaner began) past = (m : Option ℕ) → IsBeside m (place_after past)
IsIdle program past = Unit {0}

module _ (now : ℕ) (n : Option ℕ) (q r : Queue) (E : Elsewhere now (codes "sender") n q r) (suits : NamesSuit q) (closed : (k : ℕ) → n ≡ Some k → IsClosed now q k)
    (D : LeavesTmp (codes "sender") q r) where
  spared : Spares now n q r × SparesNames q r
  spared = rest_is_kept.closed now (codes "sender") n q r E suits closed

  pub others_fare : (o : List ℕ) → o ≢ codes "sender" → (program : Program) (past : List Own) (life : Life) → IsNamed o program → IsIdle program past
      → FaresBy now q o program past life → FaresBy now r o program past life
  others_fare o other (Injector args) past life named idle F = injector_frame now (codes "sender") n q r E o other args past (is_alive life) (is_well life) F
  others_fare o other (Cleaner began) past Alive named idle F = rest_is_kept.spared now n q r spared.0 spared.1 (place_after past) (idle n) F
  others_fare o other (Sender began) past life named idle F = absurd (other named)
  others_fare o other (LocalSpawner began) past Alive named idle F = lspawn_holds q r o (λ fd how. E.opens o fd how other) (local_after past) F
  others_fare o other (RemoteSpawner began) past Alive named idle F = spawner_holds q r o (λ fd how. E.opens o fd how other) (spawn_after past).row F
  others_fare o other (Delivery began args) past life named idle F = delivery_left q r (codes "sender") o other D (λ fd how. E.opens o fd how other) E.accepted args past life F
  others_fare o other program past (Over status) named idle F = tt
  others_fare o other program past Stopped named idle F = tt

some_closed : (now : ℕ) (q : Queue) (n : ℕ) → IsClosed now q n → (k : ℕ) → ◌≡◌ {A = Option ℕ} (Some n) (Some k) → IsClosed now q k
some_closed now q n closed k is = let same : n ≡ k = (cc) in subst (λ (m : ℕ). IsClosed now q m) same closed

-- so does one such step after the other
pub others_fare_on : (now : ℕ) (o : List ℕ) → o ≢ codes "sender" → (program : Program) (past : List Own) (life : Life) → IsNamed o program → IsIdle program past
    → (q r : Queue) → LeadsThrough now (codes "sender") q r → Sound q → FaresBy now q o program past life → FaresBy now r o program past life
others_fare_on now o other program past life named idle q r (Stays z) G F = F
others_fare_on now o other program past life named idle q r (Goes x y z n closed leads through) G F =
    others_fare_on now o other program past life named idle y z through leads.sound
    (others_fare now (Some n) x y leads.elsewhere G.suits (some_closed now x n closed) (drops_stay.tmp (codes "sender") x y (drops_stay.outside (codes "sender") x y leads.outside leads.old)) o other program past life named idle F)

-- What was accepted stays so

later_still : (b : Books) (i j : Injection) → IsLater i j → (k : Injection) × IsInjected b k × IsLater j k → (k : Injection) × IsInjected b k × IsLater i k
later_still b i j l w = (
  w.0,
  w.1,
  record {
    number_is = w.2.number_is ∙ l.number_is;
    actor_is = w.2.actor_is ∙ l.actor_is;
    args_are = w.2.args_are ∙ l.args_are;
    accepted_is = w.2.accepted_is ∙ l.accepted_is;
    grown = grown_on i.ledger j.ledger w.0.ledger l.grown w.2.grown;
  },
)

-- through all that a taking enters
pub through : (now : ℕ) (a : List ℕ) (q r : Queue) → LeadsThrough now a q r → (i : Injection) → IsInjected q.books i → i.accepted ≡ true
    → (j : Injection) × IsInjected r.books j × IsLater i j
through now a q r (Stays z) i h accepted = still_there z.books i h
through now a q r (Goes x y z n closed leads rest) i h accepted =
    let w = leads.elsewhere.accepted i h accepted in
    later_still z.books i w.0 w.2 (through now a y z rest w.0 w.1 (w.2.accepted_is ∙ accepted))
