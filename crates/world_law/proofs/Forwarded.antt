-- What others leave of a delivery: what its drops rest on, and that the injections of its forwards were accepted.
use Rattle.std.proofs.Common.{◌≢◌, ℕ, List, [], ◌∷◌}
use Rattle.call_fs.specs.Disk.{Open}
use Rattle.call_fs.specs.declared.past.Own.{Own}
use Rattle.program_law.specs.Delivery.Rests.{DeliveryRests}
use Rattle.program_law.specs.Delivery.Leaves.{LeavesTmp}
use Rattle.program_law.proofs.Delivery.Alone.{deliveries_are_left_alone}
use Rattle.local_parts.specs.declared.arguments.LocalArgs.{LocalArgs}
use Rattle.queue_law.specs.Books.{Books}
use Rattle.queue_law.specs.Injectors.{IsHeld}
use Rattle.queue_law.specs.Numbers.{Queue}
use Rattle.mail_world.specs.History.{Life}
use Rattle.mail_world.specs.History.Life.{Alive, Over, Stopped}
use Rattle.world_law.specs.Deliveries.{AreForwarded, IsForwarded}
use Rattle.world_law.specs.Fares.{DeliveryFares, IfAlive}
use Rattle.world_law.proofs.Bounces.{KeepsAccepted, queued_on}

module _ (b c : Books) (keeps : KeepsAccepted b c) where
  forwarded_on : (input : List ℕ) → IsForwarded b input → IsForwarded c input
  forwarded_on input h = record {
    actor = h.actor;
    args = h.args;
    accepted = queued_on b c keeps h.actor h.args h.accepted;
    input_is = h.input_is;
    message_end = h.message_end;
    envelope_end = h.envelope_end;
  }

  pub forwards_on : (past : List Own) → AreForwarded b past → AreForwarded c past
  forwards_on [] h = tt
  forwards_on (own ∷ before) h = (
    forwards_on before h.0,
    λ slot due came. let w = h.1 slot due came in record { input = w.input; given = w.given; forwarded = forwarded_on w.input w.forwarded },
  )

module _ (q r : Queue) (b o : List ℕ) (other : o ≢ b) (D : LeavesTmp b q r)
    (still : (fd : ℕ) (how : Open) → IsHeld q.disk.opens q.holder o fd how → IsHeld r.disk.opens r.holder o fd how) where
  rests_left : (args : LocalArgs) (past : List Own) (life : Life) → IfAlive life (DeliveryRests q o args past) → IfAlive life (DeliveryRests r o args past)
  rests_left args past Alive h = deliveries_are_left_alone q r o b args past D other still h
  rests_left args past (Over status) h = tt
  rests_left args past Stopped h = tt

  pub delivery_left : KeepsAccepted q.books r.books → (args : LocalArgs) (past : List Own) (life : Life) → DeliveryFares q o args past life → DeliveryFares r o args past life
  delivery_left keeps args past life F = record {
    rests = rests_left args past life F.rests;
    forwards = forwards_on q.books r.books keeps past F.forwards;
    well = F.well;
  }
