-- What a sender keeps in a whole idle turn: it is at rest after it still.
use Rattle.std.proofs.Common.{ℕ, ◌∷◌, ◌++◌, Option, sym, ap, ◌∙◌, subst}
use Rattle.call_fs.specs.declared.program.Ready.{Ready}
use Rattle.send_core.specs.declared.desk.Desk.{Desk}
use Rattle.send_core.specs.Desk.{sweep_due}
use Rattle.send_jobs.specs.declared.slots.Slots.{Slots}
use Rattle.send_jobs.specs.Sending.{lane}
use Rattle.send_jobs.specs.Tries.{due_on}
use Rattle.send_known.specs.declared.messages.Messages.{Messages}
use Rattle.send_known.specs.Known.{first_idle}
use Rattle.settle_law.specs.Rests.{IsAtRest, PassRests}
use Rattle.settle_law.specs.inside.Rests.{RestsStay}
use Rattle.settle_law.specs.Suffices.{desk_of}
use Rattle.settle_law.proofs.IdleTurns.{idle}
use Rattle.settle_law.proofs.Searching.{Keeps, turn_keeps}

rest_moves : (d e : Desk) (now : ℕ) (ready : Ready) → Keeps d e → IsAtRest d now ready → IsAtRest e now ready
rest_moves d e now ready k r = record {
  links = r.links;
  marks = λ c. ap (λ (s : Slots). (lane c s).marks) k.slots ∙ r.marks c;
  passes = λ c. subst (λ (s : Slots). PassRests now (lane c s) (due_on c e.book.messages)) (sym k.slots)
      (subst (λ (m : Messages). PassRests now (lane c d.slots) (due_on c m)) (sym k.messages) (r.passes c));
  finished = ap (λ (m : Messages). first_idle now m.known) k.messages ∙ r.finished;
  swept = ap (λ (s : Option ℕ). sweep_due now s) k.swept ∙ r.swept;
}

pub rests_stay : RestsStay
rests_stay past first later turn =
    rest_moves (desk_of past) (desk_of (later ++ first ∷ past)) first.read first.ready (turn_keeps past first later turn) (idle past first later turn).rests
