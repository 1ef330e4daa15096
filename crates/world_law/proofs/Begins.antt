-- The invariant holds at the start.
use Rattle.std.proofs.Common.{⊎_elim, None, refl, arith}
use Rattle.call_fs.specs.Disk.{Disk}
use Rattle.queue_paths.specs.Names.Name.{Pid, Of}
use Rattle.queue_law.proofs.Waits.{intd_bare, todo_bare}
use Rattle.queue_law.specs.Numbers.{NamesSuit, Sound}
use Rattle.queue_law.specs.Numbers.Phase.{Free}
use Rattle.queue_law.specs.Numbers.Role.{AsOld}
use Rattle.queue_law.proofs.Looks.{find_none, found}
use Rattle.program_law.specs.Errand.Errands.{Errand, fresh}
use Rattle.program_law.proofs.Errand.Links.{losses_keep}
use Rattle.mail_world.specs.History.{Opening, opening}
use Rattle.mail_world.specs.Untouched.{queue}
use Rattle.world_law.specs.Laws.{InvBegins}

-- nothing is asked at first
pub none_asked : Errand None fresh
none_asked = record { texts = refl; taken_up = omega arith; one = omega arith; whole = refl; errand = λ command h. absurd (cc) }

module _ (d : Disk) (o : Opening d) where
  suits : NamesSuit (queue (opening d) (λ _. AsOld))
  suits (Pid p t k) y h = (tt, tt)
  suits (Of part n) y h = let w = (found d.names d.files (Of part n) y h).0 in let v = o.empty part n in absurd (cc)

  begins_sound : Sound (queue (opening d) (λ _. AsOld))
  begins_sound = record {
    suits = suits;
    fine = λ n. Free (record {
      not_accepted = λ i h t. absurd (cc);
      unsorted = λ part later. find_none d.names d.files (Of part n) (o.empty part n);
      no_todo = todo_bare d.names d.files n (λ part. o.empty part n);
      intd_below = λ _. intd_bare d.names d.files n (λ part. o.empty part n);
    });
    over = λ i h t. absurd h;
  }

pub inv_begins : InvBegins
inv_begins d o = record {
  role = λ _. AsOld;
  moment = omega arith;
  sound = begins_sound d o;
  bounces = λ i kept x h. ⊎_elim (λ w. let v = w.1 in absurd (cc)) (λ none. absurd none) kept;
  crew = λ a x h. absurd (cc);
  crewed = λ a x there. absurd (cc);
  fares = λ a x h. absurd (cc);
  tenants = λ a d b h. absurd (cc);
  child = λ a x h. absurd (cc);
  errands = record {
    waits = None;
    errand = losses_keep.lost None fresh none_asked;
    rests = λ _ command h. absurd (cc);
    asked = λ n h. absurd (cc);
    told = λ n h. absurd (cc);
  };
}
