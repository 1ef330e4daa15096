-- Drops stay by what the queue's programs do.
use Rattle.std.proofs.Common.{◌≡◌, ◌≢◌, ℕ, List, Option, None, sym, ap, ◌∙◌, subst, ⊎_elim}
use Rattle.call_fs.specs.Disk.{File}
use Rattle.queue_clean.specs.Table.{pid_path}
use Rattle.queue_paths.specs.Names.{Name, path}
use Rattle.queue_law.specs.Cleaners.{IsOnePart, LeavesButPid}
use Rattle.queue_law.specs.Numbers.{Queue, Role}
use Rattle.queue_law.specs.Steps.{IsForeignRole, LeavesOld, Outside}
use Rattle.program_law.specs.Delivery.Names.{IsDropName, IsTmpName}
use Rattle.program_law.specs.Delivery.Leaves.{LeavesDrops, LeavesTmp}
use Rattle.program_law.specs.Delivery.Laws.{DropsStay}
use Rattle.program_law.proofs.Delivery.Apart.{no_pid_name, no_queue_name}

-- no name of the queue
unqueued : (name : List ℕ) → IsDropName name → (x : Name) → path x ≢ name
unqueued name h x same = no_queue_name x (subst IsDropName (sym same) h)

stays_by : (a : List ℕ) (q r : Queue) → ((name : List ℕ) → IsDropName name → r.disk.names name ≡ q.disk.names name) → LeavesOld q r → LeavesDrops a q r
stays_by a q r names old = record {
  stays = λ o name i other h. record { placed = h.placed; there = names name h.placed ∙ h.there; made = old.roles name i h.there ∙ h.made };
  files = λ o name i other h. old.files name i h.there (subst IsForeignRole (sym h.made) tt);
}

outside_stays : (a : List ℕ) (q r : Queue) → Outside q.disk r.disk → LeavesOld q r → LeavesDrops a q r
outside_stays a q r out = stays_by a q r (λ name h. out.names name (unqueued name h))

but_pid_stays : (a : List ℕ) (q r : Queue) → LeavesButPid q.disk r.disk → LeavesOld q r → LeavesDrops a q r
but_pid_stays a q r out = stays_by a q r (λ name h. ⊎_elim
    (λ (same : r.disk.names name ≡ q.disk.names name). same)
    (λ (gone : (part : List ℕ) × (name ≡ pid_path part) × (r.disk.names name ≡ None) × IsOnePart part). absurd (no_pid_name gone.0 gone.3 (subst IsDropName gone.1 h)))
    (out.names name (unqueued name h)))

same_stays : (a : List ℕ) (q r : Queue) → r.disk.names ≡ q.disk.names → r.disk.files ≡ q.disk.files → r.role ≡ q.role → LeavesDrops a q r
same_stays a q r names files role = record {
  stays = λ o name i other h. record {
    placed = h.placed;
    there = ap (λ (f : List ℕ → Option ℕ). f name) names ∙ h.there;
    made = ap (λ (f : ℕ → Role). f i) role ∙ h.made;
  };
  files = λ o name i other h. ap (λ (f : ℕ → File). f i) files;
}

-- of those in `tmp`

pub tmp_left : (a : List ℕ) (q r : Queue) → LeavesDrops a q r → LeavesTmp a q r
tmp_left a q r L = record { stays = λ o name i other _ h. L.stays o name i other h; files = λ o name i other _ h. L.files o name i other h }

reader_leaves : (a : List ℕ) (q r : Queue) → ((name : List ℕ) → IsTmpName name → r.disk.names name ≡ q.disk.names name) → r.disk.files ≡ q.disk.files → r.role ≡ q.role → LeavesTmp a q r
reader_leaves a q r names files role = record {
  stays = λ o name i other t h. record {
    placed = h.placed;
    there = names name t ∙ h.there;
    made = ap (λ (f : ℕ → Role). f i) role ∙ h.made;
  };
  files = λ o name i other t h. ap (λ (f : ℕ → File). f i) files;
}

pub drops_stay : DropsStay
drops_stay = record { outside = outside_stays; but_pid = but_pid_stays; same = same_stays; tmp = tmp_left; read = reader_leaves }
