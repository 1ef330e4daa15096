-- A spawner's place agrees with its past, whatever comes.
use Rattle.std.proofs.Common.{◌≡◌, List, [], ◌∷◌, sym, subst}
use Rattle.call_fs.specs.declared.calls.CallData.{CallData}
use Rattle.call_fs.specs.declared.past.ChildData.{ChildData}
use Rattle.call_fs.specs.declared.past.NeedData.TheVariants as needs
use Rattle.call_fs.specs.declared.past.Own.{Own}
use Rattle.call_fs.specs.Program.{MayCome}
use Rattle.spawner_parts.specs.declared.place.Place.{Place}
use Rattle.spawner_parts.specs.Causes.{end_by, has_end, programs, programs_by, slot_of}
use Rattle.call_fs.specs.Past.{taken, taken_by}
use Rattle.spawner_parts.specs.Counts.{reported, reported_by}
use Rattle.spawner_parts.specs.Known.{Counts, HearsIn, Tells}
use Rattle.spawner_parts.specs.Table.{IsKind, Kind, act, begun, due_at, row_now}
use Rattle.spawner_parts.proofs.Balance.{counts_begin, counts_step}
use Rattle.spawner_parts.proofs.Holds.{holds_step}
use Rattle.spawner_parts.proofs.Reasons.{knows_begin, knows_step}

pub begins : Tells [] begun
begins = record { knows = knows_begin; counts = counts_begin; holds = tt }

pub goes_on : (kind : Kind) (program : ChildData) (event : Own) (before : List Own) (p : Place) → IsKind kind → slot_of program ≡ p.request.slot
    → event.due ≡ due_at program (row_now p event.ready) p → MayCome event.due event.came → Tells before p
    → Tells (event ∷ before) (act kind (row_now p event.ready) event.came p)
goes_on kind program event before p good here due came t = record {
  knows = knows_step kind good program event before p here due came t.knows;
  counts = counts_step kind good program event before p here due came t.counts;
  holds = holds_step kind good program event before p due came t.holds;
}

-- a file call before the first byte is given changes nothing
pub waits : (call : CallData) (event : Own) (before : List Own) → event.due ≡ needs.File call → Tells before begun → Tells (event ∷ before) begun
waits call event before due t = record {
  knows = record {
    kept = tt;
    running = subst (λ x. begun.running ≡ programs_by (programs before) x event.came) (sym due) t.knows.running;
    hears = subst (λ x. HearsIn begun.inbox (taken_by (taken before) x event.came) (end_by (has_end before) x event.came)) (sym due) t.knows.hears;
  };
  counts = subst (λ x. Counts (reported_by (reported before) x event.came) (programs_by (programs before) x event.came) (taken_by (taken before) x event.came)
      (end_by (has_end before) x event.came) begun) (sym due) t.counts;
  holds = tt;
}
