-- A delivery that stands for a past stands, after an event, for the past with it.
use Rattle.std.proofs.Common.{◌≡◌, ℕ, List, ◌∷◌, ap, ◌∙◌}
use Rattle.std.specs.Prelude.{Result, Ok, Err, OnOk}
use Rattle.call_fs.specs.declared.past.Own.{Own}
use Rattle.call_fs.specs.declared.program.Ready.{Ready}
use Rattle.local_parts.specs.declared.arguments.LocalArgs.{LocalArgs}
use Rattle.local_deliver.specs.declared.machine.Local.{Local}
use Rattle.local_deliver.specs.Stands.{Stands, due_now, gone_on}
use Rattle.local_deliver.specs.Table.{Next, due_by, moved, place_after}

-- what it needs is the next of its table
pub due_is : (m : Local) (args : LocalArgs) (past : List Own) (now : ℕ) (ready : Ready) → Stands m args past → due_now m ≡ Next args past now ready
due_is m args past now ready s = ap (λ a. due_by a m.place) s.args_are ∙ ap (due_by args) s.place_is

pub stands_on : (m n : Local) (args : LocalArgs) (past : List Own) (event : Own) → Stands m args past → n ≡ gone_on m event.came → m.present ≡ event.read → Stands n args (event ∷ past)
stands_on m n args past event s on same = record {
  args_are = ap (λ (l : Local). l.args) on ∙ s.args_are;
  place_is =
      ap (λ (l : Local). l.place) on ∙ ap (λ a. moved a m.place m.present event.came) s.args_are
      ∙ ap (λ p. moved args p m.present event.came) s.place_is ∙ ap (λ now. moved args (place_after args past) now event.came) same;
}

pub on_ok : {T E P Q : Type 0} (r : Result T E) → OnOk r P → (P → Q) → OnOk r Q
on_ok (Ok x) h f = f h
on_ok (Err e) h f = tt
