-- The log goes on by the lines of each event.
use Rattle.std.proofs.Common.{◌≡◌, ℕ, List, ◌∷◌, ◌++◌, Option, ap, ◌∙◌}
use Rattle.call_fs.specs.declared.past.GotData.{GotData}
use Rattle.call_fs.specs.declared.past.Own.{Own}
use Rattle.call_fs.specs.declared.program.Ready.{Ready}
use Rattle.send_core.specs.Log.{lines_of, log_since}
use Rattle.send_core.specs.Stands.{Logs, Machine, due_now, gone_on, looked_at}
use Rattle.send_core.specs.Table.{moved}

abbrev event_of : Machine → GotData → Own
event_of m came = record { read = m.present; ready = m.ready; due = due_now m; came = came }

pub logged : (m n : Machine) (came : GotData) → n ≡ gone_on m came → (turns : Option ℕ) (recent before : List Own) → Logs m turns recent before
    → Logs n turns (event_of m came ∷ recent) before
logged m n came e turns recent before (stands, log) =
    let event : Own = event_of m came in (
      ap (λ (x : Machine). x.desk) e ∙ ap (λ d. moved d event) stands,
      ap (λ (x : Machine). x.log) e ∙ ap (λ l. l ++ lines_of m.desk event) log ∙ ap (λ d. log_since turns recent before ++ lines_of d event) stands,
    )

pub looked : (m n : Machine) (now : ℕ) (ready : Ready) → n ≡ looked_at m now ready → (turns : Option ℕ) (recent before : List Own) → Logs m turns recent before
    → Logs n turns recent before
looked m n now ready e turns recent before (stands, log) = (ap (λ (x : Machine). x.desk) e ∙ stands, ap (λ (x : Machine). x.log) e ∙ log)
