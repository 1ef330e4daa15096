-- The lines of the log about reports (qmail-log(5)), by the sender's past alone: of each report that is taken one, in their order.
use Rattle.std.specs.Prelude.{◌≡◌, ℕ, List, [], ◌∷◌, ◌++◌, Option, Some, None}
use Rattle.call_fs.specs.Past.{IsRunBy}
use Rattle.call_fs.specs.declared.past.Own.{Own}
use Rattle.send_core.specs.Log.{lines_of}
use Rattle.send_core.specs.Past.{Account, Task, account, settle}
use Rattle.send_core.specs.Past.Happening.{Takes}
use Rattle.send_core.specs.Table.{Next, place_after}
use Rattle.send_known.specs.declared.channel.Channel.{Channel}
use Rattle.send_known.specs.declared.channel.Channel.TheVariants.{Local, Remote}
use Rattle.send_log.specs.Lines.{delivered, outcome_of, stray_report}
use Rattle.spawn_protocol.specs.declared.report.Report.{Report}
use Rattle.send_runs.specs.Deliveries.{number_in}
use Rattle.send_runs.specs.Reports.{reports_at, taken_by}
use Rattle.send_runs.specs.Status.{limit_in, status_of}

-- The line of a report, by what was in flight in its slot: it tells the number of that delivery, and what came of it; and the status line follows
-- it. If nothing was in flight, it tells the slot.
abbrev pub line_of : ℕ → Option Task → Report → List ℕ → List ℕ
line_of number None r status = stray_report r.slot
line_of number (Some t) r status = delivered number (outcome_of r.letter t.dying) r.text ++ status

-- the accounts after a report of a channel
abbrev pub settled_on : Channel → Report → (Channel → Account) → Channel → Account
settled_on Local r a Local = settle r (a Local)
settled_on Remote r a Remote = settle r (a Remote)
settled_on c r a e = a e

-- of reports that are taken one after the other, with the numbers of what is in flight, and how much may be
abbrev pub lines_by : (ℕ → ℕ) → (Channel → ℕ) → Channel → List Report → (Channel → Account) → List ℕ
lines_by number limit c [] a = []
lines_by number limit c (r ∷ rs) a = line_of (number r.slot) ((a c).in_flight r.slot) r (status_of limit (settled_on c r a)) ++ lines_by number limit c rs (settled_on c r a)

abbrev pub report_lines : Channel → List Own → Own → List ℕ
report_lines c past event = lines_by (number_in c past) (limit_in past) c (reports_at c past event) (λ e. account e past)

-- After two requests were given, the second one in slot 1, the bytes 1, `Kok`, NUL make the lines `delivery 2: success: ok` and
-- `status: local 0/0 remote 1/20`, if the first taking of the local spawner is still to come. Of what an event takes of a spawner it is so, and no
-- other line comes then.
abbrev pub ReportsAreLogged : Type 0
ReportsAreLogged = (turns : Option ℕ) (past : List Own) (event : Own) → IsRunBy (Next turns) (event ∷ past) → (c : Channel) (bytes : List ℕ) → taken_by event.due event.came c ≡ Takes bytes
    → lines_of (place_after turns past) event ≡ report_lines c past event
