-- A sender's controls are those that it read, from its start on.
use Rattle.std.proofs.Common.{◌≡◌, ℕ, List, None, sym, ap}
use Rattle.call_fs.specs.Past.{IsRunBy}
use Rattle.call_fs.specs.declared.past.Own.{Own}
use Rattle.call_fs.specs.declared.program.Ready.{Ready}
use Rattle.program_law.specs.Sender.Stands.{HasControls}
use Rattle.send_core.specs.declared.desk.Desk.{Desk}
use Rattle.send_core.specs.Papers.{controls_in, controls_told}
use Rattle.send_core.specs.Senders.{IsSaid}
use Rattle.send_core.specs.Table.{Next, place_after as sender_after, row_now}
use Rattle.send_core.proofs.Asked.{KnowsAt}
use Rattle.send_core.proofs.Runs.{all_kept, facts}
use Rattle.send_core.proofs.Says.{arrive_says}
use Rattle.send_parts.specs.declared.row.Row.{Row}
use Rattle.send_parts.specs.declared.row.Row.TheVariants as at
use Rattle.send_parts.specs.declared.rows.StartRow.TheVariants as beginning

told_at : (past : List Own) (row : Row) (d : Desk) → KnowsAt (IsSaid past) (facts past) row d → HasControls row → d.book.controls ≡ controls_told past
told_at past (at.Start (beginning.Control file reading)) d knows has = absurd has
told_at past (at.Ended status) d knows has = absurd has
told_at past row d knows has = sym (ap controls_in knows.0.3)

-- where its next event begins
pub read_now : (past : List Own) → IsRunBy (Next None) past → (now : ℕ) (ready : Ready) → HasControls (row_now (sender_after None past) now ready)
    → (sender_after None past).book.controls ≡ controls_told past
read_now past run now ready has =
    let d = sender_after None past in
    told_at past (row_now d now ready) d (arrive_says (IsSaid past) (facts past) d now ready d.row (all_kept None past run).1) has
