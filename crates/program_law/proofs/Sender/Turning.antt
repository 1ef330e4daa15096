-- Where a turn goes on after its points.
use Rattle.std.proofs.Common.{ℕ, ◌-◌, List, Bool, true, false, Option, Some, None, refl}
use Rattle.std.specs.Prelude.{◌||◌, if◌then◌else◌, is_some, nat_lt}
use Rattle.send_core.specs.declared.desk.Desk.{Desk}
use Rattle.send_parts.specs.declared.row.Point.TheVariants as point
use Rattle.send_parts.specs.declared.row.Row.TheVariants as at
use Rattle.send_core.specs.Desk.{next_idle, past_finish, past_todo, stands_at, sweep_due, turn_counted, turn_over}
use Rattle.queue_law.specs.Numbers.{Queue}
use Rattle.program_law.specs.Sender.Rows.{HasNoMarks}
use Rattle.program_law.specs.Sender.Stands.{SenderStands}
use Rattle.program_law.proofs.Sender.Desks.{OnDesk, stand}

module _ (now : ℕ) (q : Queue) (a : List ℕ) where
  counted : (o : Option ℕ) (d : Desk) → OnDesk q d → SenderStands now q a (turn_counted o d)
  counted None d h = stand now q a (at.Turn point.TakeLocal) d (λ ch. refl) h tt
  counted (Some k) d h = by (nat_lt 1 k) where
    by : (b : Bool) → SenderStands now q a (if b then record d { turns = Some (k - 1); row = at.Turn point.TakeLocal } else record d { turns = Some 0; row = at.Ended 0 })
    by true = stand now q a (at.Turn point.TakeLocal) d (λ ch. refl) h tt
    by false = stand now q a (at.Ended 0) d (λ ch. refl) h tt

  pub over_on : (d : Desk) → OnDesk q d → SenderStands now q a (turn_over d)
  over_on d h = counted d.turns (record d { busy = false }) (record { known = h.known; due = h.due; lanes = h.lanes; apart = h.apart; no_nul = h.no_nul })

  pub past_finish_on : (read : ℕ) (d : Desk) → OnDesk q d → HasNoMarks d.slots → SenderStands now q a (past_finish read d)
  past_finish_on read d h bare = by (sweep_due read d.swept) where
    by : (b : Bool) → SenderStands now q a (if b then stands_at d point.Sweep else turn_over d)
    by true = stand now q a (at.Turn point.Sweep) d (λ ch. refl) h bare
    by false = over_on d h

  pub past_todo_on : (read : ℕ) (d : Desk) → OnDesk q d → HasNoMarks d.slots → SenderStands now q a (past_todo read d)
  past_todo_on read d h bare = by (is_some (next_idle read d) || sweep_due read d.swept) where
    by : (b : Bool) → SenderStands now q a (if b then stands_at d point.Finish else turn_over d)
    by true = stand now q a (at.Turn point.Finish) d (λ ch. refl) h bare
    by false = over_on d h
