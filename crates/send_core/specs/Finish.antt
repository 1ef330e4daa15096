-- Points 5 and 6 of the sender's turn: the finish of a message, and the sweep.
use Rattle.std.specs.Prelude.{ℕ, Some, true}
use Rattle.bounce_record.specs.declared.return_row.ReturnRow.{ReturnRow}
use Rattle.bounce_record.specs.declared.return_row.ReturnRow.TheVariants as back
use Rattle.bounce_record.specs.Returning.{Returning, return_begun, moved as return_moved}
use Rattle.call_fs.specs.declared.past.GotData.{GotData}
use Rattle.send_known.specs.Known.{put_off, sender_of}
use Rattle.send_known.specs.Messages.{forgotten}
use Rattle.send_parts.specs.declared.book.Book.{Book}
use Rattle.send_parts.specs.declared.rows.FinishRow.{FinishRow}
use Rattle.send_parts.specs.declared.rows.FinishRow.TheVariants as finish
use Rattle.send_parts.specs.declared.rows.SweepRow.{SweepRow}
use Rattle.send_parts.specs.declared.rows.SweepRow.TheVariants as sweep
use Rattle.send_parts.specs.Finish.{finish_to}
use Rattle.send_parts.specs.Replies.{Said, said}
use Rattle.send_parts.specs.Sweep.{searched, sweep_to}
use Rattle.send_core.specs.declared.desk.Desk.{Desk}
use Rattle.send_parts.specs.declared.row.Row.TheVariants as at
use Rattle.send_core.specs.Desk.{goes, later, past_finish, turn_over}
use Rattle.queue_limits.specs.declared.statuses.TheConstants.{NO_CLEANER}

-- 5. The finish of a message: after a failure it is finished no earlier than 123 seconds later; once it is finished its number
-- is forgotten; without the link to the cleaner the sender ends.

abbrev pub put_off_to : ℕ → ℕ → Desk → Desk
put_off_to n moment d = record d { book = record d.book { messages = record d.book.messages { known = put_off n moment d.book.messages.known } } }

abbrev pub forgot : ℕ → Desk → Desk
forgot n d = record d { book = record d.book { messages = forgotten n d.book.messages } }

abbrev pub finish_at : FinishRow → ℕ → ℕ → Desk → Desk
finish_at finish.Later n now d = past_finish now (put_off_to n (later now) d)
finish_at finish.Over n now d = past_finish now (forgot n d)
finish_at finish.Lost n now d = goes d (at.Ended NO_CLEANER)
finish_at row n now d = goes d (at.Finish row n)

-- The return of a message that has a bounce file: its steps are those of bounce_record.

-- after what came at a step of it, by the controls and the sender that are known
abbrev pub bounce_on : ℕ → ℕ → GotData → Returning → Book → Returning
bounce_on n now came r b = return_moved b.controls (sender_of n b.messages.known) r now came

-- where the finish then stands: without a bounce file at the unlink of the info file
abbrev pub returned_to : ReturnRow → FinishRow
returned_to back.Over = finish.UnlinkInfo
returned_to back.Failed = finish.Later
returned_to row = finish.Return

-- the return begins with the open of the bounce file; the turn isn't an idle one
abbrev pub bounce_opened : ℕ → ℕ → GotData → Desk → Desk
bounce_opened n now came d =
    let r = bounce_on n now came (return_begun n) d.book in finish_at (returned_to r.row) n now (record d { bounce = r; busy = true })

abbrev pub returned : ℕ → ℕ → GotData → Desk → Desk
returned n now came d = let r = bounce_on n now came d.bounce d.book in finish_at (returned_to r.row) n now (record d { bounce = r })

abbrev pub act_finish : FinishRow → ℕ → ℕ → GotData → Desk → Desk
act_finish finish.OpenBounce n now came d = bounce_opened n now came d
act_finish finish.Return n now came d = returned n now came d
act_finish row n now came d = finish_at (finish_to row (said came).way) n now d

-- 6. The sweep: the last sweep is the moment of its first search, and the turn is over after the last one.

abbrev pub sweep_begun : SweepRow → ℕ → Desk → Desk
sweep_begun sweep.First now d = record d { swept = Some now; busy = true }
sweep_begun row now d = d

abbrev pub sweep_at : SweepRow → Desk → Desk
sweep_at sweep.Over d = turn_over d
sweep_at sweep.Lost d = goes d (at.Ended NO_CLEANER)
sweep_at row d = goes d (at.Sweep row)

abbrev pub looked_up : SweepRow → Said → Desk → Desk
looked_up row s d = record d { book = searched row s d.book }

abbrev pub act_sweep : SweepRow → ℕ → Said → Desk → Desk
act_sweep row now s d = sweep_at (sweep_to row now s d.book) (looked_up row s (sweep_begun row now d))
