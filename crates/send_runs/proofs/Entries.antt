-- What a sender enters, by its row: whatever holds of each thing that may be entered at a row holds of each that is.
use Rattle.std.proofs.Common.{◌≡◌, ⊎_elim, ℕ, ◌==◌, List, [], ◌∷◌, Bool, true, false, Option, Some, None, refl, sym, subst, if◌then◌else◌}
use Rattle.bounce_record.specs.declared.note_row.NoteRow.{NoteRow}
use Rattle.bounce_record.specs.declared.note_row.NoteRow.TheVariants as written
use Rattle.bounce_record.specs.declared.return_row.ReturnRow.{ReturnRow}
use Rattle.bounce_record.specs.declared.return_row.ReturnRow.TheVariants as back
use Rattle.call_fs.specs.Disk.{Among}
use Rattle.call_fs.specs.declared.calls.Answer.{Answer}
use Rattle.call_fs.specs.declared.calls.Answer.TheVariants as answer
use Rattle.call_fs.specs.declared.past.GotData.{GotData}
use Rattle.call_fs.specs.declared.past.GotData.TheVariants as got
use Rattle.send_core.specs.Booked.{booked_at, finished_at, if_done, if_ok, if_zero, marked_at, noted_at, reported_all, reported_by, reported_if, reported_when, returned_at, routed_at}
use Rattle.send_core.specs.declared.desk.Desk.{Desk}
use Rattle.send_core.specs.Desk.{link, told, with_reader}
use Rattle.send_jobs.specs.Bookings.{Booking}
use Rattle.send_jobs.specs.Bookings.Booking.{Dropped, Noted, Overwritten, ReadNotes, Reported, Returned, Routed}
use Rattle.send_jobs.specs.declared.attempts.Attempt.{Attempt}
use Rattle.send_jobs.specs.Failures.{is_final}
use Rattle.send_jobs.specs.Sending.{lane}
use Rattle.send_jobs.specs.Slots.{attempt_in}
use Rattle.send_known.specs.declared.channel.Channel.{Channel}
use Rattle.send_parts.specs.declared.reply.Way.{Way}
use Rattle.send_parts.specs.declared.reply.Way.TheVariants as way
use Rattle.send_parts.specs.declared.row.MarkRow.{MarkRow}
use Rattle.send_parts.specs.declared.row.MarkRow.TheVariants as mark
use Rattle.send_parts.specs.declared.row.Marked.{Marked}
use Rattle.send_parts.specs.declared.row.Row.{Row}
use Rattle.send_parts.specs.declared.row.Row.TheVariants as at
use Rattle.send_parts.specs.declared.rows.FinishRow.{FinishRow}
use Rattle.send_parts.specs.declared.rows.FinishRow.TheVariants as finish
use Rattle.send_parts.specs.Replies.{said}
use Rattle.spawn_protocol.specs.declared.report.Report.{Report}
use Rattle.spawn_protocol.specs.Report.{counted, read_on}
use Rattle.todo_pass.specs.declared.row.Row.{Row as PassRow}
use Rattle.todo_pass.specs.declared.row.Row.TheVariants as todo

module _ (P : Booking → Type 0) where
  abbrev pub Each : List Booking → Type 0
  Each [] = Unit {0}
  Each (e ∷ es) = P e × Each es

  pub each_among : (es : List Booking) (e : Booking) → Each es → Among e es → P e
  each_among [] e each h = absurd h
  each_among (x ∷ es) e each h = ⊎_elim (λ (same : e ≡ x). subst P (sym same) each.0) (λ (more : Among e es). each_among es e each.1 more) h

  pub ok_each : (a : Answer) (e : Booking) → P e → Each (if_ok a e)
  ok_each answer.Done e it = (it, tt)
  ok_each a e it = tt

  pub done_each : (came : GotData) (e : Booking) → P e → Each (if_done came e)
  done_each (got.Answered told) e it = ok_each told.answer e it
  done_each came e it = tt

  pub zero_each : (came : GotData) (e : Booking) → P e → Each (if_zero came e)
  zero_each (got.Ended status) e it = by (status == 0) where
    by : (zero : Bool) → Each (if zero then e ∷ [] else [])
    by true = (it, tt)
    by false = tt
  zero_each came e it = tt

  -- of a taking each is a report
  module _ (reports : (delivered : Bool) (c : Channel) (n place : ℕ) → P (Reported delivered c n place)) where
    if_each : (final delivered : Bool) (c : Channel) (a : Attempt) (later : List Booking) → Each later → Each (reported_if final delivered c a later)
    if_each true delivered c a later each = (reports delivered c a.n a.place, each)
    if_each false delivered c a later each = each

    by_each : (o : Option Attempt) (c : Channel) (r : Report) (later : List Booking) → Each later → Each (reported_by o c r later)
    by_each None c r later each = each
    by_each (Some a) c r later each = if_each (is_final (counted r.letter) a.dying) (counted r.letter == 75) c a later each

    all_each : (c : Channel) (rs : List Report) (d : Desk) → Each (reported_all c rs d)
    all_each c [] d = tt
    all_each c (r ∷ rs) d = by_each (attempt_in (lane c d.slots).slots r.slot) c r (reported_all c rs (told c r d)) (all_each c rs (told c r d))

    pub when_each : (w : Way) (c : Channel) (bytes : List ℕ) (d : Desk) → Each (reported_when w c bytes d)
    when_each way.Fine c bytes d = let it = read_on (link c d).reader bytes in all_each c it.0 (with_reader c it.1 d)
    when_each w c bytes d = tt

  -- of a mark it is a note, or that the record is written over
  module _ (notes : (c : Channel) (n place : ℕ) → P (Noted c n place)) (writes : (c : Channel) (n place : ℕ) → P (Overwritten c n place)) where
    noted_each : (row : NoteRow) (m : Marked) (came : GotData) → Each (noted_at row m came)
    noted_each (written.Sync fd) m came = done_each came (Noted m.channel m.n m.place) (notes m.channel m.n m.place)
    noted_each row m came = tt

    pub marked_each : (row : MarkRow) (m : Marked) (note : NoteRow) (came : GotData) → Each (marked_at row m note came)
    marked_each mark.Noting m note came = noted_each note m came
    marked_each (mark.Write fd) m note came = (writes m.channel m.n m.place, tt)
    marked_each row m note came = tt

  -- of a todo pass it is that the command is given
  pub routed_each : ((n : ℕ) → P (Routed n)) → (row : PassRow) (n : ℕ) → Each (routed_at row n)
  routed_each routes todo.Give n = (routes n, tt)
  routed_each routes row n = tt

  -- of a finish it is of the bounce
  module _ (reads : (n : ℕ) (notes : List ℕ) → P (ReadNotes n notes)) (returns : (n : ℕ) → P (Returned n)) (drops : (n : ℕ) → P (Dropped n)) where
    returned_each : (row : ReturnRow) (n : ℕ) (notes : List ℕ) (came : GotData) → Each (returned_at row n notes came)
    returned_each (back.CloseNotes fd) n notes came = (reads n notes, tt)
    returned_each (back.Await pid) n notes came = zero_each came (Returned n) (returns n)
    returned_each back.Discard n notes came = done_each came (Dropped n) (drops n)
    returned_each row n notes came = tt

    pub finished_each : (row : FinishRow) (n : ℕ) (back_row : ReturnRow) (notes : List ℕ) (came : GotData) → Each (finished_at row n back_row notes came)
    finished_each finish.Return n back_row notes came = returned_each back_row n notes came
    finished_each row n back_row notes came = tt

-- A todo command is given at its row of a pass alone.

abbrev IsElse : Booking → Type 0
IsElse (Routed n) = ⊥
IsElse e = Unit {0}

pub record IsGiven (row : Row) (d : Desk) (n : ℕ) : Type 0 where
  pub row_is : row ≡ at.InTodo
  pub gives : d.pass.row ≡ todo.Give
  pub number_is : n ≡ d.pass.n

pass_gives : (row : PassRow) (m n : ℕ) → Among (Routed n) (routed_at row m) → (row ≡ todo.Give) × (n ≡ m)
pass_gives todo.Give m n h = ⊎_elim (λ (same : Routed n ≡ Routed m). let number : n ≡ m = cc in (refl, number)) (λ (none : ⊥). absurd none) h
pass_gives row m n h = absurd h

pub given_at : (row : Row) (came : GotData) (d : Desk) (n : ℕ) → Among (Routed n) (booked_at row came d) → IsGiven row d n
given_at at.InTodo came d n h = let w = pass_gives d.pass.row d.pass.n n h in record { row_is = refl; gives = w.0; number_is = w.1 }
given_at (at.TakeLink c) came d n h =
    absurd (each_among IsElse (reported_when (said came).way c (said came).bytes d) (Routed n) (when_each IsElse (λ delivered c m place. tt) (said came).way c (said came).bytes d) h)
given_at (at.Mark row m) came d n h =
    absurd (each_among IsElse (marked_at row m d.note.row came) (Routed n) (marked_each IsElse (λ c k place. tt) (λ c k place. tt) row m d.note.row came) h)
given_at (at.Finish row m) came d n h =
    absurd (each_among IsElse (finished_at row m d.bounce.row d.bounce.notes came) (Routed n)
    (finished_each IsElse (λ k notes. tt) (λ k. tt) (λ k. tt) row m d.bounce.row d.bounce.notes came) h)
given_at row came d n h = absurd h
