-- What takings and marks do to the known messages and to the channels.
use Rattle.std.proofs.Common.{◌≡◌, ℕ, List, [], ◌∷◌, length, nat_lt, Bool, true, false, if◌then◌else◌, Option, Some, None, refl}
use Rattle.std.specs.Prelude.{◌&&◌}
use Rattle.bounce_record.specs.declared.note_row.NoteRow.{NoteRow}
use Rattle.bounce_record.specs.declared.note_row.NoteRow.TheVariants as written
use Rattle.bounce_record.specs.Writing.{moved as note_moved}
use Rattle.call_fs.specs.declared.calls.Fd.{Fd}
use Rattle.call_fs.specs.declared.past.GotData.{GotData}
use Rattle.send_core.specs.declared.desk.Desk.{Desk}
use Rattle.send_parts.specs.declared.row.MarkRow.{MarkRow}
use Rattle.send_parts.specs.declared.row.MarkRow.TheVariants as mark
use Rattle.send_parts.specs.declared.row.Marked.{Marked}
use Rattle.send_parts.specs.declared.row.Point.{Point}
use Rattle.send_parts.specs.declared.row.Point.TheVariants as point
use Rattle.send_parts.specs.declared.row.Row.TheVariants as at
use Rattle.send_core.specs.Agrees.{has_ended}
use Rattle.send_core.specs.Desk.{closed_by, deferred, due_again, failure_in, goes, heard, is_final, retried, retried_if, retry_of, settle, stands_at, told, told_all, told_by, waits, with_reader}
use Rattle.send_core.specs.Turn.{act_mark, begin_note, mark_opened, mark_over, noted, noted_at}
use Rattle.send_jobs.specs.declared.attempts.Attempt.{Attempt}
use Rattle.send_jobs.specs.declared.attempts.Failure.{Failure}
use Rattle.send_known.specs.declared.channel.Channel.{Channel}
use Rattle.send_known.specs.declared.channel.Channel.TheVariants.{Local, Remote}
use Rattle.send_jobs.specs.declared.jobs.Job.{Job}
use Rattle.send_jobs.specs.declared.lane.Lane.{Lane}
use Rattle.send_jobs.specs.Lanes.{job_over, left_unmarked, mark_settled, reported}
use Rattle.send_jobs.specs.Sending.{at_lane, lane}
use Rattle.send_jobs.specs.Slots.{attempt_in}
use Rattle.send_known.specs.declared.messages.Messages.{Messages}
use Rattle.send_parts.specs.declared.reply.Way.{Way}
use Rattle.send_parts.specs.declared.reply.Way.TheVariants as way
use Rattle.send_parts.specs.Replies.{said}
use Rattle.spawn_protocol.specs.declared.report.Report.{Report}
use Rattle.spawn_protocol.specs.Report.{counted, read_on as reports_on}

-- what is so of the known messages and the channels
abbrev pub OfBoth : (Messages → Lane → Lane → Type 0) → Desk → Type 0
OfBoth P d = P d.book.messages d.slots.local d.slots.remote

-- what reports and marks do keeps it
pub record Settles (P : Messages → Lane → Lane → Type 0) : Type 0 where
  pub unmarks : (c : Channel) (n : ℕ) (d : Desk) → OfBoth P d → OfBoth P (record d { slots = at_lane c (left_unmarked n) d.slots })
  pub settles : (c : Channel) (d : Desk) → OfBoth P d → OfBoth P (record d { slots = at_lane c mark_settled d.slots })
  pub reports : (c : Channel) (slot : ℕ) (d : Desk) → OfBoth P d → OfBoth P (record d { slots = at_lane c (reported slot) d.slots })
  pub owes : (c : Channel) (slot : ℕ) (a : Attempt) (note : Option Failure) (d : Desk) → attempt_in (lane c d.slots).slots slot ≡ Some a → OfBoth P d
      → OfBoth P (waits c a note (record d { slots = at_lane c (reported slot) d.slots }))
  pub retries : (c : Channel) (n : ℕ) (job : Job) (d : Desk) → job_over n (lane c d.slots) ≡ Some job → OfBoth P d → OfBoth P (due_again c n (retry_of c n job.begun d) d)

module _ (P : Messages → Lane → Lane → Type 0) (it : Settles P) where
  abbrev Of : Desk → Type 0
  Of d = OfBoth P d

  of_if : (b : Bool) (x y : Desk) → Of x → Of y → Of (if b then x else y)
  of_if true x y p q = p
  of_if false x y p q = q

  of_retried : (o : Option Job) (c : Channel) (n : ℕ) (d : Desk) → job_over n (lane c d.slots) ≡ o → Of d → Of (retried_if o c n d)
  of_retried None c n d e h = h
  of_retried (Some job) c n d e h = it.retries c n job d e h

  of_deferred : (c : Channel) (n : ℕ) (d : Desk) → Of d → Of (deferred c n d)
  of_deferred c n d h = let after : Desk = record d { slots = at_lane c (left_unmarked n) d.slots } in of_retried (job_over n (lane c after.slots)) c n after refl (it.unmarks c n d h)

  of_settle : (r : Report) (c : Channel) (a : Attempt) (d : Desk) → attempt_in (lane c d.slots).slots r.slot ≡ Some a → Of d → Of (settle r c a (record d { slots = at_lane c (reported r.slot) d.slots }))
  of_settle r c a d there h =
      let after : Desk = record d { slots = at_lane c (reported r.slot) d.slots } in
      of_if (is_final (counted r.letter) a.dying && nat_lt (length (lane c after.slots).marks) 120) (waits c a (failure_in r) after) (deferred c a.n after)
      (it.owes c r.slot a (failure_in r) d there h) (of_deferred c a.n after (it.reports c r.slot d h))

  of_told : (o : Option Attempt) (c : Channel) (r : Report) (d : Desk) → attempt_in (lane c d.slots).slots r.slot ≡ o → Of d → Of (told_by o c r d)
  of_told None c r d there h = h
  of_told (Some a) c r d there h = of_settle r c a d there h

  of_all : (c : Channel) (rs : List Report) (d : Desk) → Of d → Of (told_all c rs d)
  of_all c [] d h = h
  of_all c (r ∷ rs) d h = of_all c rs (told c r d) (of_told (attempt_in (lane c d.slots).slots r.slot) c r d refl h)

  pub settled_heard : (c : Channel) (bytes : List ℕ) (d : Desk) → Of d → Of (heard c bytes d)
  settled_heard Local bytes d h = of_all Local (reports_on d.local.reader bytes).0 (with_reader Local (reports_on d.local.reader bytes).1 d) h
  settled_heard Remote bytes d h = of_all Remote (reports_on d.remote.reader bytes).0 (with_reader Remote (reports_on d.remote.reader bytes).1 d) h

  of_closed : (o : Option Job) (c : Channel) (n : ℕ) (p : Point) (d : Desk) → job_over n (lane c d.slots) ≡ o → Of d → Of (closed_by o c n p d)
  of_closed None c n p d e h = h
  of_closed (Some job) c n p d e h = of_if job.unmarked (retried c n job.begun (stands_at d p)) (goes d (at.UnlinkFile c n p)) (it.retries c n job (stands_at d p) e h) h

  of_marked : (b : Bool) (m : Marked) (d : Desk) → Of d → Of (mark_over b m d)
  of_marked true m d h = let after : Desk = record d { slots = at_lane m.channel mark_settled d.slots } in of_closed (job_over m.n (lane m.channel after.slots)) m.channel m.n point.Reports after refl (it.settles m.channel d h)
  of_marked false m d h =
      let between : Desk = record d { slots = at_lane m.channel mark_settled d.slots } in
      let after : Desk = record d { slots = at_lane m.channel (left_unmarked m.n) (at_lane m.channel mark_settled d.slots) } in
      of_closed (job_over m.n (lane m.channel after.slots)) m.channel m.n point.Reports after refl (it.unmarks m.channel m.n between (it.settles m.channel d h))

  of_opened : (w : Way) (m : Marked) (fd : Fd) (d : Desk) → Of d → Of (mark_opened w m fd d)
  of_opened way.Fine m fd d h = h
  of_opened way.Over m fd d h = of_marked false m d h
  of_opened way.Absent m fd d h = of_marked false m d h
  of_opened way.NoMemory m fd d h = of_marked false m d h
  of_opened way.Broken m fd d h = of_marked false m d h

  of_noted : (row : NoteRow) (m : Marked) (d : Desk) → Of d → Of (noted_at row m d)
  of_noted written.Written m d h = h
  of_noted written.Failed m d h = of_marked false m d h
  of_noted row m d h = h

  of_note : (m : Marked) (got : GotData) (d : Desk) → Of d → Of (noted m got d)
  of_note m got d h = of_noted (note_moved d.note got).row m (record d { note = note_moved d.note got }) h

  pub settled_mark : (row : MarkRow) (m : Marked) (got : GotData) (d : Desk) → Of d → Of (act_mark row m got d)
  settled_mark mark.Note m got d h = of_note m got (begin_note m d) h
  settled_mark mark.Noting m got d h = of_note m got d h
  settled_mark mark.Open m got d h = of_opened (said got).way m (said got).fd d h
  settled_mark (mark.Write fd) m got d h = h
  settled_mark (mark.Close fd done) m got d h = of_marked done m d h

-- a mark never ends the sender

abbrev Goes : Desk → Type 0
Goes d = has_ended d.row ≡ false

goes_if : (b : Bool) (x y : Desk) → Goes x → Goes y → Goes (if b then x else y)
goes_if true x y p q = p
goes_if false x y p q = q

goes_closed : (o : Option Job) (c : Channel) (n : ℕ) (p : Point) (d : Desk) → Goes (closed_by o c n p d)
goes_closed None c n p d = refl
goes_closed (Some job) c n p d = goes_if job.unmarked (retried c n job.begun (stands_at d p)) (goes d (at.UnlinkFile c n p)) refl refl

goes_marked : (b : Bool) (m : Marked) (d : Desk) → Goes (mark_over b m d)
goes_marked true m d = let after : Desk = record d { slots = at_lane m.channel mark_settled d.slots } in goes_closed (job_over m.n (lane m.channel after.slots)) m.channel m.n point.Reports after
goes_marked false m d =
    let after : Desk = record d { slots = at_lane m.channel (left_unmarked m.n) (at_lane m.channel mark_settled d.slots) } in
    goes_closed (job_over m.n (lane m.channel after.slots)) m.channel m.n point.Reports after

goes_opened : (w : Way) (m : Marked) (fd : Fd) (d : Desk) → Goes (mark_opened w m fd d)
goes_opened way.Fine m fd d = refl
goes_opened way.Over m fd d = goes_marked false m d
goes_opened way.Absent m fd d = goes_marked false m d
goes_opened way.NoMemory m fd d = goes_marked false m d
goes_opened way.Broken m fd d = goes_marked false m d

goes_noted : (row : NoteRow) (m : Marked) (d : Desk) → Goes (noted_at row m d)
goes_noted written.Written m d = refl
goes_noted written.Failed m d = goes_marked false m d
goes_noted row m d = refl

goes_note : (m : Marked) (got : GotData) (d : Desk) → Goes (noted m got d)
goes_note m got d = goes_noted (note_moved d.note got).row m (record d { note = note_moved d.note got })

pub mark_goes : (row : MarkRow) (m : Marked) (got : GotData) (d : Desk) → has_ended (act_mark row m got d).row ≡ false
mark_goes mark.Note m got d = goes_note m got (begin_note m d)
mark_goes mark.Noting m got d = goes_note m got d
mark_goes mark.Open m got d = goes_opened (said got).way m (said got).fd d
mark_goes (mark.Write fd) m got d = refl
mark_goes (mark.Close fd done) m got d = goes_marked done m d
