-- Known messages may be finished at once as long as no finish is put off.
use Rattle.std.proofs.Common.{◌≡◌, ℕ, List, [], ◌∷◌, Bool, true, false, not, Option, Some, None, refl, sym, subst}
use Rattle.std.specs.Prelude.{position}
use Rattle.bounce_record.specs.Returning.{return_begun}
use Rattle.call_fs.specs.Past.{IsRunBy}
use Rattle.call_fs.specs.Program.{MayCome}
use Rattle.call_fs.specs.declared.past.GotData.{GotData}
use Rattle.call_fs.specs.declared.past.NeedData.{NeedData}
use Rattle.call_fs.specs.declared.past.Own.{Own}
use Rattle.envelope_records.specs.declared.channel.Record.{Record}
use Rattle.retry_law.specs.Finishes.{NoneIsPutOff, NonePutOff, is_later, puts_off}
use Rattle.send_core.specs.Desk.{closed_by, due_then, file_gone, has_begun, is_free_for, later, retry_of}
use Rattle.send_core.specs.Finish.{bounce_on, finish_at, looked_up, returned_to, sweep_begun}
use Rattle.send_core.specs.Table.{Next, act, due_at, place_after, row_now}
use Rattle.send_core.specs.Turn.{begun_at, file_read, known_of, pass_opened, put_later, todo_went, unlinked}
use Rattle.send_core.specs.declared.desk.Desk.{Desk}
use Rattle.send_parts.specs.declared.row.Point.TheVariants as point
use Rattle.send_parts.specs.declared.row.Point.{Point}
use Rattle.send_parts.specs.declared.row.Row.TheVariants as at
use Rattle.send_parts.specs.declared.row.Row.{Row}
use Rattle.send_jobs.specs.Lanes.{job_over}
use Rattle.send_jobs.specs.Sending.{lane}
use Rattle.send_known.specs.declared.channel.Channel.TheVariants.{Local, Remote}
use Rattle.send_known.specs.declared.channel.Channel.{Channel}
use Rattle.send_jobs.specs.declared.jobs.Job.{Job}
use Rattle.send_known.specs.Known as known
use Rattle.send_known.specs.declared.known.Known.{Known}
use Rattle.send_known.specs.declared.messages.Messages.{Messages}
use Rattle.send_links.specs.Records.{records_of}
use Rattle.send_parts.specs.Files.{sender_in}
use Rattle.send_parts.specs.Finish.{finish_to}
use Rattle.send_parts.specs.Readings.{read_on}
use Rattle.send_parts.specs.Replies.{Said, said}
use Rattle.send_parts.specs.Start.{remote_stated}
use Rattle.send_parts.specs.Sweep.{sweep_to}
use Rattle.send_parts.specs.declared.reading.Progress.TheVariants.{Failed, Goes, Missing, Whole}
use Rattle.send_parts.specs.declared.reading.Progress.{Progress}
use Rattle.send_parts.specs.declared.reading.Reading.{Reading}
use Rattle.send_parts.specs.declared.reply.Way.TheVariants as way
use Rattle.send_parts.specs.declared.reply.Way.{Way}
use Rattle.send_parts.specs.declared.rows.FinishRow.TheVariants as finish
use Rattle.send_parts.specs.declared.rows.FinishRow.{FinishRow}
use Rattle.send_parts.specs.declared.rows.StartRow.TheVariants as start
use Rattle.send_parts.specs.declared.rows.StartRow.{StartRow}
use Rattle.send_runs.proofs.Knowns.{EachOf, all_of, of_changed, of_kept, of_learned}
use Rattle.send_runs.proofs.Rising.{RiseFrom, rise_past}
use Rattle.send_runs.proofs.Steady.{Of, Works, of_closed, of_finish_at, of_if, of_looked, of_mark, of_named, of_on, of_over_pass, of_requested, of_swept, of_took, start_book}
use Rattle.todo_pass.specs.Table.{Pass, answer_row, moved_at}
use Rattle.todo_pass.specs.declared.row.Row.TheVariants as todo
use Rattle.todo_pass.specs.declared.row.Row.{Row as PassRow}

abbrev AtOnce : Known → Type 0
AtOnce k = k.finish_at ≡ 0

abbrev P : Messages → List Job → List Job → Type 0
P m jl jr = EachOf AtOnce m.known

moved_at_once : (c : Channel) (n due : ℕ) (m : Messages) → EachOf AtOnce m.known → EachOf AtOnce (due_then c n due m).known
moved_at_once Local n due m h = h
moved_at_once Remote n due m h = h

local_gone : (ks : List Known) (o : Option ℕ) → EachOf AtOnce ks → EachOf AtOnce (known.local_gone_at o ks)
local_gone ks None h = h
local_gone ks (Some i) h = of_changed AtOnce (λ (k : Known). record k { local = false }) (λ k x. x) ks i known.nobody h

remote_gone : (ks : List Known) (o : Option ℕ) → EachOf AtOnce ks → EachOf AtOnce (known.remote_gone_at o ks)
remote_gone ks None h = h
remote_gone ks (Some i) h = of_changed AtOnce (λ (k : Known). record k { remote = false }) (λ k x. x) ks i known.nobody h

gone_at_once : (c : Channel) (n : ℕ) (m : Messages) → EachOf AtOnce m.known → EachOf AtOnce (file_gone c n m).known
gone_at_once Local n m h = local_gone m.known (position (known.is_of n) m.known) h
gone_at_once Remote n m h = remote_gone m.known (position (known.is_of n) m.known) h

works : Works P
works = record { unmarks = λ c n e x. x; retries = λ c n job e is x. moved_at_once c n (retry_of c n job.begun e) e.book.messages x }

-- Each row

module _ (d : Desk) (now : ℕ) (h : Of P d) (rise : RiseFrom 0 d.book.messages.known) where
  learns : (k : Known) → k.finish_at ≡ 0 → EachOf AtOnce (known.learned k d.book.messages.known)
  learns k e = of_learned AtOnce AtOnce k e (λ y other w. w) d.book.messages.known rise h

  unlink_row : (w : Way) (c : Channel) (n : ℕ) (p : Point) → Of P (unlinked w c n p now d)
  unlink_row way.Fine c n p = gone_at_once c n d.book.messages h
  unlink_row way.Over c n p = moved_at_once c n (later now) d.book.messages h
  unlink_row way.Absent c n p = moved_at_once c n (later now) d.book.messages h
  unlink_row way.NoMemory c n p = moved_at_once c n (later now) d.book.messages h
  unlink_row way.Broken c n p = moved_at_once c n (later now) d.book.messages h

  begun_row : (c : Channel) (n b : ℕ) (records : List Record) → Of P (has_begun c n b records d)
  begun_row Local n b records = h
  begun_row Remote n b records = h

  pass_row : (o : Option (List Record)) (c : Channel) (n b : ℕ) → Of P (pass_opened o c n b now d)
  pass_row None c n b = moved_at_once c n (later now) d.book.messages h
  pass_row (Some records) c n b =
      let after : Desk = has_begun c n b records d in
      of_if P (is_free_for n (lane c d.slots)) (closed_by (job_over n (lane c after.slots)) c n (point.Pass c false) after) (put_later c n now d)
      (of_closed P works (job_over n (lane c after.slots)) c n (point.Pass c false) after refl (begun_row c n b records)) (moved_at_once c n (later now) d.book.messages h)

  file_row : (x : Progress) (c : Channel) (n b : ℕ) (g : Reading) (s : Said) → Of P (file_read x c n b g now s d)
  file_row (Goes more) c n b g s = h
  file_row Whole c n b g s = pass_row (records_of d.book.read) c n b
  file_row Missing c n b g s = moved_at_once c n (later now) d.book.messages h
  file_row Failed c n b g s = moved_at_once c n (later now) d.book.messages h

  stated_row : (w : Way) (split k birth : ℕ) (local : Bool) → EachOf AtOnce (remote_stated w split k birth local d.book).messages.known
  stated_row way.Fine split k birth local = learns (record { n = k; birth = birth; finish_at = 0; local = local; remote = true; sender = sender_in d.book.read }) refl
  stated_row way.Absent split k birth local = learns (record { n = k; birth = birth; finish_at = 0; local = local; remote = false; sender = sender_in d.book.read }) refl
  stated_row way.Over split k birth local = h
  stated_row way.NoMemory split k birth local = h
  stated_row way.Broken split k birth local = h

  start_row : (row : StartRow) (got : GotData) → Of P (act (at.Start row) now got d)
  start_row (start.StatRemote split k birth local) got = stated_row (said got).way split k birth local
  start_row row got = start_book (λ (m : Messages). EachOf AtOnce m.known) row (said got) d.book (λ look. absurd look) h

  went_row : (row : PassRow) (got : GotData) (p : Pass) → Of P (todo_went row got p now d)
  went_row todo.Answer got p = of_over_pass P (answer_row got) p now d (λ done. learns (known_of p) refl) (λ left. h)
  went_row row got p = of_on P p.row p now d h

  -- a finish that isn't put off
  finish_row : (row : FinishRow) (n : ℕ) → is_later row ≡ false → Of P (finish_at row n now d)
  finish_row row n goes = of_finish_at P row n now d (λ over. of_kept AtOnce (λ (k : Known). not (known.is_of n k)) d.book.messages.known h) (λ late. no_later row goes late) h where
    no_later : {A : Type 0} (row : FinishRow) → is_later row ≡ false → row ≡ finish.Later → A
    no_later finish.Later goes late = absurd (cc)
    no_later finish.Over goes late = absurd (cc)
    no_later row goes late = absurd (cc)

act_row : (row : Row) (event : Own) (d : Desk) → Of P d → RiseFrom 0 d.book.messages.known → MayCome (due_at row d) event.came → puts_off row d event ≡ false → Of P (act row event.read event.came d)
act_row (at.Start row) event d h rise may goes = start_row d event.read h rise row event.came
act_row (at.Turn p) event d h rise may goes = h
act_row (at.TakeLink c) event d h rise may goes = of_took P works (said event.came).way (said event.came).bytes c d h
act_row (at.Mark row m) event d h rise may goes = of_mark P works row m event.came d h
act_row (at.UnlinkFile c n p) event d h rise may goes = unlink_row d event.read h rise (said event.came).way c n p
act_row (at.ReadFile c n b reading) event d h rise may goes = file_row d event.read h rise (read_on reading (said event.came)) c n (begun_at reading b event.read) reading (said event.came)
act_row (at.Request c) event d h rise may goes = of_requested P (said event.came).way c d h
act_row (at.FindTodo s) event d h rise may goes = of_named P (said event.came).way (said event.came).bytes s event.read d h
act_row at.InTodo event d h rise may goes = went_row d event.read h rise d.pass.row event.came (moved_at d.book.controls d.pass.row d.pass event.read event.came)
act_row (at.Finish finish.OpenBounce n) event d h rise may goes =
    let it = bounce_on n event.read event.came (return_begun n) d.book in finish_row (record d { bounce = it; busy = true }) event.read h rise (returned_to it.row) n goes
act_row (at.Finish finish.Return n) event d h rise may goes =
    let it = bounce_on n event.read event.came d.bounce d.book in finish_row (record d { bounce = it }) event.read h rise (returned_to it.row) n goes
act_row (at.Finish finish.UnlinkInfo n) event d h rise may goes = finish_row d event.read h rise (finish_to finish.UnlinkInfo (said event.came).way) n goes
act_row (at.Finish finish.Give n) event d h rise may goes = finish_row d event.read h rise (finish_to finish.Give (said event.came).way) n goes
act_row (at.Finish finish.Take n) event d h rise may goes = finish_row d event.read h rise (finish_to finish.Take (said event.came).way) n goes
act_row (at.Finish row n) event d h rise may goes = absurd may
act_row (at.Sweep row) event d h rise may goes =
    of_swept P (sweep_to row event.read (said event.came) d.book) (looked_up row (said event.came) (sweep_begun row event.read d)) (of_looked P row (said event.came) event.read d h)
act_row (at.Ended status) event d h rise may goes = h

-- At each event

each_at_once : (turns : Option ℕ) (past : List Own) → IsRunBy (Next turns) past → NonePutOff turns past → EachOf AtOnce (place_after turns past).book.messages.known
each_at_once turns [] run none = tt
each_at_once turns (event ∷ before) run none =
    let d : Desk = place_after turns before in
    let row : Row = row_now d event.read event.ready in
    act_row row event d (each_at_once turns before run.0 none.0) (rise_past turns before) (subst (λ (x : NeedData). MayCome x event.came) (sym run.1.0) run.1.1) none.1

pub none_is_put_off : NoneIsPutOff
none_is_put_off turns past run none = all_of AtOnce (place_after turns past).book.messages.known (each_at_once turns past run none)
