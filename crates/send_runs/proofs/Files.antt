-- Which channel files known messages have.
use Rattle.std.proofs.Common.{◌≡◌, ℕ, List, [], ◌∷◌, bytes_eq, Bool, true, false, not, if◌then◌else◌, Option, Some, None, refl, sym, ap, ◌∙◌, subst, eq-eqb}
use Rattle.std.specs.Prelude.{◌↔◌, ◌||◌, ◌&&◌, ◌==◌}
use Rattle.bounce_record.specs.Returning.{return_begun}
use Rattle.call_fs.specs.Columns.{IsAnswerTo}
use Rattle.call_fs.specs.Past.{IsRunBy}
use Rattle.call_fs.specs.Program.{MayCome}
use Rattle.call_fs.specs.declared.calls.Answer.TheVariants as answer
use Rattle.call_fs.specs.declared.calls.Answer.{Answer}
use Rattle.call_fs.specs.declared.calls.CallData.TheVariants as call
use Rattle.call_fs.specs.declared.calls.FsError.TheVariants as why
use Rattle.call_fs.specs.declared.calls.How.TheVariants as how
use Rattle.call_fs.specs.declared.calls.Told.{Told}
use Rattle.call_fs.specs.declared.past.GotData.TheVariants as came
use Rattle.call_fs.specs.declared.past.GotData.{GotData}
use Rattle.call_fs.specs.declared.past.NeedData.TheVariants as needs
use Rattle.call_fs.specs.declared.past.NeedData.{NeedData}
use Rattle.call_fs.specs.declared.past.Own.{Own}
use Rattle.call_fs.specs.declared.program.Port.TheVariants as port
use Rattle.envelope_records.specs.declared.channel.Record.{Record}
use Rattle.queue_paths.proofs.Paths.{parse-path}
use Rattle.queue_paths.specs.Names.Name.{Of as NameOf}
use Rattle.queue_paths.specs.Names.Part.{Remote as RemoteFile}
use Rattle.queue_paths.specs.Names.{Name, name_of, parse, path}
use Rattle.send_core.proofs.Asked.{Facts, FinishSays, KnowsAt, PassSays, SweepSays}
use Rattle.send_core.proofs.Coming.{by_file}
use Rattle.send_core.proofs.Runs.{all_kept, facts}
use Rattle.send_core.proofs.Says.{arrive_says}
use Rattle.send_runs.proofs.BeforeAnswer.{IsBefore}
use Rattle.send_core.specs.Births.{births}
use Rattle.send_jobs.specs.Tries.{due_on}
use Rattle.send_core.specs.Desk.{closed_by, due_then, file_gone, has_begun, is_free_for, later, retry_of}
use Rattle.send_core.specs.Finish.{bounce_on, looked_up, returned_to, sweep_begun}
use Rattle.send_core.specs.Senders.{IsSaid}
use Rattle.send_core.specs.Table.{Next, act, place_after, due_at, row_now}
use Rattle.send_core.specs.Turn.{begun_at, file_read, known_of, pass_opened, put_later, todo_on, todo_over, todo_went, unlinked}
use Rattle.send_core.specs.declared.desk.Desk.{Desk}
use Rattle.send_parts.specs.declared.row.Point.TheVariants as point
use Rattle.send_parts.specs.declared.row.Point.{Point}
use Rattle.send_parts.specs.declared.row.Row.TheVariants as at
use Rattle.send_parts.specs.declared.row.Row.{Row}
use Rattle.send_parts.specs.Channels.{file_of}
use Rattle.send_jobs.specs.Lanes.{job_over}
use Rattle.send_jobs.specs.Sending.{lane}
use Rattle.send_known.specs.declared.channel.Channel.TheVariants.{Local, Remote}
use Rattle.send_known.specs.declared.channel.Channel.{Channel}
use Rattle.send_jobs.specs.declared.jobs.Job.{Job}
use Rattle.send_known.specs.Known as known
use Rattle.send_known.specs.Known.{sender_of}
use Rattle.send_known.specs.declared.known.Known.{Known}
use Rattle.send_known.specs.declared.messages.Messages.{Messages}
use Rattle.send_links.specs.Records.{records_of}
use Rattle.send_parts.specs.Files.{sender_in}
use Rattle.send_parts.specs.Finish.{finish_to}
use Rattle.send_parts.specs.Readings.{read_on}
use Rattle.send_parts.specs.Replies.{Said, answered as replied, said}
use Rattle.send_parts.specs.Start.{remote_stated}
use Rattle.send_parts.specs.Steps.{remove_text}
use Rattle.send_parts.specs.Sweep.{sweep_to}
use Rattle.send_parts.specs.declared.reading.Progress.TheVariants.{Goes, Whole, Missing, Failed}
use Rattle.send_parts.specs.declared.reading.Progress.{Progress}
use Rattle.send_parts.specs.declared.reading.Reading.{Reading}
use Rattle.send_parts.specs.declared.reading.Reading.TheVariants.{Closing, Going, Opening, Shutting}
use Rattle.send_parts.specs.declared.rows.FinishRow.TheVariants as finish
use Rattle.send_parts.specs.declared.rows.FinishRow.{FinishRow}
use Rattle.send_parts.specs.declared.rows.StartRow.TheVariants as start
use Rattle.send_parts.specs.declared.rows.StartRow.{StartRow}
use Rattle.send_parts.specs.declared.rows.SweepRow.TheVariants as sweep
use Rattle.send_parts.specs.declared.rows.SweepRow.{SweepRow}
use Rattle.send_parts.specs.declared.step.Step.TheVariants as step
use Rattle.todo_pass.specs.Table as pass_table
use Rattle.todo_pass.specs.Table.{Pass, command_text, moved_at}
use Rattle.todo_pass.specs.declared.row.Row.TheVariants as todo
use Rattle.todo_pass.specs.declared.row.Row.{Row as PassRow}
use Rattle.todo_pass.specs.declared.row.Why.TheVariants as left
use Rattle.send_runs.proofs.Knowing.{one_passed, same_texts, Still, finish_still, give_still, mark_still, pass_still, reading_still, start_still, sweep_still, take_still}
use Rattle.send_runs.proofs.Rising.{RiseFrom, rise_past}
use Rattle.send_runs.proofs.Steady.{Of, Works, of_closed, of_finish_at, of_if, of_looked, of_mark, of_named, of_on, of_over_pass, of_requested, of_swept, of_took, start_book}
use Rattle.send_runs.specs.Knowing.{answered as known_after, known_by, looked_for}
use Rattle.send_runs.specs.DueMoments.{has_unlinked, is_file, shift_if}
use Rattle.send_runs.specs.DueMoments.Shift.{Fails as FailsThen}
use Rattle.send_runs.specs.Files.{FilesAreOfPast, drops, has_by, has_in, is_done as was_done, looked, there_by, there_in}
use Rattle.send_runs.specs.Knowing.{answered as known_after, known_by, looked_for}
use Rattle.send_runs.proofs.Clearing.{ClearedAt, PassCleared, cleared_here}
use Rattle.retry_schedule.specs.Due.{HasEntry}
use Rattle.send_runs.proofs.Filed.{Filed, filed_past}
use Rattle.send_runs.proofs.Knowns.{EachOf, all_of, of_kept, of_learned, of_local_gone, of_put_off, of_remote_gone, of_same}
use Rattle.send_runs.proofs.Quiet.{IsQuiet, Quiet, differs as others_differ, file_false, file_true, quiet_finish, quiet_mark, quiet_pass, quiet_start, quiet_sweep}
use Rattle.send_runs.proofs.There.{PassThere, ThereAt, own_file, same_file, there_here}

-- Whether an event unlinks the file of a message whose pass is over

abbrev Undrops : Bool → NeedData → GotData → Type 0
Undrops clears due got = (c : Channel) (n : ℕ) → drops c n clears due got ≡ false

-- what leaves the due moments whatever comes of it unlinks none
not_dropped : (c : Channel) (n now : ℕ) (command : List ℕ) (clears : Bool) (due : NeedData) (got : GotData) → Quiet c n now command clears None due → drops c n clears due got ≡ false
not_dropped c n now command clears (needs.File (call.Unlink name)) (came.Answered told) quiet =
    by (not clears && is_file c n (parse name)) (quiet (came.Answered (record { answer = answer.NoName; bytes = [] }))) where
      by : (b : Bool) → IsQuiet (shift_if b FailsThen) → (b && was_done told.answer) ≡ false
      by true is = absurd is
      by false is = refl
not_dropped c n now command clears due got quiet = refl

neither_drops : (clears done : Bool) → ((not clears && false) && done) ≡ false
neither_drops true done = refl
neither_drops false done = refl

abbrev Has : (Channel → ℕ → Bool) → Known → Type 0
Has has k = (k.local ≡ has Local k.n) × (k.remote ≡ has Remote k.n)

module _ (S : ℕ → List ℕ → Type 0) (t : Facts) (d : Desk) (now : ℕ) (has th : Channel → ℕ → Bool) (clears : Bool) (h : EachOf (Has has) d.book.messages.known) (rise : RiseFrom 0 d.book.messages.known) where
  abbrev After : NeedData → GotData → Channel → ℕ → Bool
  After due got c n = has_by (known_by due got t.births.command n false) (drops c n clears due got) (there_by c n due got (th c n)) (has c n)

  abbrev Each : NeedData → GotData → Messages → List Job → List Job → Type 0
  Each due got m jl jr = EachOf (Has (After due got)) m.known

  abbrev To : Row → GotData → Type 0
  To row got = Of (Each (due_at row d) got) (act row now got d)

  abbrev Unlearnt : NeedData → GotData → Type 0
  Unlearnt due got = (n : ℕ) → known_by due got t.births.command n false ≡ false

  stay : (due : NeedData) (got : GotData) (c : Channel) (n : ℕ) → known_by due got t.births.command n false ≡ false → drops c n clears due got ≡ false → After due got c n ≡ has c n
  stay due got c n e f = ap (λ (b : Bool). has_by b (drops c n clears due got) (there_by c n due got (th c n)) (has c n)) e ∙ ap (λ (b : Bool). has_by false b (there_by c n due got (th c n)) (has c n)) f

  stays : (due : NeedData) (got : GotData) (k : Known) → known_by due got t.births.command k.n false ≡ false → ((c : Channel) → drops c k.n clears due got ≡ false) → Has has k → Has (After due got) k
  stays due got k e f w = (w.0 ∙ sym (stay due got Local k.n e (f Local)), w.1 ∙ sym (stay due got Remote k.n e (f Remote)))

  base : (due : NeedData) (got : GotData) → Unlearnt due got → Undrops clears due got → EachOf (Has (After due got)) d.book.messages.known
  base due got q u = of_same (Has has) (Has (After due got)) d.book.messages.known (λ k w. stays due got k (q k.n) (λ c. u c k.n) w) h

  of_still : (due : NeedData) (got : GotData) → Still due → Unlearnt due got
  of_still due got still = λ n. still got t.births.command n false

  same_moved : (F : Known → Type 0) (c : Channel) (n due : ℕ) (m : Messages) → EachOf F m.known → EachOf F (due_then c n due m).known
  same_moved F Local n due m x = x
  same_moved F Remote n due m x = x

  works : (due : NeedData) (got : GotData) → Works (Each due got)
  works due got = record { unmarks = λ c n e x. x; retries = λ c n job e is x. same_moved (Has (After due got)) c n (retry_of c n job.begun e) e.book.messages x }

  -- a channel file is unlinked

  abbrev Unlinks : Channel → ℕ → NeedData
  Unlinks c n = needs.File (call.Unlink (path (name_of (file_of c n))))

  other_stays : (e c : Channel) (k n : ℕ) (told : Told) → ((e ≡ c) → (k ≡ n) → ⊥) → drops e k clears (Unlinks c n) (came.Answered told) ≡ false
  other_stays e c k n told other = ap (λ (b : Bool). (not clears && b) && was_done told.answer) (file_false e c k n other) ∙ neither_drops clears (was_done told.answer)

  own_drops : (c : Channel) (n : ℕ) (told : Told) → clears ≡ false → drops c n clears (Unlinks c n) (came.Answered told) ≡ was_done told.answer
  own_drops c n told e = ap (λ (b : Bool). (not b && is_file c n (parse (path (name_of (file_of c n))))) && was_done told.answer) e ∙ ap (λ (b : Bool). b && was_done told.answer) (file_true c n)

  gone_now : (c : Channel) (n k : ℕ) (told : Told) → clears ≡ false → was_done told.answer ≡ true → k ≡ n → false ≡ After (Unlinks c n) (came.Answered told) c k
  gone_now c n k told e done same =
      let due : NeedData = Unlinks c n in
      let got : GotData = came.Answered told in
      sym (ap (λ (b : Bool). has_by false b (there_by c k due got (th c k)) (has c k)) (subst (λ (i : ℕ). drops c i clears due got ≡ true) (sym same) (own_drops c n told e ∙ done)))

  drops_file : (c : Channel) (n : ℕ) (told : Told) → clears ≡ false → was_done told.answer ≡ true → EachOf (Has (After (Unlinks c n) (came.Answered told))) (file_gone c n d.book.messages).known
  drops_file Local n told e done = let due : NeedData = Unlinks Local n in let got : GotData = came.Answered told in
      of_local_gone (Has has) (Has (After due got)) n
      (λ k same w. (gone_now Local n k.n told e done same, w.1 ∙ sym (stay due got Remote k.n refl (other_stays Remote Local k.n n told (λ same at. cc)))))
      (λ k other w. stays due got k refl (λ c. other_stays c Local k.n n told (λ same at. other at)) w) d.book.messages.known rise h
  drops_file Remote n told e done = let due : NeedData = Unlinks Remote n in let got : GotData = came.Answered told in
      of_remote_gone (Has has) (Has (After due got)) n
      (λ k same w. (w.0 ∙ sym (stay due got Local k.n refl (other_stays Local Remote k.n n told (λ same at. cc))), gone_now Remote n k.n told e done same))
      (λ k other w. stays due got k refl (λ c. other_stays c Remote k.n n told (λ same at. other at)) w) d.book.messages.known rise h

  and_false : (b x : Bool) → x ≡ false → (b && x) ≡ false
  and_false true x e = e
  and_false false x e = refl

  unlink_each : (c : Channel) (n : ℕ) (p : Point) (told : Told) → IsAnswerTo (call.Unlink (path (name_of (file_of c n)))) told.answer → clears ≡ false
      → Of (Each (Unlinks c n) (came.Answered told)) (unlinked (replied told.answer told.bytes).way c n p now d)
  unlink_each c n p told fit e = by told.answer refl fit where
    due : NeedData
    due = Unlinks c n

    failed : was_done told.answer ≡ false → EachOf (Has (After due (came.Answered told))) d.book.messages.known
    failed f = base due (came.Answered told) (λ k. refl) (λ i k. and_false (not clears && is_file i k (parse (path (name_of (file_of c n))))) (was_done told.answer) f)

    by : (a : Answer) → told.answer ≡ a → IsAnswerTo (call.Unlink (path (name_of (file_of c n)))) a → Of (Each due (came.Answered told)) (unlinked (replied a told.bytes).way c n p now d)
    by answer.Done is fit = drops_file c n told e (ap was_done is)
    by (answer.Refused why.NotThere) is fit = same_moved (Has (After due (came.Answered told))) c n (later now) d.book.messages (failed (ap was_done is))
    by (answer.Refused why.Fault) is fit = same_moved (Has (After due (came.Answered told))) c n (later now) d.book.messages (failed (ap was_done is))
    by a is fit = absurd fit

  -- passes

  begun_each : (due : NeedData) (got : GotData) (c : Channel) (n b : ℕ) (records : List Record) → EachOf (Has (After due got)) d.book.messages.known → Of (Each due got) (has_begun c n b records d)
  begun_each due got Local n b records x = x
  begun_each due got Remote n b records x = x

  pass_each : (due : NeedData) (got : GotData) (o : Option (List Record)) (c : Channel) (n b : ℕ) → EachOf (Has (After due got)) d.book.messages.known → Of (Each due got) (pass_opened o c n b now d)
  pass_each due got None c n b x = same_moved (Has (After due got)) c n (later now) d.book.messages x
  pass_each due got (Some records) c n b x =
      let after : Desk = has_begun c n b records d in
      of_if (Each due got) (is_free_for n (lane c d.slots)) (closed_by (job_over n (lane c after.slots)) c n (point.Pass c false) after) (put_later c n now d)
      (of_closed (Each due got) (works due got) (job_over n (lane c after.slots)) c n (point.Pass c false) after refl (begun_each due got c n b records x))
      (same_moved (Has (After due got)) c n (later now) d.book.messages x)

  file_each : (due : NeedData) (got : GotData) (x : Progress) (c : Channel) (n b : ℕ) (g : Reading) (s : Said) → EachOf (Has (After due got)) d.book.messages.known → Of (Each due got) (file_read x c n b g now s d)
  file_each due got (Goes more) c n b g s x = x
  file_each due got Whole c n b g s x = pass_each due got (records_of d.book.read) c n b x
  file_each due got Missing c n b g s x = same_moved (Has (After due got)) c n (later now) d.book.messages x
  file_each due got Failed c n b g s x = same_moved (Has (After due got)) c n (later now) d.book.messages x

  reading_undrops : (g : Reading) (c : Channel) (n b : ℕ) (got : GotData) → Undrops clears (due_at (at.ReadFile c n b g) d) got
  reading_undrops Opening c n b got = λ i k. refl
  reading_undrops (Going fd) c n b got = λ i k. refl
  reading_undrops (Closing fd) c n b got = λ i k. refl
  reading_undrops (Shutting fd) c n b got = λ i k. refl

  -- one is learnt, with the files that are there

  learns : (due : NeedData) (got : GotData) (k : Known) → ((n : ℕ) → known_by due got t.births.command n false ≡ (k.n == n)) → Undrops clears due got
      → k.local ≡ there_by Local k.n due got (th Local k.n) → k.remote ≡ there_by Remote k.n due got (th Remote k.n) → EachOf (Has (After due got)) (known.learned k d.book.messages.known)
  learns due got k is u local remote = of_learned (Has has) (Has (After due got)) k (local ∙ sym (now_there Local), remote ∙ sym (now_there Remote)) old d.book.messages.known rise h where
    now_there : (c : Channel) → After due got c k.n ≡ there_by c k.n due got (th c k.n)
    now_there c = ap (λ (b : Bool). has_by b (drops c k.n clears due got) (there_by c k.n due got (th c k.n)) (has c k.n)) (is k.n ∙ eq-eqb k.n k.n refl)

    old : (y : Known) → (y.n ≡ k.n → ⊥) → Has has y → Has (After due got) y
    old y other w = stays due got y (is y.n ∙ others_differ y.n k.n other) (λ c. u c y.n) w

  -- a todo pass

  abbrev ToPass : PassRow → Pass → GotData → Type 0
  ToPass row p got = Of (Each (pass_table.due_at row p) got) (todo_went row got (moved_at d.book.controls row p now got) now d)

  pass_on : (row : PassRow) (p : Pass) (got : GotData) → IsBefore row → PassCleared row clears → let q : Pass = moved_at d.book.controls row p now got in Of (Each (pass_table.due_at row p) got) (todo_on q.row q now d)
  pass_on row p got is cleared =
      let q : Pass = moved_at d.book.controls row p now got in
      let due : NeedData = pass_table.due_at row p in
      of_on (Each due got) q.row q now d
      (base due got (of_still due got (pass_still row p is)) (λ c n. not_dropped c n now t.births.command clears due got (quiet_pass c n now t.births.command clears None row p is cleared)))

  learnt_if : (b : Bool) → (if b && true then true else false) ≡ b
  learnt_if true = refl
  learnt_if false = refl

  unlearnt_if : (b : Bool) → (if b && false then true else false) ≡ false
  unlearnt_if true = refl
  unlearnt_if false = refl

  both_false : (b : Bool) → (if b then false else false) ≡ false
  both_false true = refl
  both_false false = refl

  answer_to : (p : Pass) (got : GotData) → MayCome (pass_table.due_at todo.Answer p) got → t.births.command ≡ command_text p.n → PassThere th todo.Answer p → ToPass todo.Answer p got
  answer_to p (came.Took bytes) may gave there = by (bytes_eq bytes (43 ∷ [])) refl where
    got : GotData
    got = came.Took bytes

    said_so : (good : Bool) → bytes_eq bytes (43 ∷ []) ≡ good → (n : ℕ) → known_by (needs.Take port.Clean) got t.births.command n false ≡ (if bytes_eq (command_text p.n) (command_text n) && good then true else false)
    said_so good e n = ap (λ (text : List ℕ). known_after text (bytes_eq bytes (43 ∷ [])) n false) gave ∙ ap (λ (b : Bool). if bytes_eq (command_text p.n) (command_text n) && b then true else false) e

    by : (good : Bool) → bytes_eq bytes (43 ∷ []) ≡ good
        → Of (Each (needs.Take port.Clean) got) (todo_over (if good then todo.Done else todo.Left left.Unclean) (pass_table.goes p (if good then todo.Done else todo.Left left.Unclean)) now d)
    by true e = of_over_pass (Each (needs.Take port.Clean) got) todo.Done (pass_table.goes p todo.Done) now d
        (λ done. learns (needs.Take port.Clean) got (known_of (pass_table.goes p todo.Done))
        (λ n. said_so true e n ∙ learnt_if (bytes_eq (command_text p.n) (command_text n)) ∙ same_texts command_text one_passed p.n n) (λ c n. refl) (sym there.0) (sym there.1))
        (λ done. absurd (cc))
    by false e = of_over_pass (Each (needs.Take port.Clean) got) (todo.Left left.Unclean) (pass_table.goes p (todo.Left left.Unclean)) now d (λ done. absurd (cc))
        (λ done. base (needs.Take port.Clean) got (λ n. said_so false e n ∙ unlearnt_if (bytes_eq (command_text p.n) (command_text n))) (λ c n. refl))
  answer_to p came.End may gave there = base (needs.Take port.Clean) came.End (λ n. refl) (λ c n. refl)
  answer_to p came.Failed may gave there = base (needs.Take port.Clean) came.Failed (λ n. refl) (λ c n. refl)
  answer_to p got may gave there = absurd may

  pass_to : (row : PassRow) (p : Pass) (got : GotData) → MayCome (pass_table.due_at row p) got → PassSays S t row p → PassCleared row clears → PassThere th row p → ToPass row p got
  pass_to todo.Answer p got may says cleared there = answer_to p got may says.2 there
  pass_to (todo.Clear part) p got may says cleared there = pass_on (todo.Clear part) p got tt cleared
  pass_to todo.StatMess p got may says cleared there = pass_on todo.StatMess p got tt cleared
  pass_to todo.OpenTodo p got may says cleared there = pass_on todo.OpenTodo p got tt cleared
  pass_to (todo.ReadTodo fd) p got may says cleared there = pass_on (todo.ReadTodo fd) p got tt cleared
  pass_to (todo.CloseTodo fd) p got may says cleared there = pass_on (todo.CloseTodo fd) p got tt cleared
  pass_to (todo.Create part) p got may says cleared there = pass_on (todo.Create part) p got tt cleared
  pass_to (todo.Append part fd done) p got may says cleared there = pass_on (todo.Append part fd done) p got tt cleared
  pass_to (todo.Sync part fd) p got may says cleared there = pass_on (todo.Sync part fd) p got tt cleared
  pass_to (todo.Close part fd) p got may says cleared there = pass_on (todo.Close part fd) p got tt cleared
  pass_to (todo.Shut fd why) p got may says cleared there = pass_on (todo.Shut fd why) p got tt cleared
  pass_to todo.Give p got may says cleared there = pass_on todo.Give p got tt cleared
  pass_to todo.Done p got may says cleared there = absurd may
  pass_to (todo.Left why) p got may says cleared there = absurd may
  pass_to todo.Lost p got may says cleared there = absurd may

  -- a finish and the sweep

  removed_so : (k : ℕ) (got : GotData) → t.births.command ≡ remove_text k → Unlearnt (needs.Take port.Clean) got
  removed_so k (came.Took bytes) gave = λ n. ap (λ (text : List ℕ). known_after text (bytes_eq bytes (43 ∷ [])) n false) gave ∙ both_false (bytes_eq (remove_text k) (remove_text n))
  removed_so k got gave = λ n. refl

  finish_undrops : (row : FinishRow) (n : ℕ) (got : GotData) → FinishSays S t row n → Undrops clears (due_at (at.Finish row n) d) got
  finish_undrops row n got says = λ c k. not_dropped c k now t.births.command clears (due_at (at.Finish row n) d) got (quiet_finish c k now t.births.command clears None row n d (λ e. subst (λ (x : FinishRow). FinishSays S t x n) e says))

  put_off_each : (due : NeedData) (got : GotData) (n moment : ℕ) → EachOf (Has (After due got)) d.book.messages.known → EachOf (Has (After due got)) (known.put_off n moment d.book.messages.known)
  put_off_each due got n moment x = of_put_off (Has (After due got)) n moment (λ k w. w) d.book.messages.known x

  finish_unlearnt : (row : FinishRow) (n : ℕ) (got : GotData) → FinishSays S t row n → Unlearnt (due_at (at.Finish row n) d) got
  finish_unlearnt finish.Take n got says = removed_so n got says
  finish_unlearnt finish.OpenBounce n got says = of_still (due_at (at.Finish finish.OpenBounce n) d) got (finish_still finish.OpenBounce n d (λ e. cc))
  finish_unlearnt finish.Return n got says = of_still (due_at (at.Finish finish.Return n) d) got (finish_still finish.Return n d (λ e. cc))
  finish_unlearnt finish.UnlinkInfo n got says = of_still (due_at (at.Finish finish.UnlinkInfo n) d) got (finish_still finish.UnlinkInfo n d (λ e. cc))
  finish_unlearnt finish.Give n got says = of_still (due_at (at.Finish finish.Give n) d) got (finish_still finish.Give n d (λ e. cc))
  finish_unlearnt finish.Later n got says = of_still (due_at (at.Finish finish.Later n) d) got (finish_still finish.Later n d (λ e. cc))
  finish_unlearnt finish.Over n got says = of_still (due_at (at.Finish finish.Over n) d) got (finish_still finish.Over n d (λ e. cc))
  finish_unlearnt finish.Lost n got says = of_still (due_at (at.Finish finish.Lost n) d) got (finish_still finish.Lost n d (λ e. cc))

  finish_each : (row : FinishRow) (n : ℕ) (got : GotData) → MayCome (due_at (at.Finish row n) d) got → FinishSays S t row n → To (at.Finish row n) got
  finish_each row n got may says = by row got may x where
    F : Known → Type 0
    F = Has (After (due_at (at.Finish row n) d) got)

    x : EachOf F d.book.messages.known
    x = base (due_at (at.Finish row n) d) got (finish_unlearnt row n got says) (finish_undrops row n got says)

    off : EachOf F (known.put_off n (later now) d.book.messages.known)
    off = of_put_off F n (later now) (λ k w. w) d.book.messages.known x

    gone : EachOf F (known.forgotten n d.book.messages.known)
    gone = of_kept F (λ (k : Known). not (known.is_of n k)) d.book.messages.known x

    by : (row : FinishRow) (got : GotData) → MayCome (due_at (at.Finish row n) d) got → EachOf F d.book.messages.known → Of (λ (m : Messages) (jl jr : List Job). EachOf F m.known) (act (at.Finish row n) now got d)
    by finish.OpenBounce got may x = let it = bounce_on n now got (return_begun n) d.book in of_finish_at (λ (m : Messages) (jl jr : List Job). EachOf F m.known) (returned_to it.row) n now (record d { bounce = it; busy = true }) (λ e. gone) (λ e. off) x
    by finish.Return got may x = let it = bounce_on n now got d.bounce d.book in of_finish_at (λ (m : Messages) (jl jr : List Job). EachOf F m.known) (returned_to it.row) n now (record d { bounce = it }) (λ e. gone) (λ e. off) x
    by finish.UnlinkInfo got may x = of_finish_at (λ (m : Messages) (jl jr : List Job). EachOf F m.known) (finish_to finish.UnlinkInfo (said got).way) n now d (λ e. gone) (λ e. off) x
    by finish.Give got may x = of_finish_at (λ (m : Messages) (jl jr : List Job). EachOf F m.known) (finish_to finish.Give (said got).way) n now d (λ e. gone) (λ e. off) x
    by finish.Take got may x = of_finish_at (λ (m : Messages) (jl jr : List Job). EachOf F m.known) (finish_to finish.Take (said got).way) n now d (λ e. gone) (λ e. off) x
    by finish.Later got may x = absurd may
    by finish.Over got may x = absurd may
    by finish.Lost got may x = absurd may

  sweep_each : (row : SweepRow) (got : GotData) → SweepSays S t row → To (at.Sweep row) got
  sweep_each row got says =
      let due : NeedData = due_at (at.Sweep row) d in
      of_swept (Each due got) (sweep_to row now (said got) d.book) (looked_up row (said got) (sweep_begun row now d))
      (of_looked (Each due got) row (said got) now d (base due got (unlearnt row got says)
      (λ c n. not_dropped c n now t.births.command clears due got (quiet_sweep c n now t.births.command clears None row d (λ split k e. subst (λ (x : SweepRow). SweepSays S t x) e says)))))
    where
      unlearnt : (row : SweepRow) (got : GotData) → SweepSays S t row → Unlearnt (due_at (at.Sweep row) d) got
      unlearnt (sweep.Take split n) got says = removed_so n got says
      unlearnt row got says = of_still (due_at (at.Sweep row) d) got (sweep_still row d (λ split n e. cc))

  -- the start

  stated_each : (split k birth : ℕ) (local : Bool) (told : Told) → IsAnswerTo (call.Stat (path (NameOf RemoteFile k))) told.answer → th Local k ≡ local
      → EachOf (Has (After (needs.File (call.Stat (path (NameOf RemoteFile k)))) (came.Answered told))) (remote_stated (replied told.answer told.bytes).way split k birth local d.book).messages.known
  stated_each split k birth local told fit there = by told.answer refl fit where
    due : NeedData
    due = needs.File (call.Stat (path (NameOf RemoteFile k)))

    said_so : (a : Answer) → told.answer ≡ a → (n : ℕ) → known_by due (came.Answered told) t.births.command n false ≡ looked_for (Some (NameOf RemoteFile k)) a n false
    said_so a e n = ap (λ (o : Option Name). looked_for o told.answer n false) (parse-path (NameOf RemoteFile k)) ∙ ap (λ (x : Answer). looked_for (Some (NameOf RemoteFile k)) x n false) e

    or_false : (b : Bool) → (b || false) ≡ b
    or_false true = refl
    or_false false = refl

    one : Bool → Known
    one remote = record { n = k; birth = birth; finish_at = 0; local = local; remote = remote; sender = sender_in d.book.read }

    still_local : local ≡ there_by Local k due (came.Answered told) (th Local k)
    still_local = sym (same_file Local k (NameOf RemoteFile k) (looked told.answer (th Local k)) (th Local k) refl ∙ there)

    now_remote : (a : Answer) (b : Bool) → told.answer ≡ a → looked a (th Remote k) ≡ b → b ≡ there_by Remote k due (came.Answered told) (th Remote k)
    now_remote a b e is = sym (own_file Remote k (NameOf RemoteFile k) (looked told.answer (th Remote k)) (th Remote k) (eq-eqb k k refl) ∙ ap (λ (x : Answer). looked x (th Remote k)) e ∙ is)

    by : (a : Answer) → told.answer ≡ a → IsAnswerTo (call.Stat (path (NameOf RemoteFile k))) a → EachOf (Has (After due (came.Answered told))) (remote_stated (replied a told.bytes).way split k birth local d.book).messages.known
    by (answer.Stat stat) e fit = learns due (came.Answered told) (one true) (λ n. said_so (answer.Stat stat) e n ∙ or_false (k == n)) (λ c n. refl) still_local (now_remote (answer.Stat stat) true e refl)
    by (answer.Refused why.NotThere) e fit =
        learns due (came.Answered told) (one false) (λ n. said_so (answer.Refused why.NotThere) e n ∙ or_false (k == n)) (λ c n. refl) still_local (now_remote (answer.Refused why.NotThere) false e refl)
    by (answer.Refused why.Fault) e fit = base due (came.Answered told) (λ n. said_so (answer.Refused why.Fault) e n) (λ c n. refl)
    by a e fit = absurd fit

  start_each : (row : StartRow) (got : GotData) → MayCome (due_at (at.Start row) d) got → ThereAt th (at.Start row) d.pass → To (at.Start row) got
  start_each (start.StatRemote split k birth local) got may there = by_file (due_at (at.Start (start.StatRemote split k birth local)) d) tt (To (at.Start (start.StatRemote split k birth local))) got may
      (λ told fit. stated_each split k birth local told fit there)
  start_each row got may there = start_book (λ (m : Messages). EachOf (Has (After (due_at (at.Start row) d) got)) m.known) row (said got) d.book (λ look. absurd look)
      (base (due_at (at.Start row) d) got (of_still (due_at (at.Start row) d) got (start_still row d (λ look. absurd look)))
      (λ c n. not_dropped c n now t.births.command clears (due_at (at.Start row) d) got (quiet_start c n now t.births.command clears None row d (λ look. absurd look))))

  row_each : (row : Row) (got : GotData) → MayCome (due_at row d) got → KnowsAt S t row d → ClearedAt row d.pass clears → ThereAt th row d.pass → To row got
  row_each (at.Start row) got may says cleared there = start_each row got may there
  row_each (at.Turn p) got may says cleared there = absurd may
  row_each (at.TakeLink Local) got may says cleared there =
      let due : NeedData = due_at (at.TakeLink Local) d in of_took (Each due got) (works due got) (said got).way (said got).bytes Local d (base due got (of_still due got (take_still Local d)) (λ c n. refl))
  row_each (at.TakeLink Remote) got may says cleared there =
      let due : NeedData = due_at (at.TakeLink Remote) d in of_took (Each due got) (works due got) (said got).way (said got).bytes Remote d (base due got (of_still due got (take_still Remote d)) (λ c n. refl))
  row_each (at.Mark row m) got may says cleared there =
      let due : NeedData = due_at (at.Mark row m) d in
      of_mark (Each due got) (works due got) row m got d (base due got (of_still due got (mark_still row m d)) (λ c n. not_dropped c n now t.births.command clears due got (quiet_mark c n now t.births.command clears None row m d)))
  row_each (at.UnlinkFile c n p) got may says cleared there = by_file (due_at (at.UnlinkFile c n p) d) tt (To (at.UnlinkFile c n p)) got may (λ told fit. unlink_each c n p told fit cleared)
  row_each (at.ReadFile c n b reading) got may says cleared there =
      let due : NeedData = due_at (at.ReadFile c n b reading) d in
      file_each due got (read_on reading (said got)) c n (begun_at reading b now) reading (said got)
      (base due got (of_still due got (reading_still reading (step.Open (file_of c n) how.Read) d.book.read (λ g command i was. refl))) (reading_undrops reading c n b got))
  row_each (at.Request Local) got may says cleared there =
      let due : NeedData = due_at (at.Request Local) d in of_requested (Each due got) (said got).way Local d (base due got (of_still due got (give_still Local d)) (λ c n. refl))
  row_each (at.Request Remote) got may says cleared there =
      let due : NeedData = due_at (at.Request Remote) d in of_requested (Each due got) (said got).way Remote d (base due got (of_still due got (give_still Remote d)) (λ c n. refl))
  row_each (at.FindTodo search) got may says cleared there =
      let due : NeedData = due_at (at.FindTodo search) d in of_named (Each due got) (said got).way (said got).bytes search now d (base due got (λ n. refl) (λ c n. refl))
  row_each at.InTodo got may says cleared there = pass_to d.pass.row d.pass got may says.1 cleared there
  row_each (at.Finish row n) got may says cleared there = finish_each row n got may says.1
  row_each (at.Sweep row) got may says cleared there = sweep_each row got says.1
  row_each (at.Ended status) got may says cleared there = absurd may

-- After each run

files_kept : (turns : Option ℕ) (past : List Own) → IsRunBy (Next turns) past → EachOf (Has (λ c n. has_in c n past)) (place_after turns past).book.messages.known
files_kept turns [] run = tt
files_kept turns (event ∷ before) run =
    let d : Desk = place_after turns before in
    let row : Row = row_now d event.read event.ready in
    let may : MayCome (due_at row d) event.came = subst (λ (x : NeedData). MayCome x event.came) (sym run.1.0) run.1.1 in
    let says : KnowsAt (IsSaid before) (facts before) row d = arrive_says (IsSaid before) (facts before) d event.read event.ready d.row (all_kept turns before run.0).1 in
    subst (λ (due : NeedData). EachOf (Has (λ c n. has_by (known_by due event.came (births before).command n false) (drops c n (has_unlinked before) due event.came) (there_by c n due event.came (there_in c n before)) (has_in c n before)))
    (act row event.read event.came d).book.messages.known) run.1.0
    (row_each (IsSaid before) (facts before) d event.read (λ c n. has_in c n before) (λ c n. there_in c n before) (has_unlinked before) (files_kept turns before run.0) (rise_past turns before) row event.came may says
    (cleared_here turns before event.read event.ready run.0) (there_here turns before event.read event.ready run.0))

-- on which channels they are due
due_of : (has : Channel → ℕ → Bool) (m : Messages) (k : Known) → Has has k → Filed m.local m.remote k → (c : Channel) → (has c k.n ≡ true) ↔ HasEntry k.n (due_on c m)
due_of has m k h w Local = ((λ e. w.0.0 (h.0 ∙ e)), (λ e. sym h.0 ∙ w.0.1 e))
due_of has m k h w Remote = ((λ e. w.1.0 (h.1 ∙ e)), (λ e. sym h.1 ∙ w.1.1 e))

each_due : (has : Channel → ℕ → Bool) (m : Messages) (ks : List Known) → EachOf (Has has) ks → EachOf (Filed m.local m.remote) ks → EachOf (λ k. (c : Channel) → (has c k.n ≡ true) ↔ HasEntry k.n (due_on c m)) ks
each_due has m [] h w = tt
each_due has m (k ∷ ks) h w = (due_of has m k h.0 w.0, each_due has m ks h.1 w.1)

pub files_are_of_past : FilesAreOfPast
files_are_of_past = record {
  files = λ turns past run. all_of (Has (λ c n. has_in c n past)) (place_after turns past).book.messages.known (files_kept turns past run);
  due = λ turns past run.
      let m : Messages = (place_after turns past).book.messages in
      let has : Channel → ℕ → Bool = (λ c n. has_in c n past) in
      all_of (λ (k : Known). (c : Channel) → (has c k.n ≡ true) ↔ HasEntry k.n (due_on c m)) m.known (each_due has m m.known (files_kept turns past run) (filed_past turns past));
}
