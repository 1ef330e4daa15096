-- From when messages may be finished.
use Rattle.std.proofs.Common.{◌≡◌, ℕ, List, [], ◌∷◌, position, bytes_eq, Bool, true, false, not, if◌then◌else◌, Option, Some, None, refl, sym, ap, ◌∙◌, subst, eq-eqb}
use Rattle.std.specs.Prelude.{◌||◌, ◌&&◌, ◌==◌}
use Rattle.bounce_record.specs.Returning.{Returning, return_begun, due_at as return_due_at, notes_opened}
use Rattle.bounce_record.specs.declared.return_row.ReturnRow.TheVariants as back
use Rattle.bounce_record.specs.declared.return_row.ReturnRow.{ReturnRow}
use Rattle.call_fs.specs.Columns.{IsAnswerTo}
use Rattle.call_fs.specs.Past.{IsRunBy}
use Rattle.call_fs.specs.Program.{MayCome}
use Rattle.call_fs.specs.declared.calls.Answer.TheVariants as answer
use Rattle.call_fs.specs.declared.calls.Answer.{Answer}
use Rattle.call_fs.specs.declared.calls.CallData.TheVariants as call
use Rattle.call_fs.specs.declared.calls.FsError.TheVariants as why
use Rattle.call_fs.specs.declared.calls.How.TheVariants as how
use Rattle.call_fs.specs.declared.calls.Told.{Told}
use Rattle.call_fs.specs.declared.past.GotData.TheVariants as came
use Rattle.call_fs.specs.declared.past.GotData.{GotData}
use Rattle.call_fs.specs.declared.past.NeedData.TheVariants as needs
use Rattle.call_fs.specs.declared.past.NeedData.{NeedData}
use Rattle.call_fs.specs.declared.past.Own.{Own}
use Rattle.call_fs.specs.declared.program.Port.TheVariants as port
use Rattle.call_fs.specs.declared.program.Ready.{Ready}
use Rattle.envelope_records.specs.declared.channel.Record.{Record}
use Rattle.queue_paths.proofs.Paths.{parse-path}
use Rattle.queue_paths.specs.Names.Name.{Of as NameOf}
use Rattle.queue_paths.specs.Names.Part.{Bounce as BounceFile, Remote as RemoteFile}
use Rattle.queue_paths.specs.Names.{Name, path}
use Rattle.send_core.proofs.Asked.{Facts, FinishSays, KnowsAt, PassSays, SweepSays}
use Rattle.send_core.proofs.Coming.{by_file}
use Rattle.send_core.proofs.Runs.{all_kept, facts}
use Rattle.send_core.proofs.Says.{arrive_says}
use Rattle.send_runs.proofs.BeforeAnswer.{IsBefore}
use Rattle.send_core.specs.Births.{births}
use Rattle.send_core.specs.Desk.{closed_by, due_then, file_gone, has_begun, is_free_for, later, past_finish, retry_of, turn_over}
use Rattle.send_core.specs.Finish.{bounce_on, finish_at, forgot, looked_up, put_off_to, returned_to, sweep_at, sweep_begun}
use Rattle.send_core.specs.Senders.{IsSaid}
use Rattle.send_core.specs.Table.{Next, act, arrive, place_after, due_at, from_point, row_now}
use Rattle.send_core.specs.Turn.{begun_at, file_read, known_of, pass_opened, put_later, todo_on, todo_over, todo_went, unlinked}
use Rattle.send_core.specs.declared.desk.Desk.{Desk}
use Rattle.send_parts.specs.declared.row.Point.TheVariants as point
use Rattle.send_parts.specs.declared.row.Point.{Point}
use Rattle.send_parts.specs.declared.row.Row.TheVariants as at
use Rattle.send_parts.specs.declared.row.Row.{Row}
use Rattle.send_parts.specs.Channels.{file_of}
use Rattle.send_jobs.specs.Lanes.{job_over}
use Rattle.send_jobs.specs.Sending.{lane}
use Rattle.send_known.specs.declared.channel.Channel.TheVariants.{Local, Remote}
use Rattle.send_known.specs.declared.channel.Channel.{Channel}
use Rattle.send_jobs.specs.declared.jobs.Job.{Job}
use Rattle.send_known.specs.Known as known
use Rattle.send_known.specs.Known.{sender_of}
use Rattle.send_known.specs.declared.known.Known.{Known}
use Rattle.send_known.specs.declared.messages.Messages.{Messages}
use Rattle.send_links.specs.Records.{records_of}
use Rattle.send_parts.specs.Files.{sender_in}
use Rattle.send_parts.specs.Finish.{finish_to}
use Rattle.send_parts.specs.Readings.{read_on}
use Rattle.send_parts.specs.Replies.{Said, answered as replied, said}
use Rattle.send_parts.specs.Start.{remote_stated}
use Rattle.send_parts.specs.Steps.{remove_text}
use Rattle.send_parts.specs.Sweep.{sweep_to}
use Rattle.send_parts.specs.declared.reading.Progress.TheVariants.{Goes, Whole, Missing, Failed}
use Rattle.send_parts.specs.declared.reading.Progress.{Progress}
use Rattle.send_parts.specs.declared.reading.Reading.{Reading}
use Rattle.send_parts.specs.declared.reply.Way.TheVariants as way
use Rattle.send_parts.specs.declared.reply.Way.{Way}
use Rattle.send_parts.specs.declared.rows.FinishRow.TheVariants as finish
use Rattle.send_parts.specs.declared.rows.FinishRow.{FinishRow}
use Rattle.send_parts.specs.declared.rows.StartRow.TheVariants as start
use Rattle.send_parts.specs.declared.rows.StartRow.{StartRow}
use Rattle.send_parts.specs.declared.rows.SweepRow.TheVariants as sweep
use Rattle.send_parts.specs.declared.rows.SweepRow.{SweepRow}
use Rattle.send_parts.specs.declared.step.Step.TheVariants as step
use Rattle.todo_pass.specs.Table as pass_table
use Rattle.todo_pass.specs.Table.{Pass, command_text, moved_at}
use Rattle.todo_pass.specs.declared.row.Row.TheVariants as todo
use Rattle.todo_pass.specs.declared.row.Row.{Row as PassRow}
use Rattle.todo_pass.specs.declared.row.Why.TheVariants as left
use Rattle.send_runs.proofs.Calm.{IsCalm, IsOther, calm_over, calm_pass, calm_past_finish, calm_row, point_calm}
use Rattle.send_runs.proofs.Knowing.{one_passed, same_texts, Still, finish_still, give_still, mark_still, pass_still, reading_still, return_still, start_still, sweep_still, take_still}
use Rattle.send_runs.proofs.Knowns.{EachOf, all_of, of_changed, of_delayed, of_kept, of_learned, of_same}
use Rattle.send_runs.proofs.Rising.{RiseFrom, rise_past}
use Rattle.send_runs.proofs.Steady.{Of, Works, of_closed, of_if, of_looked, of_mark, of_named, of_on, of_over_pass, of_past_finish, of_requested, of_swept, of_took, start_book}
use Rattle.send_runs.specs.FinishMoments.{FinishesAreOfPast, fails_by, finish_by, finish_in, has_misread, has_searched, is_misread, is_search, opened_for, returning, returning_by}
use Rattle.send_runs.specs.Knowing.{answered as known_after, known_by, looked_for}
use Rattle.send_runs.proofs.Quiet.{differs}
use Rattle.send_runs.proofs.Returns.{ShutAt, failed_goes, give_goes, info_just, is_later, later_is, open_just, return_just, returned_n, returning_on, shut_returned, take_goes}
use Rattle.send_runs.proofs.Searching.{PassSearched, SearchedAt, searched_here}
use Rattle.send_runs.proofs.Unfailing.{Fine, IdleAt, arrives_idle, file_fine, give_fine, idle_kept, mark_fine, pass_fine, start_fine, sweep_fine, take_fine, unlink_fine}

-- Lists of known messages

-- each may be finished from when that says
abbrev EachKnown : (ℕ → ℕ → Type 0) → List Known → Type 0
EachKnown F ks = EachOf (λ (k : Known). F k.n k.finish_at) ks

each_same : (F G : ℕ → ℕ → Type 0) (ks : List Known) → ((n moment : ℕ) → F n moment → G n moment) → EachKnown F ks → EachKnown G ks
each_same F G ks to h = of_same (λ (k : Known). F k.n k.finish_at) (λ (k : Known). G k.n k.finish_at) ks (λ k w. to k.n k.finish_at w) h

each_local : (F : ℕ → ℕ → Type 0) (ks : List Known) (o : Option ℕ) → EachKnown F ks → EachKnown F (known.local_gone_at o ks)
each_local F ks None h = h
each_local F ks (Some i) h = of_changed (λ (k : Known). F k.n k.finish_at) (λ (k : Known). record k { local = false }) (λ k x. x) ks i known.nobody h

each_remote : (F : ℕ → ℕ → Type 0) (ks : List Known) (o : Option ℕ) → EachKnown F ks → EachKnown F (known.remote_gone_at o ks)
each_remote F ks None h = h
each_remote F ks (Some i) h = of_changed (λ (k : Known). F k.n k.finish_at) (λ (k : Known). record k { remote = false }) (λ k x. x) ks i known.nobody h

each_forgotten : (F : ℕ → ℕ → Type 0) (n : ℕ) (ks : List Known) → EachKnown F ks → EachKnown F (known.forgotten n ks)
each_forgotten F n ks h = of_kept (λ (k : Known). F k.n k.finish_at) (λ (k : Known). not (known.is_of n k)) ks h

-- Each row

-- no search came before a finish unlinks the info file
abbrev LastAt : Row → Returning → Bool → Bool → Type 0
LastAt (at.Finish finish.UnlinkInfo n) r searched misread = searched ≡ false
LastAt (at.Finish finish.Return n) r searched misread = ShutAt r.row misread
LastAt row r searched misread = Unit {0}

calm_last : (row : Row) (r : Returning) (searched misread : Bool) → IsCalm row → LastAt row r searched misread
calm_last (at.Finish finish.OpenBounce n) r searched misread is = tt
calm_last (at.Finish row n) r searched misread is = absurd is
calm_last row r searched misread is = tt

-- the return of a message is of that message
abbrev ReturnAt : Row → ℕ → Option ℕ → Type 0
ReturnAt (at.Finish finish.Return n) k f = (f ≡ Some n) × (k ≡ n)
ReturnAt row k f = Unit {0}

calm_return : (row : Row) (k : ℕ) (f : Option ℕ) → IsCalm row → ReturnAt row k f
calm_return (at.Finish finish.OpenBounce n) k f is = tt
calm_return (at.Finish row n) k f is = absurd is
calm_return row k f is = tt

module _ (S : ℕ → List ℕ → Type 0) (t : Facts) (d : Desk) (now : ℕ) (was : ℕ → ℕ) (f : Option ℕ) (searched misread : Bool) (h : EachKnown (λ n moment. moment ≡ was n) d.book.messages.known) (rise : RiseFrom 0 d.book.messages.known) where
  abbrev After : NeedData → GotData → ℕ → ℕ → Type 0
  After due got n moment = moment ≡ finish_by (known_by due got t.births.command n false) (fails_by n f searched misread due got) now (was n)

  abbrev Each : NeedData → GotData → Messages → List Job → List Job → Type 0
  Each due got m jl jr = EachKnown (After due got) m.known

  abbrev To : Row → GotData → Type 0
  To row got = Of (Each (due_at row d) got) (act row now got d)

  abbrev Unlearnt : NeedData → GotData → Type 0
  Unlearnt due got = (n : ℕ) → known_by due got t.births.command n false ≡ false

  -- by which the finish of none fails
  abbrev Unfailing : NeedData → GotData → Type 0
  Unfailing due got = (n : ℕ) → fails_by n f searched misread due got ≡ false

  stay : (due : NeedData) (got : GotData) (n moment : ℕ) → known_by due got t.births.command n false ≡ false → fails_by n f searched misread due got ≡ false → moment ≡ was n → After due got n moment
  stay due got n moment unlearnt unfailing w = w
      ∙ sym (ap (λ (b : Bool). finish_by b (fails_by n f searched misread due got) now (was n)) unlearnt ∙ ap (λ (b : Bool). finish_by false b now (was n)) unfailing)

  base : (due : NeedData) (got : GotData) → Unlearnt due got → Unfailing due got → EachKnown (After due got) d.book.messages.known
  base due got q u = each_same (λ n moment. moment ≡ was n) (After due got) d.book.messages.known (λ n moment w. stay due got n moment (q n) (u n) w) h

  unfailing : (due : NeedData) (got : GotData) → Fine f searched misread due → Unfailing due got
  unfailing due got fine n = fine got n

  of_still : (due : NeedData) (got : GotData) → Still due → Unlearnt due got
  of_still due got still = λ n. still got t.births.command n false

  same_moved : (F : ℕ → ℕ → Type 0) (c : Channel) (n due : ℕ) (m : Messages) → EachKnown F m.known → EachKnown F (due_then c n due m).known
  same_moved F Local n due m x = x
  same_moved F Remote n due m x = x

  same_gone : (F : ℕ → ℕ → Type 0) (c : Channel) (n : ℕ) (m : Messages) → EachKnown F m.known → EachKnown F (file_gone c n m).known
  same_gone F Local n m x = each_local F m.known (position (known.is_of n) m.known) x
  same_gone F Remote n m x = each_remote F m.known (position (known.is_of n) m.known) x

  works : (due : NeedData) (got : GotData) → Works (Each due got)
  works due got = record { unmarks = λ c n e x. x; retries = λ c n job e is x. same_moved (After due got) c n (retry_of c n job.begun e) e.book.messages x }

  -- passes and unlinks

  unlink_each : (due : NeedData) (got : GotData) (w : Way) (c : Channel) (n : ℕ) (p : Point) → EachKnown (After due got) d.book.messages.known → Of (Each due got) (unlinked w c n p now d)
  unlink_each due got way.Fine c n p x = same_gone (After due got) c n d.book.messages x
  unlink_each due got way.Over c n p x = same_moved (After due got) c n (later now) d.book.messages x
  unlink_each due got way.Absent c n p x = same_moved (After due got) c n (later now) d.book.messages x
  unlink_each due got way.NoMemory c n p x = same_moved (After due got) c n (later now) d.book.messages x
  unlink_each due got way.Broken c n p x = same_moved (After due got) c n (later now) d.book.messages x

  begun_each : (due : NeedData) (got : GotData) (c : Channel) (n b : ℕ) (records : List Record) → EachKnown (After due got) d.book.messages.known → Of (Each due got) (has_begun c n b records d)
  begun_each due got Local n b records x = x
  begun_each due got Remote n b records x = x

  pass_each : (due : NeedData) (got : GotData) (o : Option (List Record)) (c : Channel) (n b : ℕ) → EachKnown (After due got) d.book.messages.known → Of (Each due got) (pass_opened o c n b now d)
  pass_each due got None c n b x = same_moved (After due got) c n (later now) d.book.messages x
  pass_each due got (Some records) c n b x =
      let after : Desk = has_begun c n b records d in
      of_if (Each due got) (is_free_for n (lane c d.slots)) (closed_by (job_over n (lane c after.slots)) c n (point.Pass c false) after) (put_later c n now d)
      (of_closed (Each due got) (works due got) (job_over n (lane c after.slots)) c n (point.Pass c false) after refl (begun_each due got c n b records x))
      (same_moved (After due got) c n (later now) d.book.messages x)

  file_each : (due : NeedData) (got : GotData) (x : Progress) (c : Channel) (n b : ℕ) (g : Reading) (s : Said) → EachKnown (After due got) d.book.messages.known → Of (Each due got) (file_read x c n b g now s d)
  file_each due got (Goes more) c n b g s x = x
  file_each due got Whole c n b g s x = pass_each due got (records_of d.book.read) c n b x
  file_each due got Missing c n b g s x = same_moved (After due got) c n (later now) d.book.messages x
  file_each due got Failed c n b g s x = same_moved (After due got) c n (later now) d.book.messages x

  -- one is learnt

  learns : (due : NeedData) (got : GotData) (k : Known) → k.finish_at ≡ 0 → ((n : ℕ) → known_by due got t.births.command n false ≡ (k.n == n)) → Unfailing due got → EachKnown (After due got) (known.learned k d.book.messages.known)
  learns due got k zero_is is u = of_learned (λ (y : Known). y.finish_at ≡ was y.n) (λ (y : Known). After due got y.n y.finish_at) k new (λ y other w. old y.n y.finish_at other w) d.book.messages.known rise h where
    new : After due got k.n k.finish_at
    new = zero_is ∙ sym (ap (λ (b : Bool). finish_by b (fails_by k.n f searched misread due got) now (was k.n)) (is k.n ∙ eq-eqb k.n k.n refl))

    old : (n moment : ℕ) → (n ≡ k.n → ⊥) → moment ≡ was n → After due got n moment
    old n moment other w = stay due got n moment (is n ∙ differs n k.n other) (u n) w

  -- a todo pass

  abbrev ToPass : PassRow → Pass → GotData → Type 0
  ToPass row p got = Of (Each (pass_table.due_at row p) got) (todo_went row got (moved_at d.book.controls row p now got) now d)

  pass_on : (row : PassRow) (p : Pass) (got : GotData) → IsBefore row → Unfailing (pass_table.due_at row p) got → let q : Pass = moved_at d.book.controls row p now got in Of (Each (pass_table.due_at row p) got) (todo_on q.row q now d)
  pass_on row p got is u =
      let q : Pass = moved_at d.book.controls row p now got in
      of_on (Each (pass_table.due_at row p) got) q.row q now d (base (pass_table.due_at row p) got (of_still (pass_table.due_at row p) got (pass_still row p is)) u)

  both_false : (b : Bool) → (if b then false else false) ≡ false
  both_false true = refl
  both_false false = refl

  learnt_if : (b : Bool) → (if b && true then true else false) ≡ b
  learnt_if true = refl
  learnt_if false = refl

  unlearnt_if : (b : Bool) → (if b && false then true else false) ≡ false
  unlearnt_if true = refl
  unlearnt_if false = refl

  answer_to : (p : Pass) (got : GotData) → MayCome (pass_table.due_at todo.Answer p) got → t.births.command ≡ command_text p.n → ToPass todo.Answer p got
  answer_to p (came.Took bytes) may gave = by (bytes_eq bytes (43 ∷ [])) refl where
    got : GotData
    got = came.Took bytes

    said_so : (good : Bool) → bytes_eq bytes (43 ∷ []) ≡ good → (n : ℕ) → known_by (needs.Take port.Clean) got t.births.command n false ≡ (if bytes_eq (command_text p.n) (command_text n) && good then true else false)
    said_so good e n = ap (λ (text : List ℕ). known_after text (bytes_eq bytes (43 ∷ [])) n false) gave ∙ ap (λ (b : Bool). if bytes_eq (command_text p.n) (command_text n) && b then true else false) e

    by : (good : Bool) → bytes_eq bytes (43 ∷ []) ≡ good
        → Of (Each (needs.Take port.Clean) got) (todo_over (if good then todo.Done else todo.Left left.Unclean) (pass_table.goes p (if good then todo.Done else todo.Left left.Unclean)) now d)
    by true e = of_over_pass (Each (needs.Take port.Clean) got) todo.Done (pass_table.goes p todo.Done) now d
        (λ done. learns (needs.Take port.Clean) got (known_of (pass_table.goes p todo.Done)) refl (λ n. said_so true e n ∙ learnt_if (bytes_eq (command_text p.n) (command_text n)) ∙ same_texts command_text one_passed p.n n) (λ n. refl))
        (λ done. absurd (cc))
    by false e = of_over_pass (Each (needs.Take port.Clean) got) (todo.Left left.Unclean) (pass_table.goes p (todo.Left left.Unclean)) now d (λ done. absurd (cc))
        (λ done. base (needs.Take port.Clean) got (λ n. said_so false e n ∙ unlearnt_if (bytes_eq (command_text p.n) (command_text n))) (λ n. refl))
  answer_to p came.End may gave = base (needs.Take port.Clean) came.End (λ n. refl) (λ n. refl)
  answer_to p came.Failed may gave = base (needs.Take port.Clean) came.Failed (λ n. refl) (λ n. refl)
  answer_to p (came.Answered told) may gave = absurd may
  answer_to p (came.Ended status) may gave = absurd may
  answer_to p came.Crashed may gave = absurd may
  answer_to p came.Gave may gave = absurd may
  answer_to p (came.Started pid) may gave = absurd may
  answer_to p came.Memory may gave = absurd may

  pass_to : (row : PassRow) (p : Pass) (got : GotData) → MayCome (pass_table.due_at row p) got → PassSays S t row p → f ≡ None → PassSearched row searched → ToPass row p got
  pass_to row p got may says idle first = by row may says (λ n. pass_fine f searched misread row p idle first got n) where
    by : (row : PassRow) → MayCome (pass_table.due_at row p) got → PassSays S t row p → Unfailing (pass_table.due_at row p) got → ToPass row p got
    by todo.Answer may says u = answer_to p got may says.2
    by (todo.Clear part) may says u = pass_on (todo.Clear part) p got tt u
    by todo.StatMess may says u = pass_on todo.StatMess p got tt u
    by todo.OpenTodo may says u = pass_on todo.OpenTodo p got tt u
    by (todo.ReadTodo fd) may says u = pass_on (todo.ReadTodo fd) p got tt u
    by (todo.CloseTodo fd) may says u = pass_on (todo.CloseTodo fd) p got tt u
    by (todo.Create part) may says u = pass_on (todo.Create part) p got tt u
    by (todo.Append part fd done) may says u = pass_on (todo.Append part fd done) p got tt u
    by (todo.Sync part fd) may says u = pass_on (todo.Sync part fd) p got tt u
    by (todo.Close part fd) may says u = pass_on (todo.Close part fd) p got tt u
    by (todo.Shut fd why) may says u = pass_on (todo.Shut fd why) p got tt u
    by todo.Give may says u = pass_on todo.Give p got tt u
    by todo.Done may says u = absurd may
    by (todo.Left why) may says u = absurd may
    by todo.Lost may says u = absurd may

  -- a finish and the sweep

  removed_so : (k : ℕ) (got : GotData) → t.births.command ≡ remove_text k → Unlearnt (needs.Take port.Clean) got
  removed_so k (came.Took bytes) gave = λ n. ap (λ (text : List ℕ). known_after text (bytes_eq bytes (43 ∷ [])) n false) gave ∙ both_false (bytes_eq (remove_text k) (remove_text n))
  removed_so k got gave = λ n. refl

  -- if it fails it is put off, and no other is
  puts_off : (due : NeedData) (got : GotData) (n : ℕ) → Unlearnt due got → ((k : ℕ) → fails_by k f searched misread due got ≡ (n == k)) → EachKnown (After due got) (known.put_off n (later now) d.book.messages.known)
  puts_off due got n q just = of_delayed (λ (y : Known). y.finish_at ≡ was y.n) (λ (y : Known). After due got y.n y.finish_at) n (later now) new old d.book.messages.known rise h where
    new : (y : Known) → y.n ≡ n → y.finish_at ≡ was y.n → After due got y.n (later now)
    new y same w = sym (ap (λ (b : Bool). finish_by b (fails_by y.n f searched misread due got) now (was y.n)) (q y.n)
        ∙ ap (λ (b : Bool). finish_by false b now (was y.n)) (just y.n ∙ eq-eqb n y.n (sym same)))

    old : (y : Known) → (y.n ≡ n → ⊥) → y.finish_at ≡ was y.n → After due got y.n y.finish_at
    old y other w = stay due got y.n y.finish_at (q y.n) (just y.n ∙ differs y.n n other) w

  -- where a finish leads, by whether just its message's failed
  lands : (due : NeedData) (got : GotData) (n : ℕ) (b : Returning) (busy : Bool) → Unlearnt due got → (row : FinishRow) → ((k : ℕ) → fails_by k f searched misread due got ≡ (is_later row && (n == k)))
      → Of (Each due got) (finish_at row n now (record d { bounce = b; busy = busy }))
  lands due got n b busy q finish.Later just = of_past_finish (Each due got) now (put_off_to n (later now) (record d { bounce = b; busy = busy })) (puts_off due got n q just)
  lands due got n b busy q finish.Over just = of_past_finish (Each due got) now (forgot n (record d { bounce = b; busy = busy })) (each_forgotten (After due got) n d.book.messages.known (base due got q just))
  lands due got n b busy q finish.Lost just = base due got q just
  lands due got n b busy q finish.OpenBounce just = base due got q just
  lands due got n b busy q finish.Return just = base due got q just
  lands due got n b busy q finish.UnlinkInfo just = base due got q just
  lands due got n b busy q finish.Give just = base due got q just
  lands due got n b busy q finish.Take just = base due got q just

  none_later : (row : FinishRow) (n k : ℕ) → is_later row ≡ false → false ≡ (is_later row && (n == k))
  none_later row n k e = sym (ap (λ (b : Bool). b && (n == k)) e)

  finish_each : (row : FinishRow) (n : ℕ) (got : GotData) → MayCome (due_at (at.Finish row n) d) got → FinishSays S t row n → ReturnAt (at.Finish row n) d.bounce.n f → LastAt (at.Finish row n) d.bounce searched misread → To (at.Finish row n) got
  finish_each finish.OpenBounce n got may says at_return last = by_file (due_at (at.Finish finish.OpenBounce n) d) tt (To (at.Finish finish.OpenBounce n)) got may (λ told fit.
      let due : NeedData = due_at (at.Finish finish.OpenBounce n) d in
      let it = bounce_on n now (came.Answered told) (return_begun n) d.book in
      lands due (came.Answered told) n it true (of_still due (came.Answered told) (finish_still finish.OpenBounce n d (λ e. cc))) (returned_to it.row)
      (λ k. open_just k n f searched misread told.answer ∙ ap (λ (b : Bool). b && (n == k)) (sym (failed_goes (return_begun n) (notes_opened told.answer)) ∙ sym (later_is it.row))))
  finish_each finish.Return n got may says at_return last =
      let due : NeedData = return_due_at d.bounce.row d.bounce in
      let it = bounce_on n now got d.bounce d.book in
      let same : f ≡ Some d.bounce.n = at_return.0 ∙ ap (λ (k : ℕ). Some k) (sym at_return.1) in
      lands due got n it d.busy (of_still due got (return_still d.bounce.row d.bounce)) (returned_to it.row)
      (λ k. return_just k f searched misread d.book.controls (sender_of n d.book.messages.known) d.bounce now same d.bounce.row got may last
      ∙ ap (λ (b : Bool). b && (d.bounce.n == k)) (sym (later_is it.row)) ∙ ap (λ (m : ℕ). is_later (returned_to it.row) && (m == k)) at_return.1)
  finish_each finish.UnlinkInfo n got may says at_return last = by_file (due_at (at.Finish finish.UnlinkInfo n) d) tt (To (at.Finish finish.UnlinkInfo n)) got may (λ told fit.
      let due : NeedData = due_at (at.Finish finish.UnlinkInfo n) d in
      lands due (came.Answered told) n d.bounce d.busy (of_still due (came.Answered told) (finish_still finish.UnlinkInfo n d (λ e. cc))) (finish_to finish.UnlinkInfo (replied told.answer told.bytes).way)
      (λ k. info_just k n searched told.answer told.bytes last fit))
  finish_each finish.Give n got may says at_return last =
      let due : NeedData = due_at (at.Finish finish.Give n) d in
      lands due got n d.bounce d.busy (of_still due got (finish_still finish.Give n d (λ e. cc))) (finish_to finish.Give (said got).way)
      (λ k. none_later (finish_to finish.Give (said got).way) n k (give_goes (said got).way))
  finish_each finish.Take n got may says at_return last =
      lands (needs.Take port.Clean) got n d.bounce d.busy (removed_so n got says) (finish_to finish.Take (said got).way)
      (λ k. none_later (finish_to finish.Take (said got).way) n k (take_goes (said got).way))
  finish_each finish.Later n got may says at_return last = absurd may
  finish_each finish.Over n got may says at_return last = absurd may
  finish_each finish.Lost n got may says at_return last = absurd may

  sweep_each : (row : SweepRow) (got : GotData) → MayCome (due_at (at.Sweep row) d) got → SweepSays S t row → To (at.Sweep row) got
  sweep_each row got may says =
      let due : NeedData = due_at (at.Sweep row) d in
      of_swept (Each due got) (sweep_to row now (said got) d.book) (looked_up row (said got) (sweep_begun row now d))
      (of_looked (Each due got) row (said got) now d (base due got (unlearnt row got says) (unfailing due got (sweep_fine f searched misread row d))))
    where
      unlearnt : (row : SweepRow) (got : GotData) → SweepSays S t row → Unlearnt (due_at (at.Sweep row) d) got
      unlearnt (sweep.Take split n) got says = removed_so n got says
      unlearnt row got says = of_still (due_at (at.Sweep row) d) got (sweep_still row d (λ split n e. cc))

  -- the start

  stated_each : (split k birth : ℕ) (local : Bool) (told : Told) → IsAnswerTo (call.Stat (path (NameOf RemoteFile k))) told.answer
      → EachKnown (After (needs.File (call.Stat (path (NameOf RemoteFile k)))) (came.Answered told)) (remote_stated (replied told.answer told.bytes).way split k birth local d.book).messages.known
  stated_each split k birth local told fit = by told.answer refl fit where
    due : NeedData
    due = needs.File (call.Stat (path (NameOf RemoteFile k)))

    said_so : (a : Answer) → told.answer ≡ a → (n : ℕ) → known_by due (came.Answered told) t.births.command n false ≡ looked_for (Some (NameOf RemoteFile k)) a n false
    said_so a e n = ap (λ (o : Option Name). looked_for o told.answer n false) (parse-path (NameOf RemoteFile k)) ∙ ap (λ (x : Answer). looked_for (Some (NameOf RemoteFile k)) x n false) e

    or_false : (b : Bool) → (b || false) ≡ b
    or_false true = refl
    or_false false = refl

    one : Bool → Known
    one remote = record { n = k; birth = birth; finish_at = 0; local = local; remote = remote; sender = sender_in d.book.read }

    by : (a : Answer) → told.answer ≡ a → IsAnswerTo (call.Stat (path (NameOf RemoteFile k))) a → EachKnown (After due (came.Answered told)) (remote_stated (replied a told.bytes).way split k birth local d.book).messages.known
    by (answer.Stat stat) e fit = learns due (came.Answered told) (one true) refl (λ n. said_so (answer.Stat stat) e n ∙ or_false (k == n)) (λ n. refl)
    by (answer.Refused why.NotThere) e fit = learns due (came.Answered told) (one false) refl (λ n. said_so (answer.Refused why.NotThere) e n ∙ or_false (k == n)) (λ n. refl)
    by (answer.Refused why.Fault) e fit = base due (came.Answered told) (λ n. said_so (answer.Refused why.Fault) e n) (λ n. refl)
    by a e fit = absurd fit

  start_each : (row : StartRow) (got : GotData) → MayCome (due_at (at.Start row) d) got → f ≡ None → To (at.Start row) got
  start_each (start.StatRemote split k birth local) got may idle = by_file (due_at (at.Start (start.StatRemote split k birth local)) d) tt (To (at.Start (start.StatRemote split k birth local))) got may
      (λ told fit. stated_each split k birth local told fit)
  start_each row got may idle = start_book (λ (m : Messages). EachKnown (After (due_at (at.Start row) d) got) m.known) row (said got) d.book (λ look. absurd look)
      (base (due_at (at.Start row) d) got (of_still (due_at (at.Start row) d) got (start_still row d (λ look. absurd look))) (unfailing (due_at (at.Start row) d) got (start_fine f searched misread row d idle)))

  row_each : (row : Row) (got : GotData) → MayCome (due_at row d) got → KnowsAt S t row d → ReturnAt row d.bounce.n f → LastAt row d.bounce searched misread → IdleAt row f → SearchedAt row d.pass searched → To row got
  row_each (at.Start row) got may says at_return last idle first = start_each row got may idle
  row_each (at.Turn p) got may says at_return last idle first = absurd may
  row_each (at.TakeLink c) got may says at_return last idle first =
      let due : NeedData = due_at (at.TakeLink c) d in
      of_took (Each due got) (works due got) (said got).way (said got).bytes c d (base due got (of_still due got (take_still c d)) (unfailing due got (take_fine f searched misread c d)))
  row_each (at.Mark row m) got may says at_return last idle first =
      let due : NeedData = due_at (at.Mark row m) d in
      of_mark (Each due got) (works due got) row m got d (base due got (of_still due got (mark_still row m d)) (unfailing due got (mark_fine f searched misread row m d idle)))
  row_each (at.UnlinkFile c n p) got may says at_return last idle first =
      let due : NeedData = due_at (at.UnlinkFile c n p) d in unlink_each due got (said got).way c n p (base due got (λ n. refl) (unfailing due got (unlink_fine f searched misread c n)))
  row_each (at.ReadFile c n b reading) got may says at_return last idle first =
      let due : NeedData = due_at (at.ReadFile c n b reading) d in
      file_each due got (read_on reading (said got)) c n (begun_at reading b now) reading (said got)
      (base due got (of_still due got (reading_still reading (step.Open (file_of c n) how.Read) d.book.read (λ g command i was. refl))) (unfailing due got (file_fine f searched misread reading c n b d idle)))
  row_each (at.Request c) got may says at_return last idle first =
      let due : NeedData = due_at (at.Request c) d in of_requested (Each due got) (said got).way c d (base due got (of_still due got (give_still c d)) (unfailing due got (give_fine f searched misread c d)))
  row_each (at.FindTodo search) got may says at_return last idle first =
      let due : NeedData = due_at (at.FindTodo search) d in of_named (Each due got) (said got).way (said got).bytes search now d (base due got (λ n. refl) (λ n. refl))
  row_each at.InTodo got may says at_return last idle first = pass_to d.pass.row d.pass got may says.1 idle first
  row_each (at.Finish row n) got may says at_return last idle first = finish_each row n got may says.1 at_return last
  row_each (at.Sweep row) got may says at_return last idle first = sweep_each row got may says.1
  row_each (at.Ended status) got may says at_return last idle first = absurd may

-- The return under way, after each row

finish_return : (n : ℕ) (f : Option ℕ) (row : FinishRow) (k now : ℕ) (d : Desk) → ((row ≡ finish.Return) → (f ≡ Some n) × (k ≡ n)) → d.bounce.n ≡ k → ReturnAt (finish_at row n now d).row (finish_at row n now d).bounce.n f
finish_return n f finish.Return k now d so same = let w = so refl in (w.0, same ∙ w.1)
finish_return n f finish.Later k now d so same = let e : Desk = past_finish now (put_off_to n (later now) d) in calm_return e.row e.bounce.n f (calm_past_finish now (put_off_to n (later now) d))
finish_return n f finish.Over k now d so same = let e : Desk = past_finish now (forgot n d) in calm_return e.row e.bounce.n f (calm_past_finish now (forgot n d))
finish_return n f finish.Lost k now d so same = tt
finish_return n f finish.OpenBounce k now d so same = tt
finish_return n f finish.UnlinkInfo k now d so same = tt
finish_return n f finish.Give k now d so same = tt
finish_return n f finish.Take k now d so same = tt

info_no_return : (w : Way) → finish_to finish.UnlinkInfo w ≡ finish.Return → ⊥
info_no_return way.Fine e = cc
info_no_return w e = cc

give_no_return : (w : Way) → finish_to finish.Give w ≡ finish.Return → ⊥
give_no_return way.Fine e = cc
give_no_return w e = cc

take_no_return : (w : Way) → finish_to finish.Take w ≡ finish.Return → ⊥
take_no_return way.Fine e = cc
take_no_return w e = cc

file_return : (x : Progress) (c : Channel) (n b : ℕ) (g : Reading) (now : ℕ) (s : Said) (d : Desk) (f : Option ℕ) → let e : Desk = file_read x c n b g now s d in ReturnAt e.row e.bounce.n f
file_return (Goes more) c n b g now s d f = tt
file_return Whole c n b g now s d f = let e : Desk = pass_opened (records_of d.book.read) c n b now d in calm_return e.row e.bounce.n f (calm_pass (records_of d.book.read) c n b now d)
file_return Missing c n b g now s d f = tt
file_return Failed c n b g now s d f = tt

swept_return : (row : SweepRow) (e : Desk) (f : Option ℕ) → ReturnAt (sweep_at row e).row (sweep_at row e).bounce.n f
swept_return sweep.Over e f = calm_return (turn_over e).row (turn_over e).bounce.n f (calm_over e)
swept_return sweep.Lost e f = tt
swept_return row e f = tt

row_return : (row : Row) (now : ℕ) (got : GotData) (d : Desk) (f : Option ℕ) → MayCome (due_at row d) got → ReturnAt row d.bounce.n f
    → let e : Desk = act row now got d in ReturnAt e.row e.bounce.n (returning_by f (due_at row d))
row_return (at.Turn p) now got d f may h = absurd may
row_return (at.Ended status) now got d f may h = absurd may
row_return (at.ReadFile c n b reading) now got d f may h = file_return (read_on reading (said got)) c n (begun_at reading b now) reading now (said got) d (returning_by f (due_at (at.ReadFile c n b reading) d))
row_return (at.Sweep row) now got d f may h = swept_return (sweep_to row now (said got) d.book) (looked_up row (said got) (sweep_begun row now d)) (returning_by f (due_at (at.Sweep row) d))
row_return (at.Finish finish.OpenBounce n) now got d f may h =
    let it = bounce_on n now got (return_begun n) d.book in
    let same : it.n ≡ n = returned_n d.book.controls (sender_of n d.book.messages.known) (return_begun n) now back.Open got in
    finish_return n (returning_by f (due_at (at.Finish finish.OpenBounce n) d)) (returned_to it.row) it.n now (record d { bounce = it; busy = true })
    (λ e. (ap opened_for (parse-path (NameOf BounceFile n)), same)) refl
row_return (at.Finish finish.Return n) now got d f may h =
    let it = bounce_on n now got d.bounce d.book in
    let same : it.n ≡ d.bounce.n = returned_n d.book.controls (sender_of n d.book.messages.known) d.bounce now d.bounce.row got in
    finish_return n (returning_by f (return_due_at d.bounce.row d.bounce)) (returned_to it.row) it.n now (record d { bounce = it })
    (λ e. (returning_on n f d.bounce h.1 d.bounce.row got may h.0, same ∙ h.1)) refl
row_return (at.Finish finish.UnlinkInfo n) now got d f may h = finish_return n (returning_by f (due_at (at.Finish finish.UnlinkInfo n) d)) (finish_to finish.UnlinkInfo (said got).way) d.bounce.n now d (λ e. absurd (info_no_return (said got).way e)) refl
row_return (at.Finish finish.Give n) now got d f may h = finish_return n (returning_by f (due_at (at.Finish finish.Give n) d)) (finish_to finish.Give (said got).way) d.bounce.n now d (λ e. absurd (give_no_return (said got).way e)) refl
row_return (at.Finish finish.Take n) now got d f may h = finish_return n (returning_by f (due_at (at.Finish finish.Take n) d)) (finish_to finish.Take (said got).way) d.bounce.n now d (λ e. absurd (take_no_return (said got).way e)) refl
row_return (at.Finish row n) now got d f may h = absurd may
row_return (at.Start row) now got d f may h = let e : Desk = act (at.Start row) now got d in calm_return e.row e.bounce.n (returning_by f (due_at (at.Start row) d)) (calm_row (at.Start row) now got d tt)
row_return (at.TakeLink c) now got d f may h = let e : Desk = act (at.TakeLink c) now got d in calm_return e.row e.bounce.n (returning_by f (due_at (at.TakeLink c) d)) (calm_row (at.TakeLink c) now got d tt)
row_return (at.Mark row m) now got d f may h = let e : Desk = act (at.Mark row m) now got d in calm_return e.row e.bounce.n (returning_by f (due_at (at.Mark row m) d)) (calm_row (at.Mark row m) now got d tt)
row_return (at.UnlinkFile c n p) now got d f may h = let e : Desk = act (at.UnlinkFile c n p) now got d in calm_return e.row e.bounce.n (returning_by f (due_at (at.UnlinkFile c n p) d)) (calm_row (at.UnlinkFile c n p) now got d tt)
row_return (at.Request c) now got d f may h = let e : Desk = act (at.Request c) now got d in calm_return e.row e.bounce.n (returning_by f (due_at (at.Request c) d)) (calm_row (at.Request c) now got d tt)
row_return (at.FindTodo search) now got d f may h = let e : Desk = act (at.FindTodo search) now got d in calm_return e.row e.bounce.n (returning_by f (due_at (at.FindTodo search) d)) (calm_row (at.FindTodo search) now got d tt)
row_return at.InTodo now got d f may h = let e : Desk = act at.InTodo now got d in calm_return e.row e.bounce.n (returning_by f (due_at at.InTodo d)) (calm_row at.InTodo now got d tt)

no_search : (row : ReturnRow) (r : Returning) → is_search (return_due_at row r) ≡ false
no_search back.Over r = refl
no_search row r = refl

finish_last : (row : FinishRow) (n now : ℕ) (d : Desk) (searched misread : Bool) → (row ≡ finish.UnlinkInfo → searched ≡ false) → (row ≡ finish.Return → ShutAt d.bounce.row misread)
    → LastAt (finish_at row n now d).row (finish_at row n now d).bounce searched misread
finish_last finish.Return n now d searched misread info shut = shut refl
finish_last finish.UnlinkInfo n now d searched misread info shut = info refl
finish_last finish.Later n now d searched misread info shut = let e : Desk = past_finish now (put_off_to n (later now) d) in calm_last e.row e.bounce searched misread (calm_past_finish now (put_off_to n (later now) d))
finish_last finish.Over n now d searched misread info shut = let e : Desk = past_finish now (forgot n d) in calm_last e.row e.bounce searched misread (calm_past_finish now (forgot n d))
finish_last row n now d searched misread info shut = tt

file_last : (x : Progress) (c : Channel) (n b : ℕ) (g : Reading) (now : ℕ) (s : Said) (d : Desk) (searched misread : Bool) → let e : Desk = file_read x c n b g now s d in LastAt e.row e.bounce searched misread
file_last (Goes more) c n b g now s d searched misread = tt
file_last Whole c n b g now s d searched misread = let e : Desk = pass_opened (records_of d.book.read) c n b now d in calm_last e.row e.bounce searched misread (calm_pass (records_of d.book.read) c n b now d)
file_last Missing c n b g now s d searched misread = tt
file_last Failed c n b g now s d searched misread = tt

swept_last : (row : SweepRow) (e : Desk) (searched misread : Bool) → LastAt (sweep_at row e).row (sweep_at row e).bounce searched misread
swept_last sweep.Over e searched misread = calm_last (turn_over e).row (turn_over e).bounce searched misread (calm_over e)
swept_last sweep.Lost e searched misread = tt
swept_last row e searched misread = tt

calm_row_last : (row : Row) (now : ℕ) (got : GotData) (d : Desk) → IsOther row → let e : Desk = act row now got d in LastAt e.row e.bounce (is_search (due_at row d)) (is_misread (due_at row d) got)
calm_row_last row now got d other = let e : Desk = act row now got d in calm_last e.row e.bounce (is_search (due_at row d)) (is_misread (due_at row d) got) (calm_row row now got d other)

row_last : (row : Row) (now : ℕ) (got : GotData) (d : Desk) → MayCome (due_at row d) got → let e : Desk = act row now got d in LastAt e.row e.bounce (is_search (due_at row d)) (is_misread (due_at row d) got)
row_last (at.Turn p) now got d may = absurd may
row_last (at.Ended status) now got d may = absurd may
row_last (at.ReadFile c n b reading) now got d may =
    let due : NeedData = due_at (at.ReadFile c n b reading) d in file_last (read_on reading (said got)) c n (begun_at reading b now) reading now (said got) d (is_search due) (is_misread due got)
row_last (at.Sweep row) now got d may =
    let due : NeedData = due_at (at.Sweep row) d in swept_last (sweep_to row now (said got) d.book) (looked_up row (said got) (sweep_begun row now d)) (is_search due) (is_misread due got)
row_last (at.Finish finish.OpenBounce n) now got d may =
    let it = bounce_on n now got (return_begun n) d.book in
    finish_last (returned_to it.row) n now (record d { bounce = it; busy = true }) false (is_misread (due_at (at.Finish finish.OpenBounce n) d) got) (λ e. refl)
    (λ e. shut_returned d.book.controls (sender_of n d.book.messages.known) (return_begun n) now back.Open got may)
row_last (at.Finish finish.Return n) now got d may =
    let it = bounce_on n now got d.bounce d.book in
    let due : NeedData = return_due_at d.bounce.row d.bounce in
    finish_last (returned_to it.row) n now (record d { bounce = it }) (is_search due) (is_misread due got) (λ e. no_search d.bounce.row d.bounce)
    (λ e. shut_returned d.book.controls (sender_of n d.book.messages.known) d.bounce now d.bounce.row got may)
row_last (at.Finish finish.UnlinkInfo n) now got d may =
    let due : NeedData = due_at (at.Finish finish.UnlinkInfo n) d in finish_last (finish_to finish.UnlinkInfo (said got).way) n now d (is_search due) (is_misread due got) (λ e. refl) (λ e. absurd (info_no_return (said got).way e))
row_last (at.Finish finish.Give n) now got d may =
    let due : NeedData = due_at (at.Finish finish.Give n) d in finish_last (finish_to finish.Give (said got).way) n now d (is_search due) (is_misread due got) (λ e. refl) (λ e. absurd (give_no_return (said got).way e))
row_last (at.Finish finish.Take n) now got d may =
    let due : NeedData = due_at (at.Finish finish.Take n) d in finish_last (finish_to finish.Take (said got).way) n now d (is_search due) (is_misread due got) (λ e. refl) (λ e. absurd (take_no_return (said got).way e))
row_last (at.Finish row n) now got d may = absurd may
row_last (at.Start row) now got d may = calm_row_last (at.Start row) now got d tt
row_last (at.TakeLink c) now got d may = calm_row_last (at.TakeLink c) now got d tt
row_last (at.Mark row m) now got d may = calm_row_last (at.Mark row m) now got d tt
row_last (at.UnlinkFile c n p) now got d may = calm_row_last (at.UnlinkFile c n p) now got d tt
row_last (at.Request c) now got d may = calm_row_last (at.Request c) now got d tt
row_last (at.FindTodo search) now got d may = calm_row_last (at.FindTodo search) now got d tt
row_last at.InTodo now got d may = calm_row_last at.InTodo now got d tt

arrives_last : (row : Row) (d : Desk) (now : ℕ) (ready : Ready) (searched misread : Bool) → LastAt row d.bounce searched misread → LastAt (arrive row d now ready) d.bounce searched misread
arrives_last (at.Turn p) d now ready searched misread h = calm_last (from_point p d now ready) d.bounce searched misread (point_calm d now ready p)
arrives_last row d now ready searched misread h = h

last_kept : (turns : Option ℕ) (past : List Own) → IsRunBy (Next turns) past → let d : Desk = place_after turns past in LastAt d.row d.bounce (has_searched past) (has_misread past)
last_kept turns [] run = tt
last_kept turns (event ∷ before) run =
    let d : Desk = place_after turns before in
    let row : Row = row_now d event.read event.ready in
    let may : MayCome (due_at row d) event.came = subst (λ (x : NeedData). MayCome x event.came) (sym run.1.0) run.1.1 in
    subst (λ (due : NeedData). LastAt (act row event.read event.came d).row (act row event.read event.came d).bounce (is_search due) (is_misread due event.came)) run.1.0
    (row_last row event.read event.came d may)

arrives_return : (row : Row) (d : Desk) (now : ℕ) (ready : Ready) (f : Option ℕ) → ReturnAt row d.bounce.n f → ReturnAt (arrive row d now ready) d.bounce.n f
arrives_return (at.Turn p) d now ready f h = calm_return (from_point p d now ready) d.bounce.n f (point_calm d now ready p)
arrives_return row d now ready f h = h

-- After each run

return_kept : (turns : Option ℕ) (past : List Own) → IsRunBy (Next turns) past → let d : Desk = place_after turns past in ReturnAt d.row d.bounce.n (returning past)
return_kept turns [] run = tt
return_kept turns (event ∷ before) run =
    let d : Desk = place_after turns before in
    let row : Row = row_now d event.read event.ready in
    let may : MayCome (due_at row d) event.came = subst (λ (x : NeedData). MayCome x event.came) (sym run.1.0) run.1.1 in
    subst (λ (due : NeedData). ReturnAt (act row event.read event.came d).row (act row event.read event.came d).bounce.n (returning_by (returning before) due)) run.1.0
    (row_return row event.read event.came d (returning before) may (arrives_return d.row d event.read event.ready (returning before) (return_kept turns before run.0)))

finishes_kept : (turns : Option ℕ) (past : List Own) → IsRunBy (Next turns) past → EachKnown (λ n moment. moment ≡ finish_in n past) (place_after turns past).book.messages.known
finishes_kept turns [] run = tt
finishes_kept turns (event ∷ before) run =
    let d : Desk = place_after turns before in
    let row : Row = row_now d event.read event.ready in
    let may : MayCome (due_at row d) event.came = subst (λ (x : NeedData). MayCome x event.came) (sym run.1.0) run.1.1 in
    let says : KnowsAt (IsSaid before) (facts before) row d = arrive_says (IsSaid before) (facts before) d event.read event.ready d.row (all_kept turns before run.0).1 in
    let f : Option ℕ = returning before in
    subst (λ (due : NeedData).
    EachKnown (λ n moment. moment ≡ finish_by (known_by due event.came (births before).command n false) (fails_by n f (has_searched before) (has_misread before) due event.came) event.read (finish_in n before))
    (act row event.read event.came d).book.messages.known) run.1.0
    (row_each (IsSaid before) (facts before) d event.read (λ n. finish_in n before) f (has_searched before) (has_misread before) (finishes_kept turns before run.0) (rise_past turns before) row event.came may says
    (arrives_return d.row d event.read event.ready f (return_kept turns before run.0))
    (arrives_last d.row d event.read event.ready (has_searched before) (has_misread before) (last_kept turns before run.0))
    (arrives_idle d.row d event.read event.ready f (idle_kept turns before run.0))
    (searched_here turns before event.read event.ready run.0))

pub finishes_are_of_past : FinishesAreOfPast
finishes_are_of_past turns past run = all_of (λ (k : Known). k.finish_at ≡ finish_in k.n past) (place_after turns past).book.messages.known (finishes_kept turns past run)
