-- What a sender knows is exactly what its past says.
use Rattle.std.proofs.Common.{◌≡◌, ℕ, zero, suc, List, [], ◌∷◌, ◌++◌, length, get_or, set, take, drop, insert, position, cond, eqb, bytes_eq, codes, nat_lt, Bool, true, false, not, if◌then◌else◌, Option, Some, None, refl, sym, ap, ◌∙◌, subst, append-nil, take-append-drop, eqb-true, eq-eqb}
use Rattle.std.specs.Prelude.{◌||◌, ◌&&◌, ◌==◌, ◌+◌}
use Rattle.std.specs.List.{list_any}
use Rattle.std.proofs.lemmas.List.{append_cancel_left, append_cancel_right}
use Rattle.std.proofs.lemmas.List.Folds.{list_any_at}
use Rattle.std.proofs.lemmas.List.Quantifiers.{position-Some}
use Rattle.std.proofs.lemmas.Slice.Eq.{bytes_eq-Decides}
use Rattle.bounce_record.specs.declared.note_row.NoteRow.{NoteRow}
use Rattle.bounce_record.specs.declared.note_row.NoteRow.TheVariants as written
use Rattle.bounce_record.specs.declared.return_row.ReturnRow.{ReturnRow}
use Rattle.bounce_record.specs.declared.return_row.ReturnRow.TheVariants as back
use Rattle.bounce_record.specs.Returning.{Returning, return_begun, due_at as return_due_at}
use Rattle.bounce_record.specs.Writing.{Writing, due_at as note_due_at}
use Rattle.call_fs.specs.Columns.{IsAnswerTo}
use Rattle.call_fs.specs.Past.{IsRunBy}
use Rattle.call_fs.specs.Program.{MayCome}
use Rattle.call_fs.specs.declared.calls.Answer.{Answer}
use Rattle.call_fs.specs.declared.calls.Answer.TheVariants as answer
use Rattle.call_fs.specs.declared.calls.CallData.TheVariants as call
use Rattle.call_fs.specs.declared.calls.FsError.TheVariants as why
use Rattle.call_fs.specs.declared.calls.How.TheVariants as how
use Rattle.call_fs.specs.declared.past.GotData.{GotData}
use Rattle.call_fs.specs.declared.past.GotData.TheVariants as came
use Rattle.call_fs.specs.declared.past.NeedData.{NeedData}
use Rattle.call_fs.specs.declared.past.NeedData.TheVariants as needs
use Rattle.call_fs.specs.declared.past.Own.{Own}
use Rattle.call_fs.specs.declared.program.Ready.{Ready}
use Rattle.envelope_records.specs.declared.channel.Record.{Record}
use Rattle.mail_bytes.specs.Decimal.{digits}
use Rattle.mail_bytes.proofs.Digits.{digits_injective}
use Rattle.queue_limits.specs.declared.times.TheConstants.{PID_NAME_AGE}
use Rattle.queue_paths.specs.declared.names.Name.TheVariants as name
use Rattle.queue_paths.specs.Names.{Name, path}
use Rattle.queue_paths.specs.Names.Name.{Of as NameOf}
use Rattle.queue_paths.specs.Names.Part.{Bounce as BounceFile, Info as InfoFile, Local as LocalFile, Mess as MessFile, Remote as RemoteFile, Todo as TodoFile}
use Rattle.queue_paths.proofs.Paths.{parse-path}
use Rattle.send_core.proofs.Asked.{Facts, FinishSays, KnowsAt, PassSays, SweepSays}
use Rattle.send_core.proofs.Coming.{by_file}
use Rattle.send_core.proofs.Runs.{all_kept, facts}
use Rattle.send_core.proofs.Says.{arrive_says}
use Rattle.send_runs.proofs.BeforeAnswer.{IsBefore}
use Rattle.send_core.specs.Births.{births}
use Rattle.send_core.specs.Desk.{closed_by, due_then, file_gone, has_begun, is_free_for, later, never, retry_of}
use Rattle.send_core.specs.Finish.{bounce_on, forgot, looked_up, put_off_to, returned_to, sweep_at, sweep_begun}
use Rattle.send_core.specs.Senders.{IsSaid}
use Rattle.send_core.specs.Table.{Next, act, arrive, place_after as sender_after, due_at, from_point, row_now}
use Rattle.send_core.specs.Turn.{begun_at, file_read, known_of, pass_opened, put_later, todo_on, todo_over, todo_went, unlinked}
use Rattle.send_core.specs.declared.desk.Desk.{Desk}
use Rattle.send_parts.specs.declared.row.MarkRow.{MarkRow}
use Rattle.send_parts.specs.declared.row.MarkRow.TheVariants as mark
use Rattle.send_parts.specs.declared.row.Marked.{Marked}
use Rattle.send_parts.specs.declared.row.Point.{Point}
use Rattle.send_parts.specs.declared.row.Point.TheVariants as point
use Rattle.send_parts.specs.declared.row.Row.{Row}
use Rattle.send_parts.specs.declared.row.Row.TheVariants as at
use Rattle.send_known.specs.declared.channel.Channel.{Channel}
use Rattle.send_known.specs.declared.channel.Channel.TheVariants.{Local, Remote}
use Rattle.send_jobs.specs.declared.jobs.Job.{Job}
use Rattle.send_parts.specs.Channels.{file_of}
use Rattle.send_jobs.specs.Lanes.{job_over}
use Rattle.send_jobs.specs.Sending.{lane}
use Rattle.send_known.specs.declared.known.Known.{Known}
use Rattle.send_known.specs.declared.messages.Messages.{Messages}
use Rattle.send_known.specs.Known as known
use Rattle.send_known.specs.Known.{is_known}
use Rattle.send_parts.specs.declared.book.Book.{Book}
use Rattle.send_parts.specs.declared.reading.Progress.{Progress}
use Rattle.send_parts.specs.declared.reading.Progress.TheVariants.{Goes, Whole, Missing, Failed}
use Rattle.send_parts.specs.declared.reading.Reading.{Reading}
use Rattle.send_parts.specs.declared.reading.Reading.TheVariants.{Closing, Going, Opening, Shutting}
use Rattle.send_parts.specs.declared.reply.Way.{Way}
use Rattle.send_parts.specs.declared.reply.Way.TheVariants as way
use Rattle.send_parts.specs.declared.rows.FinishRow.{FinishRow}
use Rattle.send_parts.specs.declared.rows.FinishRow.TheVariants as finish
use Rattle.send_parts.specs.declared.rows.StartRow.{StartRow}
use Rattle.send_parts.specs.declared.rows.StartRow.TheVariants as start
use Rattle.send_parts.specs.declared.rows.SweepRow.{SweepRow}
use Rattle.send_parts.specs.declared.rows.SweepRow.TheVariants as sweep
use Rattle.send_parts.specs.declared.step.Step.{Step}
use Rattle.send_parts.specs.declared.step.Step.TheVariants as step
use Rattle.send_links.specs.Records.{records_of}
use Rattle.send_parts.specs.Files.{message_number, sender_in}
use Rattle.send_parts.specs.Finish.{finish_to}
use Rattle.send_parts.specs.Readings.{read_on, reading_step}
use Rattle.send_parts.specs.Replies.{Said, answered as replied, said}
use Rattle.send_parts.specs.Start.{remote_stated}
use Rattle.send_parts.specs.Steps.{due_by, remove_text}
use Rattle.send_parts.specs.Sweep.{info_stated, mess_stated, sweep_given, sweep_row, sweep_taken, sweep_to, swept, todo_stated}
use Rattle.todo_pass.specs.declared.row.Row.{Row as PassRow}
use Rattle.todo_pass.specs.declared.row.Row.TheVariants as todo
use Rattle.todo_pass.specs.declared.row.Why.TheVariants as left
use Rattle.todo_pass.specs.Table.{Pass, command_text, moved_at}
use Rattle.todo_pass.specs.Table as pass_table
use Rattle.send_runs.specs.Knowing.{KnownExactly, answered, known_by, known_in, looked_for}
use Rattle.send_runs.proofs.Calm.{IsCalm, calm_over, calm_pass, calm_row, finish_leads, point_calm}
use Rattle.send_runs.proofs.Steady.{IsLook, Of, Works, of_closed, of_finish_at, of_if, of_looked, of_mark, of_named, of_on, of_over_pass, of_past_finish, of_requested, of_swept, of_took, start_book}

-- Truths and texts

same_bool : (a b : Bool) → (a ≡ true → b ≡ true) → (b ≡ true → a ≡ true) → a ≡ b
same_bool true true f g = refl
same_bool true false f g = absurd (cc (f refl))
same_bool false true f g = absurd (cc (g refl))
same_bool false false f g = refl

not_true : (b : Bool) → (b ≡ true → ⊥) → b ≡ false
not_true true h = absurd (h refl)
not_true false h = refl

or_swap : (a b c : Bool) → (a || (b || c)) ≡ (b || (a || c))
or_swap true true c = refl
or_swap true false c = refl
or_swap false true c = refl
or_swap false false c = refl

pub same_texts : (f : ℕ → List ℕ) → ((a b : ℕ) → f a ≡ f b → a ≡ b) → (a b : ℕ) → bytes_eq (f a) (f b) ≡ (a == b)
same_texts f one a b = same_bool (bytes_eq (f a) (f b)) (a == b)
    (λ e. eq-eqb a b (one a b ((bytes_eq-Decides (f a) (f b)).0 e)))
    (λ e. (bytes_eq-Decides (f a) (f b)).1 (ap f (eqb-true a b e)))

pub one_removed : (a b : ℕ) → remove_text a ≡ remove_text b → a ≡ b
one_removed a b e = digits_injective a b (append_cancel_right (digits a) (digits b) (0 ∷ []) (append_cancel_left (codes "foop/") (digits a ++ 0 ∷ []) (digits b ++ 0 ∷ []) e))

pub one_passed : (a b : ℕ) → command_text a ≡ command_text b → a ≡ b
one_passed a b e = digits_injective a b (append_cancel_right (digits a) (digits b) (0 ∷ []) (append_cancel_left (codes "todo/") (digits a ++ 0 ∷ []) (digits b ++ 0 ∷ []) e))

-- Lists of known messages

any_set : (p : Known → Bool) (ks : List Known) (i : ℕ) (k d : Known) → p k ≡ p (get_or ks i d) → list_any p (set ks i k) ≡ list_any p ks
any_set p [] i k d e = refl
any_set p (x ∷ ks) zero k d e = ap (λ (b : Bool). b || list_any p ks) e
any_set p (x ∷ ks) (suc i) k d e = ap (λ (b : Bool). p x || b) (any_set p ks i k d e)

any_split : (p : Known → Bool) (xs ys : List Known) (k : Known) → list_any p (xs ++ k ∷ ys) ≡ (p k || list_any p (xs ++ ys))
any_split p [] ys k = refl
any_split p (x ∷ xs) ys k = ap (λ (b : Bool). p x || b) (any_split p xs ys k) ∙ or_swap (p x) (p k) (list_any p (xs ++ ys))

known_learned_at : (m : ℕ) (k : Known) (ks : List Known) (o : Option ℕ) → position (known.is_from k.n) ks ≡ o → is_known m (known.learned_at o k ks) ≡ ((k.n == m) || is_known m ks)
known_learned_at m k ks None e = any_split (known.is_of m) ks [] k ∙ ap (λ (t : List Known). (k.n == m) || list_any (known.is_of m) t) (append-nil ks)
known_learned_at m k ks (Some i) e = by (known.is_of k.n (get_or ks i k)) refl where
  by : (b : Bool) → known.is_of k.n (get_or ks i k) ≡ b → is_known m (if b then set ks i k else insert ks i k) ≡ ((k.n == m) || is_known m ks)
  by true f =
      let same : (get_or ks i k).n ≡ k.n = eqb-true (get_or ks i k).n k.n f in
      any_set (known.is_of m) ks i k k (ap (λ (n : ℕ). eqb n m) (sym same)) ∙ absorbs same (k.n == m) refl
    where
      absorbs : (get_or ks i k).n ≡ k.n → (c : Bool) → (k.n == m) ≡ c → is_known m ks ≡ (c || is_known m ks)
      absorbs same true is = list_any_at (known.is_of m) ks i k (position-Some (known.is_from k.n) ks i k e).0 (eq-eqb (get_or ks i k).n m (same ∙ eqb-true k.n m is))
      absorbs same false is = refl
  by false f = any_split (known.is_of m) (take i ks) (drop i ks) k ∙ ap (λ (t : List Known). (k.n == m) || list_any (known.is_of m) t) (take-append-drop i ks)

pub known_learned : (m : ℕ) (k : Known) (ks : List Known) → is_known m (known.learned k ks) ≡ ((k.n == m) || is_known m ks)
known_learned m k ks = known_learned_at m k ks (position (known.is_from k.n) ks) refl

pub known_forgot : (m n : ℕ) (ks : List Known) → is_known m (known.forgotten n ks) ≡ (if n == m then false else is_known m ks)
known_forgot m n [] = none (n == m) where
  none : (b : Bool) → false ≡ (if b then false else false)
  none true = refl
  none false = refl
known_forgot m n (k ∷ ks) = by (k.n == n) refl (known_forgot m n ks) where
  other : (k.n == n) ≡ false → (n == m) ≡ true → (k.n == m) ≡ false
  other differs is = not_true (k.n == m) (λ e. let bad : (k.n == n) ≡ true = eq-eqb k.n n (eqb-true k.n m e ∙ sym (eqb-true n m is)) in absurd (cc (sym differs ∙ bad)))

  this : (k.n == n) ≡ true → (n == m) ≡ false → (k.n == m) ≡ false
  this is differs = not_true (k.n == m) (λ e. let bad : (n == m) ≡ true = eq-eqb n m (sym (eqb-true k.n n is) ∙ eqb-true k.n m e) in absurd (cc (sym differs ∙ bad)))

  dropped : (b : Bool) → (n == m) ≡ b → (k.n == n) ≡ true → (if b then false else is_known m ks) ≡ (if b then false else ((k.n == m) || is_known m ks))
  dropped true e is = refl
  dropped false e is = ap (λ (c : Bool). c || is_known m ks) (sym (this is e))

  kept : (b : Bool) → (n == m) ≡ b → (k.n == n) ≡ false → ((k.n == m) || (if b then false else is_known m ks)) ≡ (if b then false else ((k.n == m) || is_known m ks))
  kept true e differs = ap (λ (c : Bool). c || false) (other differs e)
  kept false e differs = refl

  by : (b : Bool) → (k.n == n) ≡ b → is_known m (known.forgotten n ks) ≡ (if n == m then false else is_known m ks)
      → is_known m (cond (not b) (k ∷ known.forgotten n ks) (known.forgotten n ks)) ≡ (if n == m then false else ((k.n == m) || is_known m ks))
  by true e rest = rest ∙ dropped (n == m) refl e
  by false e rest = ap (λ (c : Bool). (k.n == m) || c) rest ∙ kept (n == m) refl e

pub still_local : (m : ℕ) (ks : List Known) (o : Option ℕ) → is_known m (known.local_gone_at o ks) ≡ is_known m ks
still_local m ks None = refl
still_local m ks (Some i) = any_set (known.is_of m) ks i (record (get_or ks i known.nobody) { local = false }) known.nobody refl

pub still_remote : (m : ℕ) (ks : List Known) (o : Option ℕ) → is_known m (known.remote_gone_at o ks) ≡ is_known m ks
still_remote m ks None = refl
still_remote m ks (Some i) = any_set (known.is_of m) ks i (record (get_or ks i known.nobody) { remote = false }) known.nobody refl

still_off : (m moment : ℕ) (ks : List Known) (o : Option ℕ) → is_known m (known.put_off_at o moment ks) ≡ is_known m ks
still_off m moment ks None = refl
still_off m moment ks (Some i) = any_set (known.is_of m) ks i (record (get_or ks i known.nobody) { finish_at = moment }) known.nobody refl

still_moved : (c : Channel) (n due : ℕ) (m : Messages) (i : ℕ) → is_known i (due_then c n due m).known ≡ is_known i m.known
still_moved Local n due m i = refl
still_moved Remote n due m i = refl

still_gone : (c : Channel) (n : ℕ) (m : Messages) (i : ℕ) → is_known i (file_gone c n m).known ≡ is_known i m.known
still_gone Local n m i = still_local i m.known (position (known.is_of n) m.known)
still_gone Remote n m i = still_remote i m.known (position (known.is_of n) m.known)

-- Which events change nothing of it

abbrev pub Still : NeedData → Type 0
Still due = (got : GotData) (command : List ℕ) (n : ℕ) (was : Bool) → known_by due got command n was ≡ was

stat_still : (x : Name) → ((told : Answer) (n : ℕ) (was : Bool) → looked_for (Some x) told n was ≡ was) → Still (needs.File (call.Stat (path x)))
stat_still x none (came.Answered told) command n was = ap (λ (o : Option Name). looked_for o told.answer n was) (parse-path x) ∙ none told.answer n was
stat_still x none got command n was = refl

pub reading_still : (reading : Reading) (opening : Step) (read : List ℕ) → Still (due_by opening []) → Still (due_by (reading_step reading opening (length read)) [])
reading_still Opening opening read e = e
reading_still (Going fd) opening read e = λ got command n was. refl
reading_still (Closing fd) opening read e = λ got command n was. refl
reading_still (Shutting fd) opening read e = λ got command n was. refl

pub note_still : (row : NoteRow) (w : Writing) → Still (note_due_at row w)
note_still (written.Stat fd) w = stat_still (NameOf BounceFile w.n) (λ told n was. refl)
note_still written.Written w = λ got command n was. refl
note_still row w = λ got command n was. refl

pub return_still : (row : ReturnRow) (r : Returning) → Still (return_due_at row r)
return_still back.Over r = λ got command n was. refl
return_still row r = λ got command n was. refl

pub pass_still : (row : PassRow) (p : Pass) → IsBefore row → Still (pass_table.due_at row p)
pass_still todo.StatMess p is = stat_still (NameOf MessFile p.n) (λ told n was. refl)
pass_still todo.Answer p is = absurd is
pass_still todo.Done p is = λ got command n was. refl
pass_still row p is = λ got command n was. refl

pub mark_still : (row : MarkRow) (m : Marked) (d : Desk) → Still (due_at (at.Mark row m) d)
mark_still mark.Noting m d = note_still d.note.row d.note
mark_still row m d = λ got command n was. refl

pub finish_still : (row : FinishRow) (n : ℕ) (d : Desk) → (row ≡ finish.Take → ⊥) → Still (due_at (at.Finish row n) d)
finish_still finish.Take n d other = absurd (other refl)
finish_still finish.Return n d other = return_still d.bounce.row d.bounce
finish_still finish.Later n d other = λ got command n was. refl
finish_still row n d other = λ got command n was. refl

pub sweep_still : (row : SweepRow) (d : Desk) → ((split n : ℕ) → row ≡ sweep.Take split n → ⊥) → Still (due_at (at.Sweep row) d)
sweep_still (sweep.Take split n) d other = absurd (other split n refl)
sweep_still (sweep.StatMess split n) d other = stat_still (NameOf MessFile n) (λ told n was. refl)
sweep_still (sweep.StatTodo split n) d other = stat_still (NameOf TodoFile n) (λ told n was. refl)
sweep_still (sweep.StatInfo split n todo) d other = stat_still (NameOf InfoFile n) (λ told n was. refl)
sweep_still sweep.First d other = λ got command n was. refl
sweep_still row d other = λ got command n was. refl

pub start_still : (row : StartRow) (d : Desk) → (IsLook row → ⊥) → Still (due_at (at.Start row) d)
start_still (start.Control file reading) d other = reading_still reading (step.OpenControl file) d.book.read (λ got command n was. refl)
start_still (start.ReadInfo split n reading) d other = reading_still reading (step.Open (name.Info n) how.Read) d.book.read (λ got command n was. refl)
start_still (start.StatTodo split n) d other = stat_still (NameOf TodoFile n) (λ told n was. refl)
start_still (start.StatInfo split n) d other = stat_still (NameOf InfoFile n) (λ told n was. refl)
start_still (start.StatLocal split n birth) d other = stat_still (NameOf LocalFile n) (λ told n was. refl)
start_still (start.StatRemote split n birth local) d other = absurd (other tt)
start_still start.GreetLocal d other = λ got command n was. refl
start_still row d other = λ got command n was. refl

pub take_still : (c : Channel) (d : Desk) → Still (due_at (at.TakeLink c) d)
take_still Local d = λ got command n was. refl
take_still Remote d = λ got command n was. refl

pub give_still : (c : Channel) (d : Desk) → Still (due_at (at.Request c) d)
give_still Local d = λ got command n was. refl
give_still Remote d = λ got command n was. refl

-- A message that a sweep has removed isn't known

abbrev UnsweptRow : SweepRow → List Known → Type 0
UnsweptRow (sweep.StatMess split n) ks = is_known n ks ≡ false
UnsweptRow (sweep.StatTodo split n) ks = is_known n ks ≡ false
UnsweptRow (sweep.StatInfo split n todo) ks = is_known n ks ≡ false
UnsweptRow (sweep.Give split n) ks = is_known n ks ≡ false
UnsweptRow (sweep.Take split n) ks = is_known n ks ≡ false
UnsweptRow row ks = Unit {0}

abbrev Unswept : Row → List Known → Type 0
Unswept (at.Sweep row) ks = UnsweptRow row ks
Unswept row ks = Unit {0}

calm_unswept : (row : Row) (ks : List Known) → IsCalm row → Unswept row ks
calm_unswept (at.Sweep sweep.First) ks is = tt
calm_unswept (at.Sweep row) ks is = absurd is
calm_unswept row ks is = tt

arrives_unswept : (d : Desk) (now : ℕ) (ready : Ready) (row : Row) → Unswept row d.book.messages.known → Unswept (arrive row d now ready) d.book.messages.known
arrives_unswept d now ready (at.Turn p) h = calm_unswept (from_point p d now ready) d.book.messages.known (point_calm d now ready p)
arrives_unswept d now ready row h = h

module _ (b : Book) where
  abbrev ks : List Known
  ks = b.messages.known

  row_unswept : (o : Option ℕ) (split : ℕ) → UnsweptRow (sweep_row o split ks) ks
  row_unswept None split = tt
  row_unswept (Some n) split = by (is_known n ks) refl where
    by : (x : Bool) → is_known n ks ≡ x → UnsweptRow (if x then sweep.Next split else sweep.StatMess split n) ks
    by true e = tt
    by false e = e

  next_unswept : (x : Bool) (split : ℕ) → UnsweptRow (if x then sweep.Next (split + 1) else sweep.Over) ks
  next_unswept true split = tt
  next_unswept false split = tt

  swept_unswept : (w : Way) (text : List ℕ) (split : ℕ) → UnsweptRow (swept w text split b) ks
  swept_unswept way.Fine text split = row_unswept (message_number text) split
  swept_unswept way.Over text split = next_unswept (nat_lt split 22) split
  swept_unswept way.Absent text split = next_unswept (nat_lt split 22) split
  swept_unswept way.Broken text split = next_unswept (nat_lt split 22) split
  swept_unswept way.NoMemory text split = next_unswept (nat_lt split 22) split

  mess_unswept : (w : Way) (split n moment now : ℕ) → is_known n ks ≡ false → UnsweptRow (mess_stated w split n moment now) ks
  mess_unswept way.Fine split n moment now h = by (nat_lt (moment + PID_NAME_AGE) now) where
    by : (x : Bool) → UnsweptRow (if x then sweep.StatTodo split n else sweep.Next split) ks
    by true = h
    by false = tt
  mess_unswept way.Over split n moment now h = tt
  mess_unswept way.Absent split n moment now h = tt
  mess_unswept way.Broken split n moment now h = tt
  mess_unswept way.NoMemory split n moment now h = tt

  todo_unswept : (w : Way) (split n : ℕ) → is_known n ks ≡ false → UnsweptRow (todo_stated w split n) ks
  todo_unswept way.Fine split n h = h
  todo_unswept way.Over split n h = tt
  todo_unswept way.Absent split n h = h
  todo_unswept way.Broken split n h = tt
  todo_unswept way.NoMemory split n h = tt

  info_unswept : (w : Way) (split n : ℕ) (todo : Bool) → is_known n ks ≡ false → UnsweptRow (info_stated w split n todo) ks
  info_unswept way.Fine split n todo h = tt
  info_unswept way.Over split n todo h = tt
  info_unswept way.Absent split n true h = tt
  info_unswept way.Absent split n false h = h
  info_unswept way.Broken split n todo h = tt
  info_unswept way.NoMemory split n todo h = tt

  given_unswept : (w : Way) (split n : ℕ) → is_known n ks ≡ false → UnsweptRow (sweep_given w split n) ks
  given_unswept way.Fine split n h = h
  given_unswept way.Over split n h = tt
  given_unswept way.Absent split n h = tt
  given_unswept way.Broken split n h = tt
  given_unswept way.NoMemory split n h = tt

  taken_unswept : (w : Way) (split : ℕ) → UnsweptRow (sweep_taken w split) ks
  taken_unswept way.Fine split = tt
  taken_unswept way.Over split = tt
  taken_unswept way.Absent split = tt
  taken_unswept way.Broken split = tt
  taken_unswept way.NoMemory split = tt

  to_unswept : (row : SweepRow) (now : ℕ) (s : Said) → UnsweptRow row ks → UnsweptRow (sweep_to row now s b) ks
  to_unswept sweep.First now s h = swept_unswept s.way s.bytes 0
  to_unswept (sweep.Next split) now s h = swept_unswept s.way s.bytes split
  to_unswept (sweep.StatMess split n) now s h = mess_unswept s.way split n s.stat.moment now h
  to_unswept (sweep.StatTodo split n) now s h = todo_unswept s.way split n h
  to_unswept (sweep.StatInfo split n todo) now s h = info_unswept s.way split n todo h
  to_unswept (sweep.Give split n) now s h = given_unswept s.way split n h
  to_unswept (sweep.Take split n) now s h = taken_unswept s.way split
  to_unswept sweep.Over now s h = tt
  to_unswept sweep.Lost now s h = tt

at_unswept : (row : SweepRow) (e : Desk) → UnsweptRow row e.book.messages.known → Unswept (sweep_at row e).row (sweep_at row e).book.messages.known
at_unswept sweep.Over e h = calm_unswept (sweep_at sweep.Over e).row (sweep_at sweep.Over e).book.messages.known (calm_over e)
at_unswept sweep.Lost e h = tt
at_unswept sweep.First e h = h
at_unswept (sweep.Next split) e h = h
at_unswept (sweep.StatMess split n) e h = h
at_unswept (sweep.StatTodo split n) e h = h
at_unswept (sweep.StatInfo split n todo) e h = h
at_unswept (sweep.Give split n) e h = h
at_unswept (sweep.Take split n) e h = h

file_unswept : (x : Progress) (c : Channel) (n begun : ℕ) (g : Reading) (now : ℕ) (s : Said) (d : Desk) → let e : Desk = file_read x c n begun g now s d in Unswept e.row e.book.messages.known
file_unswept (Goes more) c n begun g now s d = tt
file_unswept Whole c n begun g now s d =
    let e : Desk = pass_opened (records_of d.book.read) c n begun now d in calm_unswept e.row e.book.messages.known (calm_pass (records_of d.book.read) c n begun now d)
file_unswept Missing c n begun g now s d = tt
file_unswept Failed c n begun g now s d = tt

row_stays : (row : Row) (now : ℕ) (got : GotData) (d : Desk) → MayCome (due_at row d) got → Unswept row d.book.messages.known
    → let e : Desk = act row now got d in Unswept e.row e.book.messages.known
row_stays (at.Turn p) now got d may h = absurd may
row_stays (at.Ended status) now got d may h = absurd may
row_stays (at.ReadFile c n begun reading) now got d may h = file_unswept (read_on reading (said got)) c n (begun_at reading begun now) reading now (said got) d
row_stays (at.Sweep row) now got d may h =
    let e : Desk = looked_up row (said got) (sweep_begun row now d) in
    let same : e.book.messages ≡ d.book.messages = of_looked (λ (m : Messages) (jl jr : List Job). m ≡ d.book.messages) row (said got) now d refl in
    at_unswept (sweep_to row now (said got) d.book) e (subst (λ (m : Messages). UnsweptRow (sweep_to row now (said got) d.book) m.known) (sym same) (to_unswept d.book row now (said got) h))
row_stays (at.Start row) now got d may h = let e : Desk = act (at.Start row) now got d in calm_unswept e.row e.book.messages.known (calm_row (at.Start row) now got d tt)
row_stays (at.TakeLink c) now got d may h = let e : Desk = act (at.TakeLink c) now got d in calm_unswept e.row e.book.messages.known (calm_row (at.TakeLink c) now got d tt)
row_stays (at.Mark row m) now got d may h = let e : Desk = act (at.Mark row m) now got d in calm_unswept e.row e.book.messages.known (calm_row (at.Mark row m) now got d tt)
row_stays (at.UnlinkFile c n p) now got d may h = let e : Desk = act (at.UnlinkFile c n p) now got d in calm_unswept e.row e.book.messages.known (calm_row (at.UnlinkFile c n p) now got d tt)
row_stays (at.Request c) now got d may h = let e : Desk = act (at.Request c) now got d in calm_unswept e.row e.book.messages.known (calm_row (at.Request c) now got d tt)
row_stays (at.FindTodo search) now got d may h = let e : Desk = act (at.FindTodo search) now got d in calm_unswept e.row e.book.messages.known (calm_row (at.FindTodo search) now got d tt)
row_stays at.InTodo now got d may h = let e : Desk = act at.InTodo now got d in calm_unswept e.row e.book.messages.known (calm_row at.InTodo now got d tt)
row_stays (at.Finish row n) now got d may h =
    let e : Desk = act (at.Finish row n) now got d in finish_leads (λ (r : Row). Unswept r e.book.messages.known) (λ r is. calm_unswept r e.book.messages.known is) n (λ r. tt) row now got d

-- A message is forgotten only at the answer to its command

pub not_over : (row : ReturnRow) → returned_to row ≡ finish.Over → ⊥
not_over back.Over e = cc
not_over back.Failed e = cc
not_over row e = cc

pub info_not_over : (w : Way) → finish_to finish.UnlinkInfo w ≡ finish.Over → ⊥
info_not_over way.Fine e = cc
info_not_over w e = cc

pub give_not_over : (w : Way) → finish_to finish.Give w ≡ finish.Over → ⊥
give_not_over way.Fine e = cc
give_not_over w e = cc

-- Each row

abbrev KnowsBy : (ℕ → Bool) → Messages → List Job → List Job → Type 0
KnowsBy of m jl jr = (n : ℕ) → is_known n m.known ≡ of n

works : (of : ℕ → Bool) → Works (KnowsBy of)
works of = record {
  unmarks = λ c n d h. h;
  retries = λ c n job d is h i. still_moved c n (retry_of c n job.begun d) d.book.messages i ∙ h i;
}

module _ (S : ℕ → List ℕ → Type 0) (t : Facts) (d : Desk) (now : ℕ) (of : ℕ → Bool) (h : (n : ℕ) → is_known n d.book.messages.known ≡ of n) where
  abbrev To : Row → GotData → Type 0
  To row got = (n : ℕ) → is_known n (act row now got d).book.messages.known ≡ known_by (due_at row d) got t.births.command n (of n)

  quiet : (row : Row) (got : GotData) → Still (due_at row d) → Of (KnowsBy of) (act row now got d) → To row got
  quiet row got still q = λ n. q n ∙ sym (still got t.births.command n (of n))

  -- passes and unlinks

  later_knows : (c : Channel) (n : ℕ) → Of (KnowsBy of) (put_later c n now d)
  later_knows c n = λ i. still_moved c n (later now) d.book.messages i ∙ h i

  unlink_knows : (w : Way) (c : Channel) (n : ℕ) (p : Point) → Of (KnowsBy of) (unlinked w c n p now d)
  unlink_knows way.Fine c n p = λ i. still_gone c n d.book.messages i ∙ h i
  unlink_knows way.Over c n p = λ i. still_moved c n (later now) d.book.messages i ∙ h i
  unlink_knows way.Absent c n p = λ i. still_moved c n (later now) d.book.messages i ∙ h i
  unlink_knows way.NoMemory c n p = λ i. still_moved c n (later now) d.book.messages i ∙ h i
  unlink_knows way.Broken c n p = λ i. still_moved c n (later now) d.book.messages i ∙ h i

  begun_knows : (c : Channel) (n begun : ℕ) (records : List Record) → Of (KnowsBy of) (has_begun c n begun records d)
  begun_knows Local n begun records = λ i. still_moved Local n never d.book.messages i ∙ h i
  begun_knows Remote n begun records = λ i. still_moved Remote n never d.book.messages i ∙ h i

  pass_knows : (o : Option (List Record)) (c : Channel) (n begun : ℕ) → Of (KnowsBy of) (pass_opened o c n begun now d)
  pass_knows None c n begun = later_knows c n
  pass_knows (Some records) c n begun =
      let after : Desk = has_begun c n begun records d in
      of_if (KnowsBy of) (is_free_for n (lane c d.slots)) (closed_by (job_over n (lane c after.slots)) c n (point.Pass c false) after) (put_later c n now d)
      (of_closed (KnowsBy of) (works of) (job_over n (lane c after.slots)) c n (point.Pass c false) after refl (begun_knows c n begun records)) (later_knows c n)

  file_knows : (x : Progress) (c : Channel) (n begun : ℕ) (g : Reading) (s : Said) → Of (KnowsBy of) (file_read x c n begun g now s d)
  file_knows (Goes more) c n begun g s = h
  file_knows Whole c n begun g s = pass_knows (records_of d.book.read) c n begun
  file_knows Missing c n begun g s = later_knows c n
  file_knows Failed c n begun g s = later_knows c n

  -- a todo pass

  abbrev ToPass : PassRow → Pass → GotData → Type 0
  ToPass row p got = (n : ℕ) → is_known n (todo_went row got (moved_at d.book.controls row p now got) now d).book.messages.known ≡ known_by (pass_table.due_at row p) got t.births.command n (of n)

  stays_on : (row : PassRow) (p : Pass) (got : GotData) → IsBefore row → (n : ℕ)
      → let q : Pass = moved_at d.book.controls row p now got in is_known n (todo_on q.row q now d).book.messages.known ≡ known_by (pass_table.due_at row p) got t.births.command n (of n)
  stays_on row p got is n = let q : Pass = moved_at d.book.controls row p now got in of_on (KnowsBy of) q.row q now d h n ∙ sym (pass_still row p is got t.births.command n (of n))

  or_learnt : (b was : Bool) → (b || was) ≡ (if b && true then true else was)
  or_learnt true was = refl
  or_learnt false was = refl

  not_learnt : (b was : Bool) → was ≡ (if b && false then true else was)
  not_learnt true was = refl
  not_learnt false was = refl

  taken_so : (good : Bool) (p : Pass) → t.births.command ≡ command_text p.n → (n : ℕ)
      → is_known n (todo_over (if good then todo.Done else todo.Left left.Unclean) (pass_table.goes p (if good then todo.Done else todo.Left left.Unclean)) now d).book.messages.known
      ≡ answered t.births.command good n (of n)
  taken_so true p gave n = of_over_pass (KnowsBy (λ (i : ℕ). answered t.births.command true i (of i))) todo.Done (pass_table.goes p todo.Done) now d (λ e. learns) (λ e. absurd (cc)) n where
    learns : (i : ℕ) → is_known i (known.learned (known_of (pass_table.goes p todo.Done)) d.book.messages.known) ≡ answered t.births.command true i (of i)
    learns i =
        known_learned i (known_of (pass_table.goes p todo.Done)) d.book.messages.known
        ∙ ap (λ (b : Bool). (p.n == i) || b) (h i)
        ∙ or_learnt (p.n == i) (of i)
        ∙ ap (λ (b : Bool). if b && true then true else of i) (sym (same_texts command_text one_passed p.n i))
        ∙ ap (λ (text : List ℕ). answered text true i (of i)) (sym gave)
  taken_so false p gave n =
      of_over_pass (KnowsBy of) (todo.Left left.Unclean) (pass_table.goes p (todo.Left left.Unclean)) now d (λ e. absurd (cc)) (λ e. h) n
      ∙ not_learnt (bytes_eq (command_text p.n) (command_text n)) (of n)
      ∙ ap (λ (text : List ℕ). answered text false n (of n)) (sym gave)

  answer_to : (p : Pass) (got : GotData) → MayCome (pass_table.due_at todo.Answer p) got → t.births.command ≡ command_text p.n → ToPass todo.Answer p got
  answer_to p (came.Took bytes) may gave = taken_so (bytes_eq bytes (43 ∷ [])) p gave
  answer_to p came.End may gave = h
  answer_to p came.Failed may gave = h
  answer_to p (came.Answered told) may gave = absurd may
  answer_to p (came.Ended status) may gave = absurd may
  answer_to p came.Crashed may gave = absurd may
  answer_to p came.Gave may gave = absurd may
  answer_to p (came.Started pid) may gave = absurd may
  answer_to p came.Memory may gave = absurd may

  pass_to : (row : PassRow) (p : Pass) (got : GotData) → MayCome (pass_table.due_at row p) got → PassSays S t row p → ToPass row p got
  pass_to todo.Answer p got may says = answer_to p got may says.2
  pass_to (todo.Clear part) p got may says = stays_on (todo.Clear part) p got tt
  pass_to todo.StatMess p got may says = stays_on todo.StatMess p got tt
  pass_to todo.OpenTodo p got may says = stays_on todo.OpenTodo p got tt
  pass_to (todo.ReadTodo fd) p got may says = stays_on (todo.ReadTodo fd) p got tt
  pass_to (todo.CloseTodo fd) p got may says = stays_on (todo.CloseTodo fd) p got tt
  pass_to (todo.Create part) p got may says = stays_on (todo.Create part) p got tt
  pass_to (todo.Append part fd done) p got may says = stays_on (todo.Append part fd done) p got tt
  pass_to (todo.Sync part fd) p got may says = stays_on (todo.Sync part fd) p got tt
  pass_to (todo.Close part fd) p got may says = stays_on (todo.Close part fd) p got tt
  pass_to (todo.Shut fd why) p got may says = stays_on (todo.Shut fd why) p got tt
  pass_to todo.Give p got may says = stays_on todo.Give p got tt
  pass_to todo.Done p got may says = absurd may
  pass_to (todo.Left why) p got may says = absurd may
  pass_to todo.Lost p got may says = absurd may

  -- a finish and the sweep

  delays : (n : ℕ) → Of (KnowsBy of) (put_off_to n (later now) d)
  delays n = λ i. still_off i (later now) d.book.messages.known (position (known.is_of n) d.book.messages.known) ∙ h i

  removed_so : (good : Bool) (n i : ℕ) → t.births.command ≡ remove_text n → (if n == i then false else of i) ≡ answered t.births.command good i (of i)
  removed_so good n i gave =
      ap (λ (b : Bool). if b then false else of i) (sym (same_texts remove_text one_removed n i))
      ∙ ap (λ (text : List ℕ). answered text good i (of i)) (sym gave)

  forgets : (good : Bool) (n : ℕ) → t.births.command ≡ remove_text n → Of (KnowsBy (λ (i : ℕ). answered t.births.command good i (of i))) (forgot n d)
  forgets good n gave = λ i. known_forgot i n d.book.messages.known ∙ ap (λ (b : Bool). if n == i then false else b) (h i) ∙ removed_so good n i gave

  finish_to_so : (row : FinishRow) (n : ℕ) (got : GotData) → MayCome (due_at (at.Finish row n) d) got → FinishSays S t row n → To (at.Finish row n) got
  finish_to_so finish.OpenBounce n got may says =
      let it = bounce_on n now got (return_begun n) d.book in
      quiet (at.Finish finish.OpenBounce n) got (finish_still finish.OpenBounce n d (λ e. cc))
      (of_finish_at (KnowsBy of) (returned_to it.row) n now (record d { bounce = it; busy = true }) (λ e. absurd (not_over it.row e)) (λ e. delays n) h)
  finish_to_so finish.Return n got may says =
      let it = bounce_on n now got d.bounce d.book in
      quiet (at.Finish finish.Return n) got (finish_still finish.Return n d (λ e. cc))
      (of_finish_at (KnowsBy of) (returned_to it.row) n now (record d { bounce = it }) (λ e. absurd (not_over it.row e)) (λ e. delays n) h)
  finish_to_so finish.UnlinkInfo n got may says = quiet (at.Finish finish.UnlinkInfo n) got (finish_still finish.UnlinkInfo n d (λ e. cc))
      (of_finish_at (KnowsBy of) (finish_to finish.UnlinkInfo (said got).way) n now d (λ e. absurd (info_not_over (said got).way e)) (λ e. delays n) h)
  finish_to_so finish.Give n got may says = quiet (at.Finish finish.Give n) got (finish_still finish.Give n d (λ e. cc))
      (of_finish_at (KnowsBy of) (finish_to finish.Give (said got).way) n now d (λ e. absurd (give_not_over (said got).way e)) (λ e. delays n) h)
  finish_to_so finish.Take n (came.Took bytes) may says =
      of_past_finish (KnowsBy (λ (i : ℕ). answered t.births.command (bytes_eq bytes (43 ∷ [])) i (of i))) now (forgot n d) (forgets (bytes_eq bytes (43 ∷ [])) n says)
  finish_to_so finish.Take n came.End may says = h
  finish_to_so finish.Take n came.Failed may says = h
  finish_to_so finish.Take n (came.Answered told) may says = absurd may
  finish_to_so finish.Take n (came.Ended status) may says = absurd may
  finish_to_so finish.Take n came.Crashed may says = absurd may
  finish_to_so finish.Take n came.Gave may says = absurd may
  finish_to_so finish.Take n (came.Started pid) may says = absurd may
  finish_to_so finish.Take n came.Memory may says = absurd may
  finish_to_so finish.Later n got may says = absurd may
  finish_to_so finish.Over n got may says = absurd may
  finish_to_so finish.Lost n got may says = absurd may

  swept_knows : (row : SweepRow) (got : GotData) → Of (KnowsBy of) (act (at.Sweep row) now got d)
  swept_knows row got = of_swept (KnowsBy of) (sweep_to row now (said got) d.book) (looked_up row (said got) (sweep_begun row now d)) (of_looked (KnowsBy of) row (said got) now d h)

  -- of a message that wasn't known nothing changes
  unknown_so : (good : Bool) (n i : ℕ) → t.births.command ≡ remove_text n → is_known n d.book.messages.known ≡ false → of i ≡ answered t.births.command good i (of i)
  unknown_so good n i gave none = by (n == i) refl ∙ removed_so good n i gave where
    by : (b : Bool) → (n == i) ≡ b → of i ≡ (if b then false else of i)
    by true e = ap of (sym (eqb-true n i e)) ∙ sym (h n) ∙ none
    by false e = refl

  sweep_to_so : (row : SweepRow) (got : GotData) → MayCome (due_at (at.Sweep row) d) got → SweepSays S t row → UnsweptRow row d.book.messages.known → To (at.Sweep row) got
  sweep_to_so (sweep.Take split n) (came.Took bytes) may says none = λ i. swept_knows (sweep.Take split n) (came.Took bytes) i ∙ unknown_so (bytes_eq bytes (43 ∷ [])) n i says none
  sweep_to_so (sweep.Take split n) came.End may says none = swept_knows (sweep.Take split n) came.End
  sweep_to_so (sweep.Take split n) came.Failed may says none = swept_knows (sweep.Take split n) came.Failed
  sweep_to_so (sweep.Take split n) (came.Answered told) may says none = absurd may
  sweep_to_so (sweep.Take split n) (came.Ended status) may says none = absurd may
  sweep_to_so (sweep.Take split n) came.Crashed may says none = absurd may
  sweep_to_so (sweep.Take split n) came.Gave may says none = absurd may
  sweep_to_so (sweep.Take split n) (came.Started pid) may says none = absurd may
  sweep_to_so (sweep.Take split n) came.Memory may says none = absurd may
  sweep_to_so row got may says none = quiet (at.Sweep row) got (sweep_still row d (λ split n e. cc)) (swept_knows row got)

  -- the start

  stated_so : (split m birth : ℕ) (local : Bool) (told : Answer) (bytes : List ℕ) → IsAnswerTo (call.Stat (path (NameOf RemoteFile m))) told → (n : ℕ)
      → is_known n (remote_stated (replied told bytes).way split m birth local d.book).messages.known ≡ looked_for (Some (NameOf RemoteFile m)) told n (of n)
  stated_so split m birth local (answer.Stat stat) bytes fit n =
      known_learned n (record { n = m; birth = birth; finish_at = 0; local = local; remote = true; sender = sender_in d.book.read }) d.book.messages.known ∙ ap (λ (b : Bool). (m == n) || b) (h n)
  stated_so split m birth local (answer.Refused why.NotThere) bytes fit n =
      known_learned n (record { n = m; birth = birth; finish_at = 0; local = local; remote = false; sender = sender_in d.book.read }) d.book.messages.known ∙ ap (λ (b : Bool). (m == n) || b) (h n)
  stated_so split m birth local (answer.Refused why.Fault) bytes fit n = h n
  stated_so split m birth local told bytes fit n = absurd fit

  start_so : (row : StartRow) (got : GotData) → MayCome (due_at (at.Start row) d) got → To (at.Start row) got
  start_so (start.StatRemote split m birth local) got may =
      by_file (due_at (at.Start (start.StatRemote split m birth local)) d) tt (To (at.Start (start.StatRemote split m birth local))) got may (λ told fit.
      λ n. stated_so split m birth local told.answer told.bytes fit n ∙ ap (λ (o : Option Name). looked_for o told.answer n (of n)) (sym (parse-path (NameOf RemoteFile m))))
  start_so row got may = quiet (at.Start row) got (start_still row d (λ look. absurd look)) (start_book (λ (m : Messages). (n : ℕ) → is_known n m.known ≡ of n) row (said got) d.book (λ look. absurd look) h)

  row_to : (row : Row) (got : GotData) → MayCome (due_at row d) got → KnowsAt S t row d → Unswept row d.book.messages.known → To row got
  row_to (at.Start row) got may says none = start_so row got may
  row_to (at.Turn p) got may says none = absurd may
  row_to (at.TakeLink c) got may says none = quiet (at.TakeLink c) got (take_still c d) (of_took (KnowsBy of) (works of) (said got).way (said got).bytes c d h)
  row_to (at.Mark row m) got may says none = quiet (at.Mark row m) got (mark_still row m d) (of_mark (KnowsBy of) (works of) row m got d h)
  row_to (at.UnlinkFile c n p) got may says none = quiet (at.UnlinkFile c n p) got (λ g command i was. refl) (unlink_knows (said got).way c n p)
  row_to (at.ReadFile c n begun reading) got may says none = quiet (at.ReadFile c n begun reading) got (reading_still reading (step.Open (file_of c n) how.Read) d.book.read (λ g command i was. refl))
      (file_knows (read_on reading (said got)) c n (begun_at reading begun now) reading (said got))
  row_to (at.Request c) got may says none = quiet (at.Request c) got (give_still c d) (of_requested (KnowsBy of) (said got).way c d h)
  row_to (at.FindTodo search) got may says none = quiet (at.FindTodo search) got (λ g command i was. refl) (of_named (KnowsBy of) (said got).way (said got).bytes search now d h)
  row_to at.InTodo got may says none = pass_to d.pass.row d.pass got may says.1
  row_to (at.Finish row n) got may says none = finish_to_so row n got may says.1
  row_to (at.Sweep row) got may says none = sweep_to_so row got may says.1 none
  row_to (at.Ended status) got may says none = absurd may

known_kept : (turns : Option ℕ) (past : List Own) → IsRunBy (Next turns) past
    → let d : Desk = sender_after turns past in ((n : ℕ) → is_known n d.book.messages.known ≡ known_in past n) × Unswept d.row d.book.messages.known
known_kept turns [] run = ((λ n. refl), tt)
known_kept turns (event ∷ before) run =
    let d : Desk = sender_after turns before in
    let row : Row = row_now d event.read event.ready in
    let was = known_kept turns before run.0 in
    let may : MayCome (due_at row d) event.came = subst (λ (x : NeedData). MayCome x event.came) (sym run.1.0) run.1.1 in
    let says : KnowsAt (IsSaid before) (facts before) row d = arrive_says (IsSaid before) (facts before) d event.read event.ready d.row (all_kept turns before run.0).1 in
    let none : Unswept row d.book.messages.known = arrives_unswept d event.read event.ready d.row was.1 in (
      subst (λ (due : NeedData). (n : ℕ) → is_known n (act row event.read event.came d).book.messages.known ≡ known_by due event.came (births before).command n (known_in before n)) run.1.0
          (row_to (IsSaid before) (facts before) d event.read (known_in before) was.0 row event.came may says none),
      row_stays row event.read event.came d may none,
    )

pub known_exactly : KnownExactly
known_exactly turns past run = (known_kept turns past run).0
