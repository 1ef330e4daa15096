-- When nothing fails for a message on a channel, by the rows of the sender.
use Rattle.std.proofs.Common.{◌≡◌, ℕ, List, [], ◌∷◌, length, nat_lt, bytes_eq, Bool, true, false, if◌then◌else◌, not, Option, Some, None, refl, sym, ap, ◌∙◌, subst, ⊎_elim}
use Rattle.std.specs.Prelude.{is_some, ◌&&◌, ◌==◌}
use Rattle.bounce_record.specs.Writing.{Writing}
use Rattle.call_fs.specs.Columns.{IsAnswerTo}
use Rattle.call_fs.specs.Past.{IsRunBy}
use Rattle.call_fs.specs.Program.{MayCome}
use Rattle.call_fs.specs.declared.calls.Answer.TheVariants as answer
use Rattle.call_fs.specs.declared.calls.Answer.{Answer}
use Rattle.call_fs.specs.declared.calls.CallData.TheVariants as call
use Rattle.call_fs.specs.declared.calls.Fd.{Fd}
use Rattle.call_fs.specs.declared.calls.FsError.TheVariants as why
use Rattle.call_fs.specs.declared.calls.How.TheVariants as how
use Rattle.call_fs.specs.declared.file_system.TheConstants.{PIECE}
use Rattle.call_fs.specs.declared.past.GotData.TheVariants as came
use Rattle.call_fs.specs.declared.past.GotData.{GotData}
use Rattle.call_fs.specs.declared.past.NeedData.TheVariants as needs
use Rattle.call_fs.specs.declared.past.NeedData.{NeedData}
use Rattle.call_fs.specs.declared.past.Own.{Own}
use Rattle.call_fs.specs.declared.program.Port.TheVariants as port
use Rattle.call_fs.specs.declared.program.Ready.{Ready}
use Rattle.queue_paths.specs.Names.Name.{Of}
use Rattle.queue_paths.specs.Names.Part.{Remote as RemoteFile}
use Rattle.queue_paths.specs.Names.{Name, name_of, parse, path}
use Rattle.retry_law.proofs.Beginning.{begins_at}
use Rattle.retry_law.proofs.Left.{act_keeps, by_reading, is_plain, none_keeps, went_keeps}
use Rattle.retry_law.specs.Retries.{IsPlain}
use Rattle.retry_law.specs.Served.{AreServed, IsServed, ServedArePlain, row_at}
use Rattle.send_core.proofs.Asked.{Facts, FinishSays, KnowsAt, SweepSays}
use Rattle.send_core.proofs.Coming.{by_file}
use Rattle.send_core.proofs.Runs.{Was, all_kept, facts, frees, keeps}
use Rattle.send_core.proofs.Says.{arrive_says}
use Rattle.send_core.proofs.Standing.{FitAt, arrives}
use Rattle.send_core.proofs.Turns.{same_end}
use Rattle.send_core.specs.Agrees.{Agrees, is_opened}
use Rattle.send_core.specs.Births.{births}
use Rattle.send_core.specs.Past.{Account, Work, account, work}
use Rattle.send_core.specs.Senders.{IsSaid}
use Rattle.send_core.specs.Start.{entered, start_at}
use Rattle.send_core.specs.Table.{Next, act, arrive, due_at, from_point, place_after}
use Rattle.send_core.specs.Turn.{begun_at, todo_found, todo_named, todo_none}
use Rattle.send_core.specs.declared.desk.Desk.{Desk}
use Rattle.send_parts.specs.declared.row.MarkRow.{MarkRow}
use Rattle.send_parts.specs.declared.row.Marked.{Marked}
use Rattle.send_parts.specs.declared.row.Row.TheVariants as at
use Rattle.send_parts.specs.declared.row.Row.{Row}
use Rattle.send_parts.specs.Channels.{file_of}
use Rattle.send_jobs.specs.Sending.{lane}
use Rattle.send_jobs.specs.declared.attempts.Mark.{Mark}
use Rattle.send_known.specs.declared.channel.Channel.TheVariants.{Local, Remote}
use Rattle.send_known.specs.declared.channel.Channel.{Channel}
use Rattle.send_links.specs.Records.{records_of}
use Rattle.send_parts.specs.Files.{message_number}
use Rattle.send_parts.specs.Readings.{opened, read_more, read_on}
use Rattle.send_parts.specs.Replies.{answered, is_fine, said}
use Rattle.send_parts.specs.Rows.{is_again}
use Rattle.send_parts.specs.declared.reading.Progress.TheVariants.{Goes}
use Rattle.send_parts.specs.declared.reading.Progress.{Progress}
use Rattle.send_parts.specs.declared.reading.Reading.TheVariants.{Closing, Going, Opening, Shutting}
use Rattle.send_parts.specs.declared.reading.Reading.{Reading}
use Rattle.send_parts.specs.declared.reply.Way.TheVariants as way
use Rattle.send_parts.specs.declared.reply.Way.{Way}
use Rattle.send_parts.specs.declared.rows.FinishRow.{FinishRow}
use Rattle.send_parts.specs.declared.rows.Search.{Search}
use Rattle.send_parts.specs.declared.rows.StartRow.TheVariants as start
use Rattle.send_parts.specs.declared.rows.StartRow.{StartRow}
use Rattle.send_parts.specs.declared.rows.SweepRow.{SweepRow}
use Rattle.send_runs.proofs.BeforeAnswer.{IsBefore}
use Rattle.send_runs.proofs.Bridges.{flies_is}
use Rattle.send_runs.proofs.Calm.{IsFresh, point_fresh}
use Rattle.send_runs.proofs.Clearing.{ClearedAt, PassCleared, cleared_here}
use Rattle.send_runs.proofs.Dues.{agreeing, alive_at, arrives_opened}
use Rattle.send_runs.proofs.Quiet.{IsQuiet, quiet_finish, quiet_give, quiet_mark, quiet_pass, quiet_start, quiet_sweep, quiet_take}
use Rattle.send_runs.proofs.Trials.{TrialAt, arrives_trial, trial_kept}
use Rattle.send_runs.specs.DueMoments.Shift.{Begins, Fails, Learns, Same}
use Rattle.send_runs.specs.DueMoments.{Shift, Trial, closed, found, has_unlinked, is_file, is_trial_of, is_whole, shift, shift_by, shift_if, trial, unless_done, unless_opened}
use Rattle.send_runs.specs.Dues.{flies}
use Rattle.todo_pass.specs.Table as pass_table
use Rattle.todo_pass.specs.Table.{Pass, command_text}
use Rattle.todo_pass.specs.declared.row.Row.TheVariants as todo
use Rattle.todo_pass.specs.declared.row.Row.{Row as PassRow}

-- A file that couldn't be read is shut

abbrev shuts : Reading → Bool
shuts (Shutting fd) = true
shuts reading = false

abbrev is_shut : Row → Bool
is_shut (at.ReadFile c n begun reading) = shuts reading
is_shut row = false

plain_unshut : (row : Row) → is_plain row ≡ true → is_shut row ≡ false
plain_unshut (at.ReadFile c n begun reading) e = absurd (cc)
plain_unshut row e = refl

fresh_unshut : (row : Row) → IsFresh row → is_shut row ≡ false
fresh_unshut (at.ReadFile c n begun Opening) is = refl
fresh_unshut (at.ReadFile c n begun reading) is = absurd is
fresh_unshut row is = refl

arrives_unshut : (row : Row) (d : Desk) (now : ℕ) (ready : Ready) → is_shut row ≡ false → is_shut (arrive row d now ready) ≡ false
arrives_unshut (at.Turn p) d now ready e = fresh_unshut (from_point p d now ready) (point_fresh d now ready p)
arrives_unshut row d now ready e = e

start_unshut : (row : StartRow) → is_shut (start_at row) ≡ false
start_unshut start.Over = refl
start_unshut (start.Ended status) = refl
start_unshut row = refl

found_unshut : (o : Option ℕ) (text : List ℕ) (s : Search) (d : Desk) → is_shut (todo_found o text s d).row ≡ false
found_unshut None text s d = refl
found_unshut (Some n) text s d = refl

none_unshut : (again : Bool) (left : List ℕ) (now : ℕ) (d : Desk) → is_shut (todo_none again left now d).row ≡ false
none_unshut again left now d = plain_unshut (todo_none again left now d).row (none_keeps again left now d).1

named_unshut : (w : Way) (text : List ℕ) (s : Search) (now : ℕ) (d : Desk) → is_shut (todo_named w text s now d).row ≡ false
named_unshut way.Fine text s now d = found_unshut (message_number text) text s d
named_unshut way.Over text s now d = none_unshut (is_again s) d.last_left now d
named_unshut way.Absent text s now d = none_unshut (is_again s) d.last_left now d
named_unshut way.Broken text s now d = none_unshut (is_again s) d.last_left now d
named_unshut way.NoMemory text s now d = none_unshut (is_again s) d.last_left now d

abbrev next_in : Progress → Reading
next_in (Goes next) = next
next_in p = Opening

opened_goes : (w : Way) (fd : Fd) (next : Reading) → opened w fd ≡ Goes next → shuts next ≡ false
opened_goes way.Fine fd next e = sym (ap (λ (p : Progress). shuts (next_in p)) e)
opened_goes way.Absent fd next e = absurd (cc)
opened_goes way.Over fd next e = absurd (cc)
opened_goes way.Broken fd next e = absurd (cc)
opened_goes way.NoMemory fd next e = absurd (cc)

piece_goes : (b : Bool) (fd : Fd) → shuts (next_in (if b then Goes (Closing fd) else Goes (Going fd))) ≡ false
piece_goes true fd = refl
piece_goes false fd = refl

more_goes : (w : Way) (fd : Fd) (bytes : List ℕ) (next : Reading) → is_fine w ≡ true → read_more w fd bytes ≡ Goes next → shuts next ≡ false
more_goes way.Fine fd bytes next fine e = sym (ap (λ (p : Progress). shuts (next_in p)) e) ∙ piece_goes (nat_lt (length bytes) PIECE) fd
more_goes way.Absent fd bytes next fine e = absurd (cc)
more_goes way.Over fd bytes next fine e = absurd (cc)
more_goes way.Broken fd bytes next fine e = absurd (cc)
more_goes way.NoMemory fd bytes next fine e = absurd (cc)

-- what a row asks for, so that no file is shut
abbrev Reads : Row → GotData → Type 0
Reads (at.ReadFile c n begun (Going fd)) got = is_fine (said got).way ≡ true
Reads row got = Unit {0}

reading_goes : (reading : Reading) (c : Channel) (n begun : ℕ) (got : GotData) → Reads (at.ReadFile c n begun reading) got → (next : Reading) → read_on reading (said got) ≡ Goes next → shuts next ≡ false
reading_goes Opening c n begun got fine next e = opened_goes (said got).way (said got).fd next e
reading_goes (Going fd) c n begun got fine next e = more_goes (said got).way fd (said got).bytes next fine e
reading_goes (Closing fd) c n begun got fine next e = absurd (cc)
reading_goes (Shutting fd) c n begun got fine next e = absurd (cc)

act_unshut : (row : Row) (now : ℕ) (got : GotData) (d : Desk) → MayCome (due_at row d) got → Reads row got → is_shut (act row now got d).row ≡ false
act_unshut (at.Start row) now got d may fine = start_unshut (entered row (said got) d).book.row
act_unshut (at.Turn p) now got d may fine = absurd may
act_unshut (at.ReadFile c n begun reading) now got d may fine =
    by_reading (λ (x : Desk). is_shut x.row ≡ false) (read_on reading (said got)) c n (begun_at reading begun now) reading now (said got) d
    (λ next is. reading_goes reading c n begun got fine next is) (λ x k. plain_unshut x.row k.1)
act_unshut (at.FindTodo s) now got d may fine = named_unshut (said got).way (said got).bytes s now d
act_unshut at.InTodo now got d may fine =
    let row : Row = (act at.InTodo now got d).row in
    ⊎_elim (λ (plain : is_plain row ≡ true). plain_unshut row plain) (λ (goes : row ≡ at.InTodo). ap is_shut goes) (went_keeps d.book.controls d.pass.row d.pass got now d).1
act_unshut (at.Ended status) now got d may fine = absurd may
act_unshut row now got d may fine = plain_unshut (act row now got d).row (act_keeps row now got d tt).1

-- Which events fail

same_not : {A : Type 0} (b : Bool) → shift_if b Same ≡ Fails → A
same_not true e = absurd (cc)
same_not false e = absurd (cc)

learns_not : {A : Type 0} (b : Bool) (moment : ℕ) → shift_if b (Learns moment) ≡ Fails → A
learns_not true moment e = absurd (cc)
learns_not false moment e = absurd (cc)

begins_not : {A : Type 0} (b : Bool) (begun : ℕ) → shift_if b (Begins begun) ≡ Fails → A
begins_not true begun e = absurd (cc)
begins_not false begun e = absurd (cc)

found_not : {A : Type 0} (x : Option Name) (told : Answer) (n : ℕ) → found x told n ≡ Fails → A
found_not (Some (Of RemoteFile m)) (answer.Stat stat) n e = learns_not (m == n) 0 e
found_not (Some (Of RemoteFile m)) (answer.Refused why.NotThere) n e = learns_not (m == n) 0 e
found_not x told n e = absurd (cc)

quiet_not : {A : Type 0} (s : Shift) → IsQuiet s → s ≡ Fails → A
quiet_not Same is e = absurd (cc)
quiet_not (Learns moment) is e = absurd is
quiet_not (Begins begun) is e = absurd is
quiet_not Fails is e = absurd is

open_not : {A : Type 0} (b : Bool) (name : List ℕ) (told : Answer) (bytes : List ℕ) → IsAnswerTo (call.Open name how.Read) told → is_fine (answered told bytes).way ≡ true → shift_if b (unless_opened told) ≡ Fails → A
open_not b name (answer.Opened fd) bytes fit fine e = same_not b e
open_not b name (answer.Refused why.NotThere) bytes fit fine e = absurd (cc)
open_not b name (answer.Refused why.Fault) bytes fit fine e = absurd (cc)
open_not b name (answer.Refused why.Memory) bytes fit fine e = absurd (cc)
open_not b name (answer.Refused why.Exists) bytes fit fine e = absurd (cc)
open_not b name told bytes fit fine e = absurd fit

unlink_not : {A : Type 0} (b : Bool) (name : List ℕ) (told : Answer) (bytes : List ℕ) → IsAnswerTo (call.Unlink name) told → is_fine (answered told bytes).way ≡ true → shift_if b (unless_done told) ≡ Fails → A
unlink_not b name answer.Done bytes fit fine e = same_not b e
unlink_not b name (answer.Refused why.NotThere) bytes fit fine e = absurd (cc)
unlink_not b name (answer.Refused why.Fault) bytes fit fine e = absurd (cc)
unlink_not b name (answer.Refused why.Memory) bytes fit fine e = absurd (cc)
unlink_not b name (answer.Refused why.Exists) bytes fit fine e = absurd (cc)
unlink_not b name told bytes fit fine e = absurd fit

-- what a row asks for, so that nothing fails
abbrev Serves : Row → GotData → List ℕ → Type 0
Serves (at.ReadFile c n begun Opening) got read = is_fine (said got).way ≡ true
Serves (at.ReadFile c n begun (Closing fd)) got read = is_some (records_of read) ≡ true
Serves (at.UnlinkFile c n p) got read = is_fine (said got).way ≡ true
Serves row got read = Unit {0}

module _ (Q : MarkRow → Option Mark → Marked → Writing → Type 0) (S : ℕ → List ℕ → Type 0) (t : Facts) (d : Desk) (now : ℕ) (clears : Bool) (f : Option Work) (tr : Option Trial) (al ar : Account) (c : Channel) (n : ℕ) where
  abbrev command : List ℕ
  command = t.births.command

  abbrev FailsAt : Row → GotData → Type 0
  FailsAt row got = shift_by c n now command clears f tr (due_at row d) got ≡ Fails

  -- where no channel file is read
  quietly : {A : Type 0} (row : Row) (got : GotData) → tr ≡ None → IsQuiet (shift_by c n now command clears f None (due_at row d) got) → FailsAt row got → A
  quietly row got none quiet e =
      quiet_not (shift_by c n now command clears f None (due_at row d) got) quiet (ap (λ (o : Option Trial). shift_by c n now command clears f o (due_at row d) got) (sym none) ∙ e)

  start_fails : {A : Type 0} (row : StartRow) (got : GotData) → MayCome (due_at (at.Start row) d) got → tr ≡ None → FailsAt (at.Start row) got → A
  start_fails {A} (start.StatRemote split k birth local) got may none e =
      let row : Row = at.Start (start.StatRemote split k birth local) in
      by_file (due_at row d) tt (λ g. FailsAt row g → A) got may (λ told fit e. found_not (parse (path (Of RemoteFile k))) told.answer n e) e
  start_fails (start.Control file reading) got may none e = quietly (at.Start (start.Control file reading)) got none (quiet_start c n now command clears f (start.Control file reading) d (λ x. absurd x) got) e
  start_fails start.GreetLocal got may none e = quietly (at.Start start.GreetLocal) got none (quiet_start c n now command clears f start.GreetLocal d (λ x. absurd x) got) e
  start_fails (start.GreetRemote limit) got may none e = quietly (at.Start (start.GreetRemote limit)) got none (quiet_start c n now command clears f (start.GreetRemote limit) d (λ x. absurd x) got) e
  start_fails (start.Scan split) got may none e = quietly (at.Start (start.Scan split)) got none (quiet_start c n now command clears f (start.Scan split) d (λ x. absurd x) got) e
  start_fails (start.StatTodo split k) got may none e = quietly (at.Start (start.StatTodo split k)) got none (quiet_start c n now command clears f (start.StatTodo split k) d (λ x. absurd x) got) e
  start_fails (start.ReadInfo split k reading) got may none e = quietly (at.Start (start.ReadInfo split k reading)) got none (quiet_start c n now command clears f (start.ReadInfo split k reading) d (λ x. absurd x) got) e
  start_fails (start.StatInfo split k) got may none e = quietly (at.Start (start.StatInfo split k)) got none (quiet_start c n now command clears f (start.StatInfo split k) d (λ x. absurd x) got) e
  start_fails (start.StatLocal split k birth) got may none e = quietly (at.Start (start.StatLocal split k birth)) got none (quiet_start c n now command clears f (start.StatLocal split k birth) d (λ x. absurd x) got) e
  start_fails start.Over got may none e = absurd may
  start_fails (start.Ended status) got may none e = absurd may

  answer_fails : {A : Type 0} (got : GotData) → shift_by c n now command clears f tr (needs.Take port.Clean) got ≡ Fails → A
  answer_fails (came.Took bytes) e = learns_not (bytes_eq command (command_text n) && bytes_eq bytes (43 ∷ [])) now e
  answer_fails got e = absurd (cc)

  pass_quiet : (row : PassRow) (p : Pass) (got : GotData) → IsBefore row → PassCleared row clears → IsQuiet (shift_by c n now command clears f None (pass_table.due_at row p) got)
  pass_quiet row p got is cleared = quiet_pass c n now command clears f row p is cleared got

  abbrev PassFails : PassRow → Pass → GotData → Type 0
  PassFails row p got = shift_by c n now command clears f tr (pass_table.due_at row p) got ≡ Fails

  pass_quietly : {A : Type 0} (row : PassRow) (p : Pass) (got : GotData) → IsBefore row → PassCleared row clears → tr ≡ None → PassFails row p got → A
  pass_quietly row p got is cleared none e =
      quiet_not (shift_by c n now command clears f None (pass_table.due_at row p) got) (pass_quiet row p got is cleared)
      (ap (λ (o : Option Trial). shift_by c n now command clears f o (pass_table.due_at row p) got) (sym none) ∙ e)

  pass_fails : {A : Type 0} (row : PassRow) (p : Pass) (got : GotData) → PassCleared row clears → tr ≡ None → PassFails row p got → A
  pass_fails todo.Answer p got cleared none e = answer_fails got e
  pass_fails row p got cleared none e = pass_quietly row p got tt cleared none e

  file_fails : {A : Type 0} (x : Channel) (k m : ℕ) (reading : Reading) (got : GotData) → MayCome (due_at (at.ReadFile x k m reading) d) got → FitAt Q f al ar (at.ReadFile x k m reading) d → TrialAt (at.ReadFile x k m reading) tr
      → shuts reading ≡ false → Serves (at.ReadFile x k m reading) got d.book.read → FailsAt (at.ReadFile x k m reading) got → A
  file_fails {A} x k m Opening got may fit tried unshut serves e =
      let row : Row = at.ReadFile x k m Opening in
      by_file (due_at row d) tt (λ g. is_fine (said g).way ≡ true → FailsAt row g → A) got may
      (λ told answers fine e. open_not (is_file c n (parse (path (name_of (file_of x k))))) (path (name_of (file_of x k))) told.answer told.bytes answers fine e) serves e
  file_fails {A} x k m (Going fd) got may fit tried unshut serves e =
      let row : Row = at.ReadFile x k m (Going fd) in by_file (due_at row d) tt (λ g. FailsAt row g → A) got may (λ told answers e. absurd (cc)) e
  file_fails {A} x k m (Closing fd) got may fit tried unshut serves e =
      let row : Row = at.ReadFile x k m (Closing fd) in
      by_file (due_at row d) tt (λ g. FailsAt row g → A) got may
      (λ told answers e.
      let whole : is_whole f fd ≡ true = ap (λ (w : Option Work). is_whole w fd) fit.2 ∙ ap (λ (b : Bool). b && is_some (records_of d.book.read)) (same_end fd.0) ∙ serves in
      begins_not (is_trial_of c n (record { channel = x; n = k; begun = m })) m
      (ap (λ (b : Bool). closed (Some (record { channel = x; n = k; begun = m })) b c n) (sym whole) ∙ ap (λ (o : Option Trial). closed o (is_whole f fd) c n) (sym tried) ∙ e))
      e
  file_fails x k m (Shutting fd) got may fit tried unshut serves e = absurd (cc)

  fails_not : {A : Type 0} (row : Row) (got : GotData) → MayCome (due_at row d) got → FitAt Q f al ar row d → KnowsAt S t row d → TrialAt row tr → ClearedAt row d.pass clears → is_shut row ≡ false → Serves row got d.book.read
      → FailsAt row got → A
  fails_not (at.Start row) got may fit says tried cleared unshut serves e = start_fails row got may tried e
  fails_not (at.Turn p) got may fit says tried cleared unshut serves e = absurd may
  fails_not (at.TakeLink x) got may fit says tried cleared unshut serves e = quietly (at.TakeLink x) got tried (quiet_take c x n now command clears f d got) e
  fails_not (at.Mark row m) got may fit says tried cleared unshut serves e = quietly (at.Mark row m) got tried (quiet_mark c n now command clears f row m d got) e
  fails_not {A} (at.UnlinkFile x k p) got may fit says tried cleared unshut serves e =
      let row : Row = at.UnlinkFile x k p in
      by_file (due_at row d) tt (λ g. is_fine (said g).way ≡ true → FailsAt row g → A) got may
      (λ told answers fine e. unlink_not (not clears && is_file c n (parse (path (name_of (file_of x k))))) (path (name_of (file_of x k))) told.answer told.bytes answers fine e) serves e
  fails_not (at.ReadFile x k m reading) got may fit says tried cleared unshut serves e = file_fails x k m reading got may fit tried unshut serves e
  fails_not (at.Request x) got may fit says tried cleared unshut serves e = quietly (at.Request x) got tried (quiet_give c x n now command clears f d got) e
  fails_not (at.FindTodo s) got may fit says tried cleared unshut serves e = absurd (cc)
  fails_not at.InTodo got may fit says tried cleared unshut serves e = pass_fails d.pass.row d.pass got cleared tried e
  fails_not (at.Finish row k) got may fit says tried cleared unshut serves e =
      quietly (at.Finish row k) got tried (quiet_finish c n now command clears f row k d (λ x. subst (λ (y : FinishRow). FinishSays S t y k) x says.1) got) e
  fails_not (at.Sweep row) got may fit says tried cleared unshut serves e =
      quietly (at.Sweep row) got tried (quiet_sweep c n now command clears f row d (λ split k x. subst (λ (y : SweepRow). SweepSays S t y) x says.1) got) e
  fails_not (at.Ended status) got may fit says tried cleared unshut serves e = absurd may

-- At each event

module _ (turns : Option ℕ) where
  reads_of : (past : List Own) (event : Own) → IsServed turns past event → (row : Row) → row_at turns past event ≡ row → Reads row event.came
  reads_of past event is (at.ReadFile c n begun (Going fd)) e = is.read c n begun fd e
  reads_of past event is row e = tt

  serves_of : (past : List Own) (event : Own) → IsServed turns past event → (row : Row) → row_at turns past event ≡ row → Serves row event.came (place_after turns past).book.read
  serves_of past event is (at.ReadFile c n begun Opening) e = is.opened c n begun e
  serves_of past event is (at.ReadFile c n begun (Closing fd)) e = is.whole c n begun fd e
  serves_of past event is (at.UnlinkFile c n p) e = is.unlinked c n p e
  serves_of past event is row e = tt

  may_at : (past : List Own) (event : Own) → IsRunBy (Next turns) (event ∷ past) → MayCome (due_at (row_at turns past event) (place_after turns past)) event.came
  may_at past event run = subst (λ (x : NeedData). MayCome x event.came) (sym run.1.0) run.1.1

  unshut : (past : List Own) → IsRunBy (Next turns) past → AreServed turns past → is_shut (place_after turns past).row ≡ false
  unshut [] run served = refl
  unshut (event ∷ before) run served =
      let d : Desk = place_after turns before in
      act_unshut (row_at turns before event) event.read event.came d (may_at before event run) (reads_of before event served.1 (row_at turns before event) refl)

  module _ (event : Own) (past : List Own) (run : IsRunBy (Next turns) (event ∷ past)) (served : AreServed turns past) (is : IsServed turns past event) (c : Channel) (n : ℕ) where
    abbrev d : Desk
    d = place_after turns past

    abbrev row : Row
    row = row_at turns past event

    fit : FitAt (Was past) (work past) (account Local past) (account Remote past) row d
    fit = (arrives (Was past) (work past) (account Local past) (account Remote past) (frees past) d.row d event.read event.ready (keeps turns past run.0).0)

    tried : TrialAt row (trial past)
    tried = arrives_trial d.row (trial past) d event.read event.ready (trial_kept turns past run.0)

    abbrev By : NeedData → Shift
    By due = shift_by c n event.read (births past).command (has_unlinked past) (work past) (trial past) due event.came

    done : {A : Type 0} → shift c n past event ≡ Fails → A
    done e = fails_not (Was past) (IsSaid past) (facts past) d event.read (has_unlinked past) (work past) (trial past) (account Local past) (account Remote past) c n row event.came (may_at past event run) fit
        (arrive_says (IsSaid past) (facts past) d event.read event.ready d.row (all_kept turns past run.0).1) tried (cleared_here turns past event.read event.ready run.0)
        (arrives_unshut d.row d event.read event.ready (unshut past run.0 served)) (serves_of past event is row refl) (ap By run.1.0 ∙ e)

    alone : (begun : ℕ) → shift c n past event ≡ Begins begun → flies n (account c past) ≡ false
    alone begun e =
        let w = begins_at (Was past) d event.read (births past).command (has_unlinked past) (work past) (trial past) (λ x. account x past) c n begun row event.came (may_at past event run) fit tried (ap By run.1.0 ∙ e) in
        let known = agreeing turns past run.0 (alive_at turns past event run) c in
        let agrees : Agrees (account c past) false (lane c d.slots) =
        subst (λ (r : Row). Agrees (account c past) (is_opened r c) (lane c d.slots)) w.2 (subst (λ (x : Bool). Agrees (account c past) x (lane c d.slots)) (sym (arrives_opened turns d.row d event.read event.ready c)) known.0) in
        flies_is n (lane c d.slots) (account c past) agrees known.1 ∙ is.alone c n w.0 w.1 w.2

    plain : IsPlain c n past event
    plain = record { done = λ e. done e; alone = alone }

pub served_are_plain : ServedArePlain
served_are_plain turns [] run served c n = tt
served_are_plain turns (event ∷ past) run served c n = (served_are_plain turns past run.0 served.0 c n, plain turns event past run served.0 served.1 c n)
