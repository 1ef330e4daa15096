-- The events of the search of `todo` and of a todo pass, over all that the sender relies on.
use Rattle.std.proofs.Common.{◌≡◌, ◌≢◌, ℕ, List, [], ◌∷◌, take, Bool, true, false, Option, Some, None, refl, sym, ap, ◌∙◌, subst}
use Rattle.std.specs.Prelude.{◌+◌, Err, Ok, Result, bytes_eq, if◌then◌else◌, length, nat_lt}
use Rattle.std.proofs.lemmas.List.Elements.{All-weaker}
use Rattle.address_rules.specs.declared.controls.Controls.{Controls}
use Rattle.call_fs.specs.declared.calls.Answer.{Answer}
use Rattle.call_fs.specs.declared.calls.Answer.TheVariants as answer
use Rattle.call_fs.specs.declared.calls.CallData.{CallData}
use Rattle.call_fs.specs.declared.calls.Fd.{Fd}
use Rattle.call_fs.specs.declared.calls.CallData.TheVariants.{NextName}
use Rattle.call_fs.specs.declared.calls.FsError.TheVariants as why
use Rattle.call_fs.specs.declared.calls.Told.{Told}
use Rattle.call_fs.specs.declared.past.GotData.{GotData}
use Rattle.call_fs.specs.declared.past.GotData.TheVariants as came
use Rattle.call_fs.specs.declared.past.GotData.TheVariants.{Answered}
use Rattle.call_fs.specs.declared.past.NeedData.TheVariants as needs
use Rattle.call_fs.specs.declared.program.Port.{Port}
use Rattle.call_fs.specs.declared.program.Ready.{Ready}
use Rattle.call_fs.specs.Apply.{Fits, IsReadBy}
use Rattle.mail_bytes.specs.Decimal.{digits}
use Rattle.queue_paths.specs.Parts.{in_todo}
use Rattle.send_core.specs.declared.desk.Desk.{Desk}
use Rattle.send_parts.specs.declared.row.Row.TheVariants as at
use Rattle.send_core.specs.Table.{act, due_at, search_words}
use Rattle.send_core.specs.Turn.{known_of, todo_found, todo_named, todo_none, todo_on, todo_over, todo_went}
use Rattle.send_known.specs.declared.channel.Channel.{Channel}
use Rattle.send_jobs.specs.declared.jobs.Job.{Job}
use Rattle.send_jobs.specs.Jobs.{job_of}
use Rattle.send_jobs.specs.Sending.{lane}
use Rattle.send_known.specs.declared.known.Known.{Known}
use Rattle.send_known.specs.Messages.{learned}
use Rattle.send_parts.specs.declared.dir.Dir.TheVariants as dir
use Rattle.send_parts.specs.declared.rows.Search.{Search}
use Rattle.send_parts.specs.declared.rows.Search.TheVariants as searches
use Rattle.send_parts.specs.Files.{message_number}
use Rattle.send_parts.specs.Replies.{answered as told_as}
use Rattle.send_parts.specs.Rows.{is_again}
use Rattle.send_parts.specs.Steps.{dir_text}
use Rattle.todo_pass.specs.declared.part.Target.{Target}
use Rattle.todo_pass.specs.declared.part.Target.TheVariants as target
use Rattle.todo_pass.specs.declared.row.Row.{Row as PassRow}
use Rattle.todo_pass.specs.declared.row.Row.TheVariants as todo
use Rattle.todo_pass.specs.declared.row.Why.{Why}
use Rattle.todo_pass.specs.declared.row.Why.TheVariants as left
use Rattle.todo_pass.specs.declared.sorted.Sorted.{Sorted}
use Rattle.todo_pass.specs.Disks.{HoldsTodo}
use Rattle.todo_pass.specs.Sorting.{has, sort_todo, text_of}
use Rattle.todo_pass.specs.Table.{Pass, answer_row, answered, appended, begun, clear_row, create_row, local_row, made_row, moved, moved_at, open_row, piece_size, read, remote_row, sorted_with, stated, sync_row, due_at as due_of, goes as pass_goes}
use Rattle.todo_pass.proofs.Made.{numbered}
use Rattle.queue_law.specs.Books.{own_call}
use Rattle.queue_law.specs.Entered.{Child}
use Rattle.queue_law.specs.Numbers.{IsPreprocessed, IsQueued, Queue, Role, about, Sound}
use Rattle.queue_law.specs.Rests.{RestsAs}
use Rattle.queue_law.specs.Senders.{called_queue, entered_queue}
use Rattle.queue_law.proofs.Sends.{reads_keep}
use Rattle.program_law.specs.Sender.InTodo.{IsExpected, PassGoesOn, TodoStands}
use Rattle.program_law.specs.Sender.Knows.{IsKnown, Serves}
use Rattle.program_law.specs.Sender.Rows.{HasNoJob, HasNoMarks}
use Rattle.program_law.specs.Sender.Stands.{SenderLeads, SenderStands, StandsAt}
use Rattle.program_law.proofs.Sender.Closes.{none_closed, one_closed}
use Rattle.program_law.proofs.Sender.Desks.{OnDesk, on_of, stand}
use Rattle.program_law.proofs.Sender.Gone.{desk_grown, file_call}
use Rattle.program_law.proofs.Sender.Learned.{learned_on}
use Rattle.program_law.proofs.Sender.Passes.{grown_by}
use Rattle.program_law.proofs.Sender.Far.{due_far, far_by, lane_far}
use Rattle.program_law.proofs.Sender.Known.{done_is_known}
use Rattle.program_law.proofs.Sender.Passing.{passes_give, passes_go_on, search_begins}
use Rattle.program_law.proofs.Sender.Turning.{past_todo_on}
use Rattle.program_law.proofs.Sender.Entries.{one_grown}
use Rattle.send_core.specs.Booked.{booked_at, routed_at}
use Rattle.program_law.specs.Sender.Takings.{booked_queue}
use Rattle.program_law.specs.Sender.Takings.LeadsThrough.{Goes, Stays}
use Rattle.program_law.specs.Sender.Whole.{SenderTakes}
use Rattle.queue_law.specs.Ledgers.Line.{Routes}

-- No call of a pass leads to its answer

abbrev NotAnswer : PassRow → Type 0
NotAnswer todo.Answer = ⊥
NotAnswer row = Unit {0}

clear_far : (t : Target) (told : Answer) → NotAnswer (clear_row t told)
clear_far target.Info answer.Done = tt
clear_far target.Local answer.Done = tt
clear_far target.Remote answer.Done = tt
clear_far target.Info (answer.Refused why.NotThere) = tt
clear_far target.Local (answer.Refused why.NotThere) = tt
clear_far target.Remote (answer.Refused why.NotThere) = tt
clear_far t (answer.Refused why.Exists) = tt
clear_far t (answer.Refused why.Memory) = tt
clear_far t (answer.Refused why.Fault) = tt
clear_far t (answer.Created fd n) = tt
clear_far t (answer.Opened fd) = tt
clear_far t (answer.Count k) = tt
clear_far t (answer.Stat s) = tt
clear_far t (answer.Name n) = tt
clear_far t answer.NoName = tt

stat_far : (p : Pass) (told : Answer) → NotAnswer (stated p told).row
stat_far p answer.Done = tt
stat_far p (answer.Refused why.NotThere) = tt
stat_far p (answer.Refused why.Exists) = tt
stat_far p (answer.Refused why.Memory) = tt
stat_far p (answer.Refused why.Fault) = tt
stat_far p (answer.Created fd n) = tt
stat_far p (answer.Opened fd) = tt
stat_far p (answer.Count k) = tt
stat_far p (answer.Stat s) = tt
stat_far p (answer.Name n) = tt
stat_far p answer.NoName = tt

open_far : (told : Answer) → NotAnswer (open_row told)
open_far answer.Done = tt
open_far (answer.Refused e) = tt
open_far (answer.Created fd n) = tt
open_far (answer.Opened fd) = tt
open_far (answer.Count k) = tt
open_far (answer.Stat s) = tt
open_far (answer.Name n) = tt
open_far answer.NoName = tt

piece_far : (b : Bool) (fd : Fd) → NotAnswer (if b then todo.CloseTodo fd else todo.ReadTodo fd)
piece_far true fd = tt
piece_far false fd = tt

read_far : (p : Pass) (fd : Fd) (told : Answer) (bytes : List ℕ) → NotAnswer (read p fd told bytes).row
read_far p fd (answer.Count k) bytes = piece_far (nat_lt (length bytes) piece_size) fd
read_far p fd answer.Done bytes = tt
read_far p fd (answer.Refused e) bytes = tt
read_far p fd (answer.Created f n) bytes = tt
read_far p fd (answer.Opened f) bytes = tt
read_far p fd (answer.Stat s) bytes = tt
read_far p fd (answer.Name n) bytes = tt
read_far p fd answer.NoName bytes = tt

sorted_far : (p : Pass) (r : Result Sorted ℕ) → NotAnswer (sorted_with p r).row
sorted_far p (Ok s) = tt
sorted_far p (Err place) = tt

create_far : (t : Target) (told : Answer) → NotAnswer (create_row t told)
create_far t (answer.Created fd n) = tt
create_far t answer.Done = tt
create_far t (answer.Refused e) = tt
create_far t (answer.Opened fd) = tt
create_far t (answer.Count k) = tt
create_far t (answer.Stat s) = tt
create_far t (answer.Name n) = tt
create_far t answer.NoName = tt

next_far : (b : Bool) (t : Target) (fd : Fd) (done : ℕ) → NotAnswer (if b then todo.Append t fd done else todo.Sync t fd)
next_far true t fd done = tt
next_far false t fd done = tt

append_far : (p : Pass) (t : Target) (fd : Fd) (done now : ℕ) (told : Answer) → NotAnswer (appended p t fd done now told).row
append_far p t fd done now answer.Done = next_far (nat_lt (done + piece_size) (length (text_of p.sorted t))) t fd (done + piece_size)
append_far p t fd done now (answer.Refused e) = tt
append_far p t fd done now (answer.Created f n) = tt
append_far p t fd done now (answer.Opened f) = tt
append_far p t fd done now (answer.Count k) = tt
append_far p t fd done now (answer.Stat s) = tt
append_far p t fd done now (answer.Name n) = tt
append_far p t fd done now answer.NoName = tt

sync_far : (t : Target) (fd : Fd) (told : Answer) → NotAnswer (sync_row t fd told)
sync_far t fd answer.Done = tt
sync_far t fd (answer.Refused e) = tt
sync_far t fd (answer.Created f n) = tt
sync_far t fd (answer.Opened f) = tt
sync_far t fd (answer.Count k) = tt
sync_far t fd (answer.Stat s) = tt
sync_far t fd (answer.Name n) = tt
sync_far t fd answer.NoName = tt

remote_far : (b : Bool) → NotAnswer (remote_row b)
remote_far true = tt
remote_far false = tt

local_far : (b remote : Bool) → NotAnswer (local_row b remote)
local_far true remote = tt
local_far false remote = remote_far remote

made_far : (t : Target) (s : Sorted) → NotAnswer (made_row t s)
made_far target.Info s = local_far (has s.local) (has s.remote)
made_far target.Local s = remote_far (has s.remote)
made_far target.Remote s = tt

-- a row at which a call is due, or nothing is
abbrev IsCall : PassRow → Type 0
IsCall todo.Give = ⊥
IsCall todo.Answer = ⊥
IsCall row = Unit {0}

call_far : (controls : Controls) (row : PassRow) (p : Pass) (now : ℕ) (told : Answer) (bytes : List ℕ) → p.row ≡ row → IsCall row
    → NotAnswer (answered controls row p now told bytes).row
call_far controls (todo.Clear t) p now told bytes e c = clear_far t told
call_far controls todo.StatMess p now told bytes e c = stat_far p told
call_far controls todo.OpenTodo p now told bytes e c = open_far told
call_far controls (todo.ReadTodo fd) p now told bytes e c = read_far p fd told bytes
call_far controls (todo.CloseTodo fd) p now told bytes e c = sorted_far p (sort_todo controls p.todo)
call_far controls (todo.Create t) p now told bytes e c = create_far t told
call_far controls (todo.Append t fd done) p now told bytes e c = append_far p t fd done now told
call_far controls (todo.Sync t fd) p now told bytes e c = sync_far t fd told
call_far controls (todo.Close t fd) p now told bytes e c = made_far t p.sorted
call_far controls (todo.Shut fd why) p now told bytes e c = tt
call_far controls todo.Give p now told bytes e c = absurd c
call_far controls todo.Answer p now told bytes e c = absurd c
call_far controls todo.Done p now told bytes e c = subst NotAnswer (sym e) tt
call_far controls (todo.Left why) p now told bytes e c = subst NotAnswer (sym e) tt
call_far controls todo.Lost p now told bytes e c = subst NotAnswer (sym e) tt

same_moved : (controls : Controls) (row : PassRow) (p : Pass) (now : ℕ) (told : Told) → IsCall row
    → moved_at controls row p now (came.Answered told) ≡ answered controls row p now told.answer told.bytes
same_moved controls (todo.Clear t) p now told c = refl
same_moved controls todo.StatMess p now told c = refl
same_moved controls todo.OpenTodo p now told c = refl
same_moved controls (todo.ReadTodo fd) p now told c = refl
same_moved controls (todo.CloseTodo fd) p now told c = refl
same_moved controls (todo.Create t) p now told c = refl
same_moved controls (todo.Append t fd done) p now told c = refl
same_moved controls (todo.Sync t fd) p now told c = refl
same_moved controls (todo.Close t fd) p now told c = refl
same_moved controls (todo.Shut fd why) p now told c = refl
same_moved controls todo.Give p now told c = absurd c
same_moved controls todo.Answer p now told c = absurd c
same_moved controls todo.Done p now told c = refl
same_moved controls (todo.Left why) p now told c = refl
same_moved controls todo.Lost p now told c = refl

-- where a call is due, and todo is held
held_call : (p : Pass) (row : PassRow) (call : CallData) → p.row ≡ row → due_of row p ≡ needs.File call → IsCall row × HoldsTodo row
held_call p (todo.Clear t) call e due = (tt, tt)
held_call p todo.StatMess call e due = (tt, tt)
held_call p todo.OpenTodo call e due = (tt, tt)
held_call p (todo.ReadTodo fd) call e due = (tt, tt)
held_call p (todo.CloseTodo fd) call e due = (tt, tt)
held_call p (todo.Create t) call e due = (tt, tt)
held_call p (todo.Append t fd done) call e due = (tt, tt)
held_call p (todo.Sync t fd) call e due = (tt, tt)
held_call p (todo.Close t fd) call e due = (tt, tt)
held_call p (todo.Shut fd why) call e due = (tt, tt)
held_call p row call e due = absurd (cc)

-- A step of a pass

moved_far : (controls : Controls) (p : Pass) (read : ℕ) (told : Told) → IsCall p.row → NotAnswer (moved controls p read (came.Answered told)).row
moved_far controls p read told c = subst (λ (z : Pass). NotAnswer z.row) (sym (same_moved controls p.row p read told c)) (call_far controls p.row p read told.answer told.bytes refl c)

goes_if : (controls : Controls) (now : ℕ) (q : Queue) (a : List ℕ) (row : PassRow) (p : Pass) → NotAnswer row → PassGoesOn controls now q a p → TodoStands controls now q a row p
goes_if controls now q a (todo.Clear t) p f h = h
goes_if controls now q a todo.StatMess p f h = h
goes_if controls now q a todo.OpenTodo p f h = h
goes_if controls now q a (todo.ReadTodo fd) p f h = h
goes_if controls now q a (todo.CloseTodo fd) p f h = h
goes_if controls now q a (todo.Create t) p f h = h
goes_if controls now q a (todo.Append t fd done) p f h = h
goes_if controls now q a (todo.Sync t fd) p f h = h
goes_if controls now q a (todo.Close t fd) p f h = h
goes_if controls now q a (todo.Shut fd why) p f h = h
goes_if controls now q a todo.Give p f h = h
goes_if controls now q a todo.Answer p f h = absurd f
goes_if controls now q a todo.Done p f h = tt
goes_if controls now q a (todo.Left why) p f h = tt
goes_if controls now q a todo.Lost p f h = tt

-- and the other way, at a row at which todo is held
goes_of : (controls : Controls) (now : ℕ) (q : Queue) (a : List ℕ) (row : PassRow) (p : Pass) → HoldsTodo row → TodoStands controls now q a row p → PassGoesOn controls now q a p
goes_of controls now q a (todo.Clear t) p f h = h
goes_of controls now q a todo.StatMess p f h = h
goes_of controls now q a todo.OpenTodo p f h = h
goes_of controls now q a (todo.ReadTodo fd) p f h = h
goes_of controls now q a (todo.CloseTodo fd) p f h = h
goes_of controls now q a (todo.Create t) p f h = h
goes_of controls now q a (todo.Append t fd done) p f h = h
goes_of controls now q a (todo.Sync t fd) p f h = h
goes_of controls now q a (todo.Close t fd) p f h = h
goes_of controls now q a (todo.Shut fd why) p f h = h
goes_of controls now q a todo.Give p f h = h
goes_of controls now q a todo.Answer p f h = absurd f
goes_of controls now q a todo.Done p f h = absurd f
goes_of controls now q a (todo.Left why) p f h = absurd f
goes_of controls now q a todo.Lost p f h = absurd f

-- What is rested on while todo is there

unserved : (now : ℕ) (q : Queue) (n : ℕ) → RestsAs now q n IsQueued → (ch : Channel) → Serves (about q n) ch → ⊥
unserved now q n R ch s = let none = s.sorted.no_todo in let there = R.rest.todo_there in absurd (cc)

other_number : (now : ℕ) (q : Queue) (n : ℕ) → RestsAs now q n IsQueued → (k : Known) → IsKnown (about q k.n) k → k.n ≢ n
other_number now q n R k h e =
    let none = subst (λ (m : ℕ). in_todo (about q m).parts ≡ None) e h.sorted.no_todo in
    let there = R.rest.todo_there in
    absurd (cc)

free_of : (q : Queue) (n : ℕ) (ch : Channel) (o : Option Job) → ((job : Job) → o ≡ Some job → Serves (about q n) ch) → (Serves (about q n) ch → ⊥) → o ≡ None
free_of q n ch None f none = refl
free_of q n ch (Some job) f none = absurd (none (f job refl))

plain_todo : (now : ℕ) (q : Queue) (a : List ℕ) (d : Desk) → StandsAt now q a at.InTodo d → OnDesk q d
plain_todo now q a d h = on_of now q a at.InTodo d (record { first = λ ch. refl; controls_read = tt }) (λ n w. w) h

module _ (now : ℕ) (q : Queue) (a : List ℕ) (read : ℕ) where
  ended_on : (d : Desk) → OnDesk q d → StandsAt now q a (at.Ended 81) d
  ended_on d h = stand now q a (at.Ended 81) d (λ ch. refl) h tt

  none_on : (again : Bool) (last : List ℕ) (d : Desk) → OnDesk q d → HasNoMarks d.slots → SenderStands now q a (todo_none again last read d)
  none_on false (b ∷ bs) d h bare = stand now q a (at.FindTodo searches.FromStart) d (λ ch. refl) h bare
  none_on false [] d h bare = past_todo_on now q a read d h bare
  none_on true last d h bare = past_todo_on now q a read d h bare

  found_on : (o : Option ℕ) (text : List ℕ) (search : Search) (d : Desk) → ((n : ℕ) → o ≡ Some n → PassGoesOn d.book.controls now q a (begun n)) → OnDesk q d → HasNoMarks d.slots
      → SenderStands now q a (todo_found o text search d)
  found_on None text search d f h bare =
      let e : Desk = record d { row = at.FindTodo (searches.AfterStray (is_again search)); book = record d.book { after = take 255 text } } in
      stand now q a (at.FindTodo (searches.AfterStray (is_again search))) e (λ ch. refl)
      (record { known = h.known; due = h.due; lanes = h.lanes; apart = h.apart; no_nul = h.no_nul }) bare
  found_on (Some n) text search d f h bare =
      let e : Desk = record d { row = at.InTodo; pass = begun n; busy = true } in
      let goes = f n refl in
      let none = unserved now q n (goes.stands.rests tt) in
      stand now q a at.InTodo e (λ ch. refl)
      (record { known = h.known; due = h.due; lanes = h.lanes; apart = h.apart; no_nul = h.no_nul })
      (bare, ((λ ch. free_of q n ch (job_of n (lane ch d.slots).jobs) (λ job e. (h.lanes ch).jobs n job e) (none ch)), goes))

  -- after a step of a pass that isn't the taking of the answer
  goes_at : (row : PassRow) (p : Pass) (d : Desk) → TodoStands d.book.controls now q a p.row p → ((ch : Channel) → HasNoJob ch p.n d.slots) → OnDesk q d → HasNoMarks d.slots
      → StandsAt now q a at.InTodo (record d { row = at.InTodo; pass = p })
  goes_at row p d t free h bare = stand now q a at.InTodo (record d { row = at.InTodo; pass = p }) (λ ch. refl)
      (record { known = h.known; due = h.due; lanes = h.lanes; apart = h.apart; no_nul = h.no_nul }) (bare, (free, t))

  lost_with : (p : Pass) (d : Desk) → OnDesk q d → SenderStands now q a (todo_on todo.Lost p read d)
  lost_with p d h = ended_on (record d { row = at.Ended 81; pass = p }) (record { known = h.known; due = h.due; lanes = h.lanes; apart = h.apart; no_nul = h.no_nul })

  left_with : (why : Why) (p : Pass) (d : Desk) → OnDesk q d → HasNoMarks d.slots → SenderStands now q a (todo_on (todo.Left why) p read d)
  left_with why p d h bare = past_todo_on now q a read (record d { pass = p; last_left = digits p.n })
      (record { known = h.known; due = h.due; lanes = h.lanes; apart = h.apart; no_nul = h.no_nul }) bare

  on_todo : (row : PassRow) (p : Pass) (d : Desk) → TodoStands d.book.controls now q a p.row p → ((ch : Channel) → HasNoJob ch p.n d.slots) → OnDesk q d → HasNoMarks d.slots
      → SenderStands now q a (todo_on row p read d)
  on_todo (todo.Left why) p d t free h bare = left_with why p d h bare
  on_todo todo.Lost p d t free h bare = lost_with p d h
  on_todo (todo.Clear x) p d t free h bare = goes_at (todo.Clear x) p d t free h bare
  on_todo todo.StatMess p d t free h bare = goes_at todo.StatMess p d t free h bare
  on_todo todo.OpenTodo p d t free h bare = goes_at todo.OpenTodo p d t free h bare
  on_todo (todo.ReadTodo fd) p d t free h bare = goes_at (todo.ReadTodo fd) p d t free h bare
  on_todo (todo.CloseTodo fd) p d t free h bare = goes_at (todo.CloseTodo fd) p d t free h bare
  on_todo (todo.Create x) p d t free h bare = goes_at (todo.Create x) p d t free h bare
  on_todo (todo.Append x fd done) p d t free h bare = goes_at (todo.Append x fd done) p d t free h bare
  on_todo (todo.Sync x fd) p d t free h bare = goes_at (todo.Sync x fd) p d t free h bare
  on_todo (todo.Close x fd) p d t free h bare = goes_at (todo.Close x fd) p d t free h bare
  on_todo (todo.Shut fd why) p d t free h bare = goes_at (todo.Shut fd why) p d t free h bare
  on_todo todo.Give p d t free h bare = goes_at todo.Give p d t free h bare
  on_todo todo.Answer p d t free h bare = goes_at todo.Answer p d t free h bare
  on_todo todo.Done p d t free h bare = goes_at todo.Done p d t free h bare

  -- the step of a pass with this row before
  abbrev Went : PassRow → GotData → Desk → Type 0
  Went row got d = SenderStands now q a (todo_went row got (moved_at d.book.controls row d.pass read got) read d)

  went_call : (row : PassRow) (got : GotData) (p : Pass) (d : Desk) → IsCall row → SenderStands now q a (todo_on p.row p read d) → SenderStands now q a (todo_went row got p read d)
  went_call (todo.Clear x) got p d c h = h
  went_call todo.StatMess got p d c h = h
  went_call todo.OpenTodo got p d c h = h
  went_call (todo.ReadTodo fd) got p d c h = h
  went_call (todo.CloseTodo fd) got p d c h = h
  went_call (todo.Create x) got p d c h = h
  went_call (todo.Append x fd done) got p d c h = h
  went_call (todo.Sync x fd) got p d c h = h
  went_call (todo.Close x fd) got p d c h = h
  went_call (todo.Shut fd why) got p d c h = h
  went_call todo.Give got p d c h = absurd c
  went_call todo.Answer got p d c h = absurd c
  went_call todo.Done got p d c h = h
  went_call (todo.Left why) got p d c h = h
  went_call todo.Lost got p d c h = h

  -- the giving of the command
  gave : (got : GotData) (d : Desk) → IsExpected (about q d.pass.n) (known_of d.pass) → ((ch : Channel) → HasNoJob ch d.pass.n d.slots) → OnDesk q d → HasNoMarks d.slots
      → Went todo.Give got d
  gave came.Gave d t free h bare = goes_at todo.Answer (pass_goes d.pass todo.Answer) d t free h bare
  gave (came.Answered told) d t free h bare = lost_with (pass_goes d.pass todo.Lost) d h
  gave (came.Took bytes) d t free h bare = lost_with (pass_goes d.pass todo.Lost) d h
  gave came.End d t free h bare = lost_with (pass_goes d.pass todo.Lost) d h
  gave (came.Ended status) d t free h bare = lost_with (pass_goes d.pass todo.Lost) d h
  gave came.Crashed d t free h bare = lost_with (pass_goes d.pass todo.Lost) d h
  gave (came.Started pid) d t free h bare = lost_with (pass_goes d.pass todo.Lost) d h
  gave came.Failed d t free h bare = lost_with (pass_goes d.pass todo.Lost) d h
  gave came.Memory d t free h bare = lost_with (pass_goes d.pass todo.Lost) d h

  -- the taking of the answer
  known_on : (row : PassRow) (d : Desk) → RestsAs now q d.pass.n IsPreprocessed → IsExpected (about q d.pass.n) (known_of d.pass)
      → ((ch : Channel) → HasNoJob ch d.pass.n d.slots) → OnDesk q d → HasNoMarks d.slots → SenderStands now q a (todo_over todo.Done (pass_goes d.pass todo.Done) read d)
  known_on row d R t free h bare =
      let it = done_is_known now q d.pass.n (known_of d.pass) R t in
      let on = learned_on q (known_of d.pass) read d h it.known it.due free in
      past_todo_on now q a read (record d { pass = pass_goes d.pass todo.Done; book = record d.book { messages = learned (known_of d.pass) read d.book.messages } })
      (record { known = on.known; due = on.due; lanes = on.lanes; apart = on.apart; no_nul = on.no_nul }) bare

  bytes_on : (b : Bool) (d : Desk) → ((if b then todo.Done else todo.Left left.Unclean) ≡ todo.Done → RestsAs now q d.pass.n IsPreprocessed)
      → IsExpected (about q d.pass.n) (known_of d.pass) → ((ch : Channel) → HasNoJob ch d.pass.n d.slots) → OnDesk q d → HasNoMarks d.slots
      → SenderStands now q a (todo_over (if b then todo.Done else todo.Left left.Unclean) (pass_goes d.pass (if b then todo.Done else todo.Left left.Unclean)) read d)
  bytes_on true d told t free h bare = known_on todo.Done d (told refl) t free h bare
  bytes_on false d told t free h bare = left_with left.Unclean (pass_goes d.pass (todo.Left left.Unclean)) d h bare

  took : (got : GotData) (d : Desk) → (answer_row got ≡ todo.Done → RestsAs now q d.pass.n IsPreprocessed) → IsExpected (about q d.pass.n) (known_of d.pass)
      → ((ch : Channel) → HasNoJob ch d.pass.n d.slots) → OnDesk q d → HasNoMarks d.slots → Went todo.Answer got d
  took (came.Took bytes) d told t free h bare = bytes_on (bytes_eq bytes (43 ∷ [])) d told t free h bare
  took came.Gave d told t free h bare = lost_with (pass_goes d.pass todo.Lost) d h
  took (came.Answered x) d told t free h bare = lost_with (pass_goes d.pass todo.Lost) d h
  took came.End d told t free h bare = lost_with (pass_goes d.pass todo.Lost) d h
  took (came.Ended status) d told t free h bare = lost_with (pass_goes d.pass todo.Lost) d h
  took came.Crashed d told t free h bare = lost_with (pass_goes d.pass todo.Lost) d h
  took (came.Started pid) d told t free h bare = lost_with (pass_goes d.pass todo.Lost) d h
  took came.Failed d told t free h bare = lost_with (pass_goes d.pass todo.Lost) d h
  took came.Memory d told t free h bare = lost_with (pass_goes d.pass todo.Lost) d h

-- Each event

give_is : (row : PassRow) (p : Pass) (port : Port) (bytes : List ℕ) → due_of row p ≡ needs.Give port bytes → row ≡ todo.Give
give_is todo.Give p port bytes due = refl
give_is row p port bytes due = absurd (cc)

take_is : (row : PassRow) (p : Pass) (port : Port) → due_of row p ≡ needs.Take port → row ≡ todo.Answer
take_is todo.Answer p port due = refl
take_is row p port due = absurd (cc)

nothing_ready : Ready
nothing_ready = record { links = []; child = None }

module _ (now : ℕ) (q : Queue) (a : List ℕ) where
  module _ (G : Sound q) (search : Search) (d : Desk) (read wrote : ℕ) (h : StandsAt now q a (at.FindTodo search) d) where
    abbrev asking : CallData
    asking = NextName (dir_text dir.Todo) (search_words search d)

    abbrev after : Answer → Queue
    after t = called_queue q a read asking t wrote q.role

    grown : (t : Answer) → Fits q.disk asking t wrote → OnDesk (after t) d
    grown t f = desk_grown q (after t) d (grown_by now a q (after t) (reads_keep now q a G read asking t wrote tt f).elsewhere)
        (on_of now q a (at.FindTodo search) d (record { first = λ ch. refl; controls_read = tt }) (λ n w. w) h)

    none_leads : (t : Answer) → Fits q.disk asking t wrote → SenderLeads now a q (after t) (todo_none (is_again search) d.last_left read d)
    none_leads t f = record {
      number = None;
      closed = none_closed now q;
      leads = reads_keep now q a G read asking t wrote tt f;
      stands = none_on now (after t) a read (is_again search) d.last_left d (grown t f) h.rests;
    }

    find_answer : (t : Answer) (bytes : List ℕ) → Fits q.disk asking t wrote
        → SenderLeads now a q (after t) (todo_named (told_as t bytes).way (told_as t bytes).bytes search read d)
    find_answer (answer.Name text) bytes f = record {
      number = None;
      closed = none_closed now q;
      leads = reads_keep now q a G read asking (answer.Name text) wrote tt f;
      stands = found_on now (after (answer.Name text)) a read (message_number text) text search d
          (λ n e. search_begins d.book.controls now q a read (search_words search d) text wrote n G f e) (grown (answer.Name text) f) h.rests;
    }
    find_answer answer.NoName bytes f = none_leads answer.NoName f
    find_answer (answer.Refused why.NotThere) bytes f = none_leads (answer.Refused why.NotThere) f
    find_answer (answer.Refused why.Fault) bytes f = none_leads (answer.Refused why.Fault) f
    find_answer told bytes f = absurd f

  pub finds : Sound q → (search : Search) (d : Desk) (read : ℕ) (call : CallData) (told : Told) (wrote : ℕ) → StandsAt now q a (at.FindTodo search) d
      → due_at (at.FindTodo search) d ≡ needs.File call → Fits q.disk call told.answer wrote
      → SenderLeads now a q (called_queue q a read call told.answer wrote q.role) (act (at.FindTodo search) read (Answered told) d)
  finds G search d read call told wrote h due fits =
      let asked : CallData = NextName (dir_text dir.Todo) (search_words search d) in
      let same : call ≡ asked = sym (file_call asked call due) in
      subst (λ z. SenderLeads now a q (called_queue q a read z told.answer wrote q.role) (act (at.FindTodo search) read (Answered told) d)) (sym same)
      (find_answer G search d read wrote h told.answer told.bytes (subst (λ z. Fits q.disk z told.answer wrote) same fits))

  pub todo_calls : Sound q → (d : Desk) (read : ℕ) (call : CallData) (told : Told) (wrote : ℕ) → StandsAt now q a at.InTodo d
      → due_at at.InTodo d ≡ needs.File call → Fits q.disk call told.answer wrote → IsReadBy q.disk call told
      → (role : ℕ → Role) × SenderLeads now a q (called_queue q a read call told.answer wrote role) (act at.InTodo read (Answered told) d)
  todo_calls G d read call told wrote h due fits by =
      let p : Pass = d.pass in
      let on = plain_todo now q a d h in
      let c = held_call p p.row call refl due in
      let goes = goes_of d.book.controls now q a p.row p c.1 h.rests.1.1 in
      let w = passes_go_on.calls d.book.controls now q a p read call told wrote G goes due fits by in
      let r : Queue = called_queue q a read call told.answer wrote w.0 in
      let R = goes.stands.rests c.1 in
      let same = far_by now a p.n q r w.1.leads.elsewhere in
      let none = unserved now q p.n R in
      let next : Pass = moved d.book.controls p read (came.Answered told) in
      let number : next.n ≡ p.n = ap (λ (z : Pass). (moved d.book.controls z read (came.Answered told)).n) goes.is ∙ numbered d.book.controls p.n (own_call read nothing_ready call told ∷ goes.past) in
      let there : OnDesk r d = record {
        known = All-weaker (λ (k : Known). IsKnown (about q k.n) k) (λ (k : Known). IsKnown (about r k.n) k)
            (λ k it. subst (λ z. IsKnown z k) (sym (same k.n (other_number now q p.n R k it))) it) d.book.messages.known on.known;
        due = due_far q r p.n same d.book.messages none on.due;
        lanes = λ ch. lane_far q r p.n same ch (lane ch d.slots) (none ch) (on.lanes ch) (h.rests.0 ch);
        apart = on.apart;
        no_nul = on.no_nul;
      } in
      let free : (ch : Channel) → HasNoJob ch next.n d.slots = λ ch. subst (λ (m : ℕ). HasNoJob ch m d.slots) (sym number) (h.rests.1.0 ch) in
      let stood = on_todo now r a read next.row next d (goes_if d.book.controls now r a next.row next (moved_far d.book.controls p read told c.0) w.1.goes_on) free there h.rests.0 in (
        w.0,
        record {
          number = Some p.n;
          closed = one_closed now q p.n R.closed;
          leads = w.1.leads;
          stands = went_call now r a read p.row (Answered told) next d c.0 stood;
        },
      )

  -- the message is routed, whatever comes of it
  pub todo_gives : Sound q → (child : Option Child) (d : Desk) (read : ℕ) (port : Port) (bytes : List ℕ) (got : GotData) → StandsAt now q a at.InTodo d
      → due_at at.InTodo d ≡ needs.Give port bytes → SenderTakes now a q (booked_queue child d.book.controls (booked_at at.InTodo got d) q) (act at.InTodo read got d)
  todo_gives G child d read port bytes got h due =
      let p : Pass = d.pass in
      let by : Controls = d.book.controls in
      let on = plain_todo now q a d h in
      let is = give_is p.row p port bytes due in
      let goes = goes_of by now q a p.row p (subst HoldsTodo (sym is) tt) h.rests.1.1 in
      let given = passes_give by now q a p on.no_nul G goes is in
      let r : Queue = entered_queue q p.n (Routes by) in
      let there = desk_grown q r d (one_grown q p.n (Routes by)) on in
      let stood = subst (λ row. Went now r a read row got d) (sym is) (gave now r a read got d given.learned h.rests.1.0 there h.rests.0) in
      let R = goes.stands.rests (subst HoldsTodo (sym is) tt) in
      subst (λ (row : PassRow). SenderTakes now a q (booked_queue child by (routed_at row p.n) q) (act at.InTodo read got d)) (sym is)
      (record { leads = Goes q r r p.n R.closed given.given.leads (Stays r); sound = given.given.leads.sound; stands = stood })

  pub todo_takes : (d : Desk) (read : ℕ) (port : Port) (got : GotData) → StandsAt now q a at.InTodo d → due_at at.InTodo d ≡ needs.Take port
      → (answer_row got ≡ todo.Done → RestsAs now q d.pass.n IsPreprocessed) → SenderStands now q a (act at.InTodo read got d)
  todo_takes d read port got h due told =
      let p : Pass = d.pass in
      let on = plain_todo now q a d h in
      let is = take_is p.row p port due in
      let t = subst (λ row. TodoStands d.book.controls now q a row p) is h.rests.1.1 in
      subst (λ row. Went now q a read row got d) (sym is) (took now q a read got d told t h.rests.1.0 on h.rests.0)
