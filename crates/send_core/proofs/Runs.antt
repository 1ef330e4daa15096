-- What follows for each run: its requests, its notes and its marks.
use Rattle.std.proofs.Common.{◌≡◌, ◌≢◌, ◌⊎◌, ℕ, ◌+◌, ◌<◌, ◌≤◌, List, [], ◌∷◌, length, drop, nat_lt, Bool, true, false, Option, Some, None, refl, sym, ap, ◌∙◌, subst, inl, inr, ⊎_elim, arith}
use Rattle.std.specs.Prelude.{IsSome, codes, map, min, slice_get}
use Rattle.std.specs.Option.{option_map}
use Rattle.bounce_record.specs.declared.note_row.NoteRow.{NoteRow}
use Rattle.bounce_record.specs.declared.note_row.NoteRow.TheVariants as written
use Rattle.bounce_record.specs.declared.return_row.ReturnRow.{ReturnRow}
use Rattle.bounce_record.specs.declared.return_row.ReturnRow.TheVariants as back
use Rattle.bounce_record.specs.Returning.{Returning, due_at as return_due_at}
use Rattle.address_rules.specs.declared.controls.Controls.{Controls}
use Rattle.bounce_record.specs.Runs.{begun}
use Rattle.bounce_record.specs.Writing.{Writing, bounce_path, due_by as note_due_by, writing_begun, due_at as note_due_at, moved as note_moved}
use Rattle.call_fs.specs.declared.calls.Answer.{Answer}
use Rattle.call_fs.specs.declared.calls.Answer.TheVariants as answer
use Rattle.call_fs.specs.declared.calls.CallData.{CallData}
use Rattle.call_fs.specs.declared.calls.CallData.TheVariants as call
use Rattle.call_fs.specs.declared.calls.Fd.{Fd}
use Rattle.call_fs.specs.declared.calls.How.{How}
use Rattle.call_fs.specs.declared.calls.How.TheVariants as how
use Rattle.call_fs.specs.declared.calls.Told.{Told}
use Rattle.call_fs.specs.declared.past.GotData.{GotData}
use Rattle.call_fs.specs.declared.past.GotData.TheVariants as came
use Rattle.call_fs.specs.declared.past.NeedData.{NeedData}
use Rattle.call_fs.specs.declared.past.NeedData.TheVariants as needs
use Rattle.call_fs.specs.declared.past.Own.{Own}
use Rattle.call_fs.specs.declared.program.Port.{Port}
use Rattle.call_fs.specs.declared.program.Port.TheVariants as port
use Rattle.call_fs.specs.declared.program.Ready.{Ready}
use Rattle.call_fs.specs.Past.{IsRunBy}
use Rattle.call_fs.specs.Program.{MayCome}
use Rattle.queue_paths.specs.Names.{name_of, path}
use Rattle.send_core.specs.declared.desk.Desk.{Desk}
use Rattle.send_parts.specs.declared.row.MarkRow.{MarkRow}
use Rattle.send_parts.specs.declared.row.MarkRow.TheVariants as mark
use Rattle.send_parts.specs.declared.row.Marked.{Marked}
use Rattle.send_parts.specs.declared.row.Row.{Row}
use Rattle.send_parts.specs.declared.row.Row.TheVariants as at
use Rattle.send_core.specs.Desk.{is_dying, link}
use Rattle.send_core.specs.Table.{Next, act, arrive, place_after as sender_after, due_at, file_of, row_now}
use Rattle.send_core.specs.Turn.{note_of, told_report}
use Rattle.send_jobs.specs.declared.attempts.Attempt.{Attempt}
use Rattle.send_jobs.specs.declared.attempts.Failure.{Failure}
use Rattle.send_jobs.specs.declared.attempts.Mark.{Mark}
use Rattle.send_known.specs.declared.channel.Channel.{Channel}
use Rattle.send_known.specs.declared.channel.Channel.TheVariants.{Local, Remote}
use Rattle.send_jobs.specs.declared.lane.Lane.{Lane}
use Rattle.send_jobs.specs.Lanes.{empty, next}
use Rattle.send_jobs.specs.Sending.{lane}
use Rattle.send_jobs.specs.Slots.{IsLeastFree, attempt_in, lowest}
use Rattle.send_jobs.proofs.SlotLemmas.{lowest_is_least}
use Rattle.send_known.specs.Known.{birth_of, is_known}
use Rattle.send_known.specs.Messages.{none_known}
use Rattle.send_links.specs.declared.link.Link.{Link}
use Rattle.send_parts.specs.declared.reading.Reading.{Reading}
use Rattle.send_parts.specs.declared.reading.Reading.TheVariants.{Closing, Going, Opening, Shutting}
use Rattle.send_parts.specs.declared.rows.FinishRow.{FinishRow}
use Rattle.send_parts.specs.declared.rows.FinishRow.TheVariants as finish
use Rattle.send_parts.specs.declared.rows.StartRow.{StartRow}
use Rattle.send_parts.specs.declared.rows.StartRow.TheVariants as start
use Rattle.send_parts.specs.declared.rows.SweepRow.{SweepRow}
use Rattle.send_parts.specs.declared.rows.SweepRow.TheVariants as sweep
use Rattle.send_links.specs.Requests.{addressed, first_text, quiet, request_of, to_slot}
use Rattle.todo_pass.specs.declared.row.Row.{Row as PassRow}
use Rattle.todo_pass.specs.declared.row.Row.TheVariants as todo
use Rattle.todo_pass.specs.Table.{Pass}
use Rattle.todo_pass.specs.Table as pass_table
use Rattle.send_core.specs.Laws.{ComesNext, GivesRequests, HasOpened, IsMark, IsNoted, IsNoteOpened, IsOpened, IsRequest, IsUnderWay, MarksReports, Overwrites, WritesNote, note_by}
use Rattle.send_core.specs.Births.{births, is_late}
use Rattle.send_core.specs.Papers.{controls_in, controls_told, papers}
use Rattle.send_core.specs.Senders.{IsSaid, letter, said_at}
use Rattle.send_core.specs.Past.{Account, Owed, Task, Work, account, account_by, happening, none_yet, work, work_by}
use Rattle.send_core.proofs.Lists.{free_of}
use Rattle.send_core.proofs.Lanes.{Far, empty_holds, first_far, some_is}
use Rattle.send_core.specs.Agrees.{owed_at, task_of}
use Rattle.send_core.proofs.Fits.{AreFor, Fits}
use Rattle.send_core.proofs.Standing.{FitAt, Half, IsFit, NoteStands, arrives, fit_ready, head_of, note_in}
use Rattle.send_core.proofs.Born.{birth_told}
use Rattle.send_core.proofs.Known.{Sound}
use Rattle.send_core.proofs.Asked.{Asked, Base, Facts, Knows, KnowsAt, facts_by}
use Rattle.send_core.proofs.Noted.{Follows, note_step, noting_step}
use Rattle.send_core.proofs.Says.{arrive_says, asked_first, knows_more, knows_ready, row_knows}
use Rattle.send_core.proofs.RowFits.{where_at}
use Rattle.send_core.proofs.Early.{StepOf, start_step}
use Rattle.send_core.proofs.Turns.{close_step, file_step_local, file_step_remote, find_step, finish_step, open_step, request_local, request_remote, sweep_step, take_step, todo_step, unlink_step, write_step}

-- The first request of a channel is for its lowest free slot

abbrev Addressed : Lane → Link → Type 0
Addressed lane link = (slot : ℕ) → lowest lane.slots ≡ Some slot → addressed (Some slot) link.requests ≡ link.requests

twice : (slot : ℕ) (texts : List (List ℕ)) → addressed (Some slot) (addressed (Some slot) texts) ≡ addressed (Some slot) texts
twice slot [] = refl
twice slot ([] ∷ texts) = refl
twice slot ((b ∷ bs) ∷ texts) = refl

addressed_twice : (o : Option ℕ) (slot : ℕ) (texts : List (List ℕ)) → o ≡ Some slot → addressed (Some slot) (addressed o texts) ≡ addressed o texts
addressed_twice o slot texts e = subst (λ (o : Option ℕ). addressed (Some slot) (addressed o texts) ≡ addressed o texts) (sym e) (twice slot texts)

head_is : {A : Type 0} (x y : A) → ◌≡◌ {A = Option A} (Some x) (Some y) → x ≡ y
head_is x y e = cc

-- it is the request of the next attempt
starts : (slot : ℕ) (a : Attempt) (texts : List (List ℕ)) (left : List Attempt) → AreFor texts left → slice_get left 0 ≡ Some a → addressed (Some slot) texts ≡ texts
    → (sender : List ℕ) × (first_text texts ≡ to_slot slot (request_of a.n sender a.address))
starts slot a [] [] h e w = absurd (cc)
starts slot a (text ∷ texts) [] h e w = absurd h
starts slot a [] (b ∷ left) h e w = absurd h
starts slot a (text ∷ texts) (b ∷ left) h e w = (
  h.0.1,
  sym (ap first_text w) ∙ ap (to_slot slot) h.0.2 ∙ ap (λ (x : Attempt). to_slot slot (request_of x.n h.0.1 x.address)) (head_is b a e),
)

abbrev Starts : Channel → Desk → Type 0
Starts c d = (slot : ℕ) (a : Attempt) → lowest (lane c d.slots).slots ≡ Some slot → next (lane c d.slots) ≡ Some a
    → (sender : List ℕ) × (first_text (link c d).requests ≡ to_slot slot (request_of a.n sender a.address))

starts_in : (at_work : Bool) (a : Account) (lane : Lane) (link : Link) → Fits at_work a lane link → Addressed lane link → (slot : ℕ) (x : Attempt) → lowest lane.slots ≡ Some slot → next lane ≡ Some x
    → (sender : List ℕ) × (first_text link.requests ≡ to_slot slot (request_of x.n sender x.address))
starts_in at_work a lane link h w slot x low first = starts slot x link.requests lane.left h.2 first (w slot low)

-- A mark's open, as the past has it

pub record WasOpened (past : List Own) (fd : Fd) (m : Marked) : Type 0 where
  pub event : Own
  pub before : List Own
  pub told : Told
  pub name : List ℕ
  pub newest : past ≡ event ∷ before
  pub due : event.due ≡ needs.File (call.Open name how.Write)
  pub got : event.came ≡ came.Answered told
  pub fd_is : told.answer ≡ answer.Opened fd
  pub opens : IsOpened before name
  pub at : m.place ≡ opens.owed.task.place
  pub names : name ≡ path (name_of (file_of m.channel m.n))

-- what the past has of a mark at work, by its row and by the first mark of the channel
abbrev pub Was : List Own → MarkRow → Option Mark → Marked → Writing → Type 0
Was past mark.Noting o m w = (it : Mark) (f : Failure) → o ≡ Some it → it.note ≡ Some f → WritesNote past (owed_at it) f w
Was past mark.Open o m w = (it : Mark) (f : Failure) → o ≡ Some it → it.note ≡ Some f → IsNoted past (owed_at it) f
Was past (mark.Write fd) o m w = WasOpened past fd m
Was past row o m w = Unit {0}

-- nothing is noted before a mark that has no note
pub frees : (past : List Own) (m : Marked) (it : Mark) (w : Writing) → it.note ≡ None → Was past mark.Open (Some it) m w
frees past m it w none other f same some =
    let e : it ≡ other = some_is it other same in
    let n : other.note ≡ None = ap (λ (x : Mark). x.note) (sym e) ∙ none in
    absurd (cc (sym n ∙ some))

-- A step

module _ (P Q : MarkRow → Option Mark → Marked → Writing → Type 0) (late : ℕ → Bool) (f : Option Work) (al ar : Account) (now : ℕ) (d : Desk) where
  step_in : (row : Row) (got : GotData) → FitAt P f al ar row d → Addressed d.slots.local d.local → Addressed d.slots.remote d.remote
      → ((m : Marked) (told : Told) (fd : Fd) → row ≡ at.Mark mark.Open m → got ≡ came.Answered told → told.answer ≡ answer.Opened fd → Q (mark.Write fd) None m d.note)
      → ((c : Channel) (n begun : ℕ) → row ≡ at.ReadFile c n begun Opening → late n ≡ is_dying n now d)
      → ((m : Marked) (it : Mark) → row ≡ at.Mark mark.Note m → slice_get (lane m.channel d.slots).marks 0 ≡ Some it → m.n ≡ it.attempt.n → Follows P Q late now d al ar m (note_moved (note_of (Some it) m.n d.book.controls) got))
      → ((m : Marked) → row ≡ at.Mark mark.Noting m → P mark.Noting (slice_get (lane m.channel d.slots).marks 0) m d.note → Follows P Q late now d al ar m (note_moved d.note got))
      → MayCome (due_at row d) got → StepOf Q late now d f al ar row got
  step_in (at.Start row) got h wl wr opens dies notes notings may = start_step Q late now d al ar f row got h may
  step_in (at.Turn p) got h wl wr opens dies notes notings may = absurd may
  step_in (at.TakeLink c) got h wl wr opens dies notes notings may = subst (λ (o : Option Work). StepOf Q late now d o al ar (at.TakeLink c) got) (sym h.1) (take_step Q late now d al ar c got h.0 may)
  step_in (at.Mark row m) got h wl wr opens dies notes notings may = mark_in row m got h opens notes notings may where
    of_half : (c : Channel) → Half P f al ar c d.slots d.local d.remote → f ≡ None
    of_half Local h = h.1
    of_half Remote h = h.1

    at_none : (c : Channel) → Half P f al ar c d.slots d.local d.remote → Half Q None al ar c d.slots d.local d.remote
    at_none Local h = (h.0, refl)
    at_none Remote h = (h.0, refl)

    mark_in : (row : MarkRow) (m : Marked) (got : GotData) → FitAt P f al ar (at.Mark row m) d
        → ((n : Marked) (told : Told) (fd : Fd) → at.Mark row m ≡ at.Mark mark.Open n → got ≡ came.Answered told → told.answer ≡ answer.Opened fd → Q (mark.Write fd) None n d.note)
        → ((n : Marked) (it : Mark) → at.Mark row m ≡ at.Mark mark.Note n → slice_get (lane n.channel d.slots).marks 0 ≡ Some it → n.n ≡ it.attempt.n → Follows P Q late now d al ar n (note_moved (note_of (Some it) n.n d.book.controls) got))
        → ((n : Marked) → at.Mark row m ≡ at.Mark mark.Noting n → P mark.Noting (slice_get (lane n.channel d.slots).marks 0) n d.note → Follows P Q late now d al ar n (note_moved d.note got))
        → MayCome (due_at (at.Mark row m) d) got → StepOf Q late now d f al ar (at.Mark row m) got
    mark_in mark.Note m got h opens notes notings may = subst (λ (o : Option Work). StepOf Q late now d o al ar (at.Mark mark.Note m) got) (sym h.0.1)
        (note_step P Q late now d al ar m h.0.0 h.1 h.1.0.0 got h.1.0.1 may (notes m h.1.0.0 refl h.1.0.1 h.1.0.2))
    mark_in mark.Noting m got h opens notes notings may = noting_step P Q late now d al ar m h.0 h.2 f got h.1 may (notings m refl h.3)
    mark_in mark.Open m got h opens notes notings may = subst (λ (o : Option Work). StepOf Q late now d o al ar (at.Mark mark.Open m) got) (sym h.0.1)
        (open_step Q late now d al ar m.channel m.n m.place got (λ told fd e g. opens m told fd refl e g) h.0.0 may)
    mark_in (mark.Write fd) m got h opens notes notings may = subst (λ (o : Option Work). StepOf Q late now d o al ar (at.Mark (mark.Write fd) m) got) (sym (of_half m.channel h.0))
        (write_step Q late now d al ar m.channel fd m.n m.place got (at_none m.channel h.0) may)
    mark_in (mark.Close fd written) m got h opens notes notings may = subst (λ (o : Option Work). StepOf Q late now d o al ar (at.Mark (mark.Close fd written) m) got) (sym (of_half m.channel h))
        (close_step Q late now d al ar m.channel fd written m.n m.place got (at_none m.channel h) may)
  step_in (at.UnlinkFile c n p) got h wl wr opens dies notes notings may = subst (λ (o : Option Work). StepOf Q late now d o al ar (at.UnlinkFile c n p) got) (sym h.1) (unlink_step Q late now d al ar c n p got h.0 h.2 may)
  step_in (at.ReadFile Local n begun reading) got h wl wr opens dies notes notings may = file_step_local Q late now d al ar f n begun reading got (λ e. dies Local n begun (ap (λ (g : Reading). at.ReadFile Local n begun g) e)) h.1 h.3 h.0 h.2 may
  step_in (at.ReadFile Remote n begun reading) got h wl wr opens dies notes notings may = file_step_remote Q late now d al ar f n begun reading got (λ e. dies Remote n begun (ap (λ (g : Reading). at.ReadFile Remote n begun g) e)) h.1 h.3 h.0 h.2 may
  step_in (at.Request Local) got h wl wr opens dies notes notings may =
      let it : (sender : List ℕ) × (first_text d.local.requests ≡ to_slot h.1.0 (request_of h.1.1.n sender h.1.1.address)) =
      starts_in false al d.slots.local d.local h.0.0.0 wl h.1.0 h.1.1 h.1.2 h.1.3
      in subst (λ (o : Option Work). StepOf Q late now d o al ar (at.Request Local) got) (sym h.0.1)
      (request_local Q late now d al ar h.1.0 h.1.1 (drop 1 (request_of h.1.1.n it.0 h.1.1.address)) got h.1.2 h.1.3 it.1 h.0.2 h.0.0 may)
  step_in (at.Request Remote) got h wl wr opens dies notes notings may =
      let it : (sender : List ℕ) × (first_text d.remote.requests ≡ to_slot h.1.0 (request_of h.1.1.n sender h.1.1.address)) =
      starts_in false ar d.slots.remote d.remote h.0.0.1 wr h.1.0 h.1.1 h.1.2 h.1.3
      in subst (λ (o : Option Work). StepOf Q late now d o al ar (at.Request Remote) got) (sym h.0.1)
      (request_remote Q late now d al ar h.1.0 h.1.1 (drop 1 (request_of h.1.1.n it.0 h.1.1.address)) got h.1.2 h.1.3 it.1 h.0.2 h.0.0 may)
  step_in (at.FindTodo search) got h wl wr opens dies notes notings may = subst (λ (o : Option Work). StepOf Q late now d o al ar (at.FindTodo search) got) (sym h.1) (find_step Q late now d al ar search got h.0 h.2 may)
  step_in at.InTodo got h wl wr opens dies notes notings may = subst (λ (o : Option Work). StepOf Q late now d o al ar at.InTodo got) (sym h.1) (todo_step Q late now d al ar got h.0 h.2 may)
  step_in (at.Finish row n) got h wl wr opens dies notes notings may = subst (λ (o : Option Work). StepOf Q late now d o al ar (at.Finish row n) got) (sym h.1) (finish_step Q late now d al ar row n got h.0 h.2 may)
  step_in (at.Sweep row) got h wl wr opens dies notes notings may = subst (λ (o : Option Work). StepOf Q late now d o al ar (at.Sweep row) got) (sym h.1) (sweep_step Q late now d al ar row got h.0 h.2 may)
  step_in (at.Ended status) got h wl wr opens dies notes notings may = absurd may

-- The first mark is the first record to be marked

next_local : (past : List Own) (it : Mark) (marks : List Mark) → map owed_at marks ≡ (account Local past).to_mark → slice_get marks 0 ≡ Some it → ComesNext past Local (owed_at it)
next_local past it marks are there =
    let head : (rest : List Owed) × ((account Local past).to_mark ≡ owed_at it ∷ rest) = head_of it marks (account Local past).to_mark are there in
    record { rest = head.0; first = head.1; alone = λ e. absurd (cc) }

next_remote : (past : List Own) (it : Mark) (marks : List Mark) → map owed_at marks ≡ (account Remote past).to_mark → slice_get marks 0 ≡ Some it → (account Local past).to_mark ≡ [] → ComesNext past Remote (owed_at it)
next_remote past it marks are there none =
    let head : (rest : List Owed) × ((account Remote past).to_mark ≡ owed_at it ∷ rest) = head_of it marks (account Remote past).to_mark are there in
    record { rest = head.0; first = head.1; alone = λ e. none }

is_opened : (past : List Own) (f : Option Work) (m : Marked) (d : Desk) → FitAt (Was past) f (account Local past) (account Remote past) (at.Mark mark.Open m) d
    → (o : IsOpened past (path (name_of (file_of m.channel m.n)))) × (m.place ≡ o.owed.task.place)
is_opened past f m d h = by_channel m.channel m.n m.place h where
  by_channel : (c : Channel) (n place : ℕ) → FitAt (Was past) f (account Local past) (account Remote past) (at.Mark mark.Open (record { channel = c; n = n; place = place })) d
      → (o : IsOpened past (path (name_of (file_of c n)))) × (place ≡ o.owed.task.place)
  by_channel Local n place h = (
    record {
      channel = Local;
      owed = owed_at h.1.0.0;
      next = next_local past h.1.0.0 d.slots.local.marks h.0.0.0.4 h.1.0.1;
      file = ap (λ (k : ℕ). path (name_of (file_of Local k))) h.1.0.2;
      noted = λ f e. h.2 h.1.0.0 f h.1.0.1 e;
    },
    h.1.0.3,
  )
  by_channel Remote n place h = (
    record {
      channel = Remote;
      owed = owed_at h.1.0.0;
      next = next_remote past h.1.0.0 d.slots.remote.marks h.0.0.1.4 h.1.0.1 h.1.1;
      file = ap (λ (k : ℕ). path (name_of (file_of Remote k))) h.1.0.2;
      noted = λ f e. h.2 h.1.0.0 f h.1.0.1 e;
    },
    h.1.0.3,
  )

-- so is the file of a note
is_noted : (past : List Own) (f : Option Work) (m : Marked) (d : Desk) → FitAt (Was past) f (account Local past) (account Remote past) (at.Mark mark.Note m) d → IsNoteOpened past (bounce_path m.n)
is_noted past f m d h = by_channel m.channel m.n m.place h where
  noted_as : (o : Option Mark) (it : Mark) (failure : Failure) → o ≡ Some it → note_in o ≡ Some failure → it.note ≡ Some failure
  noted_as o it failure there e = sym (ap note_in there) ∙ e

  by_channel : (c : Channel) (n place : ℕ) → FitAt (Was past) f (account Local past) (account Remote past) (at.Mark mark.Note (record { channel = c; n = n; place = place })) d → IsNoteOpened past (bounce_path n)
  by_channel Local n place h = record {
    channel = Local;
    owed = owed_at h.1.0.0;
    failure = h.2.0;
    next = next_local past h.1.0.0 d.slots.local.marks h.0.0.0.4 h.1.0.1;
    note = noted_as (slice_get d.slots.local.marks 0) h.1.0.0 h.2.0 h.1.0.1 h.2.1;
    file = ap bounce_path h.1.0.2;
  }
  by_channel Remote n place h = record {
    channel = Remote;
    owed = owed_at h.1.0.0;
    failure = h.2.0;
    next = next_remote past h.1.0.0 d.slots.remote.marks h.0.0.1.4 h.1.0.1 h.1.1;
    note = noted_as (slice_get d.slots.remote.marks 0) h.1.0.0 h.2.0 h.1.0.1 h.2.1;
    file = ap bounce_path h.1.0.2;
  }

-- After each run

opened_then : (turns : Option ℕ) (event : Own) (before : List Own) (row : Row) (m : Marked) (told : Told) (fd : Fd) → due_at row (sender_after turns before) ≡ event.due → row ≡ at.Mark mark.Open m
    → event.came ≡ came.Answered told → told.answer ≡ answer.Opened fd → FitAt (Was before) (work before) (account Local before) (account Remote before) row (sender_after turns before)
    → WasOpened (event ∷ before) fd m
opened_then turns event before row m told fd due is got fd_is fit =
    let d : Desk = sender_after turns before in
    let it : (o : IsOpened before (path (name_of (file_of m.channel m.n)))) × (m.place ≡ o.owed.task.place) =
    is_opened before (work before) m d (subst (λ (r : Row). FitAt (Was before) (work before) (account Local before) (account Remote before) r d) is fit)
    in record {
      event = event;
      before = before;
      told = told;
      name = path (name_of (file_of m.channel m.n));
      newest = refl;
      due = sym due ∙ ap (λ (r : Row). due_at r d) is;
      got = got;
      fd_is = fd_is;
      opens = it.0;
      at = it.1;
      names = refl;
    }

abbrev pub Kept : Option ℕ → List Own → Type 0
Kept turns past =
    let d : Desk = sender_after turns past in
    IsFit (Was past) (work past) (account Local past) (account Remote past) d × Addressed d.slots.local d.local × Addressed d.slots.remote d.remote

-- what a past tells besides
abbrev pub facts : List Own → Facts
facts past = record { letter = letter past; births = births past; papers = papers past }

abbrev pub Known : Option ℕ → List Own → Type 0
Known turns past = Knows (IsSaid past) (facts past) (sender_after turns past)

-- by what is told, a pass is a dying one if it is so by what is known
late_so : (before : List Own) (n now : ℕ) (d : Desk) → is_known n d.book.messages.known ≡ true → Base (IsSaid before) (facts before) d → is_late before n now ≡ is_dying n now d
late_so before n now d is h =
    let born : birth_of n d.book.messages.known ≡ (births before).of n = birth_told (births before).of n d.book.messages.known is h.0.3 in
    let controls : controls_told before ≡ d.book.controls = ap controls_in h.3 in
    ap (λ (k : ℕ). nat_lt (k + (controls_told before).queue_lifetime) now) (sym born)
    ∙ ap (λ (x : Controls). nat_lt (birth_of n d.book.messages.known + x.queue_lifetime) now) controls

dies_at : (before : List Own) (row : Row) (now : ℕ) (d : Desk) → KnowsAt (IsSaid before) (facts before) row d → (c : Channel) (n begun : ℕ) → row ≡ at.ReadFile c n begun Opening → is_late before n now ≡ is_dying n now d
dies_at before row now d k c n begun e =
    let at_file : KnowsAt (IsSaid before) (facts before) (at.ReadFile c n begun Opening) d = subst (λ (r : Row). KnowsAt (IsSaid before) (facts before) r d) e k in
    late_so before n now d at_file.1 at_file.0

-- A note begins, and goes on

module _ (turns : Option ℕ) (event : Own) (before : List Own) where
  pub begun_so : (m : Marked) (it : Mark) (f : Failure) (d : Desk) → m.n ≡ it.attempt.n → it.note ≡ Some f → controls_told before ≡ d.book.controls
      → begun (note_by before (task_of it.attempt) f) ≡ note_of (Some it) m.n d.book.controls
  begun_so m it f d n note controls =
      ap (λ (x : Controls). writing_begun x it.attempt.n it.attempt.address (told_report (Some f))) controls
      ∙ ap (λ (k : ℕ). writing_begun d.book.controls k it.attempt.address (told_report (Some f))) (sym n)
      ∙ ap (λ (o : Option Failure). writing_begun d.book.controls m.n it.attempt.address (told_report o)) (sym note)

  note_begins : (m : Marked) (it other : Mark) (f : Failure) (d : Desk) → controls_told before ≡ d.book.controls → m.n ≡ it.attempt.n → it ≡ other → other.note ≡ Some f
      → due_at (at.Mark mark.Note m) d ≡ event.due → MayCome event.due event.came → ComesNext before m.channel (owed_at it)
      → WritesNote (event ∷ before) (owed_at other) f (note_moved (note_of (Some it) m.n d.book.controls) event.came)
  note_begins m it other f d controls n same note due may next = record {
    recent = event ∷ [];
    before = before;
    channel = m.channel;
    all = refl;
    next = subst (λ (x : Mark). ComesNext before m.channel (owed_at x)) same next;
    run = (tt, (ap (λ (k : ℕ). needs.File (call.Open (bounce_path k) how.Append)) (sym (n ∙ ap (λ (x : Mark). x.attempt.n) same)) ∙ due, may));
    stands = ap (λ (w : Writing). note_moved w event.came) (begun_so m other f d (n ∙ ap (λ (x : Mark). x.attempt.n) same) note controls ∙ ap (λ (x : Mark). note_of (Some x) m.n d.book.controls) (sym same));
  }

  note_goes : (it : Owed) (f : Failure) (w : Writing) → WritesNote before it f w → note_due_by w ≡ event.due → MayCome event.due event.came → WritesNote (event ∷ before) it f (note_moved w event.came)
  note_goes it f w was due may = record {
    recent = event ∷ was.recent;
    before = was.before;
    channel = was.channel;
    next = was.next;
    all = ap (λ (t : List Own). event ∷ t) was.all;
    run = (was.run, (ap note_due_by was.stands ∙ due, may));
    stands = ap (λ (x : Writing). note_moved x event.came) was.stands;
  }

  notes_on : (m : Marked) (it : Mark) (d : Desk) → controls_told before ≡ d.book.controls → slice_get (lane m.channel d.slots).marks 0 ≡ Some it → m.n ≡ it.attempt.n
      → due_at (at.Mark mark.Note m) d ≡ event.due → MayCome event.due event.came → ComesNext before m.channel (owed_at it)
      → let w : Writing = note_moved (note_of (Some it) m.n d.book.controls) event.came in
      (IsUnderWay w.row → Was (event ∷ before) mark.Noting (slice_get (lane m.channel d.slots).marks 0) m w) × (w.row ≡ written.Written → Was (event ∷ before) mark.Open (slice_get (lane m.channel d.slots).marks 0) m w)
  notes_on m it d controls there n due may next = (
    λ under other f is note. note_begins m it other f d controls n (some_is it other (sym there ∙ is)) note due may next,
    λ end other f is note. record {
      note = note_moved (note_of (Some it) m.n d.book.controls) event.came;
      writes = note_begins m it other f d controls n (some_is it other (sym there ∙ is)) note due may next;
      whole = end;
    },
  )

  notings_on : (o : Option Mark) (m : Marked) (d : Desk) → Was before mark.Noting o m d.note → due_at (at.Mark mark.Noting m) d ≡ event.due → MayCome event.due event.came
      → let w : Writing = note_moved d.note event.came in (IsUnderWay w.row → Was (event ∷ before) mark.Noting o m w) × (w.row ≡ written.Written → Was (event ∷ before) mark.Open o m w)
  notings_on o m d was due may = (
    λ under it f is note. note_goes (owed_at it) f d.note (was it f is note) due may,
    λ end it f is note. record { note = note_moved d.note event.came; writes = note_goes (owed_at it) f d.note (was it f is note) due may; whole = end },
  )

pub controls_at : (before : List Own) (row : Row) (m : Marked) (d : Desk) → KnowsAt (IsSaid before) (facts before) row d → row ≡ at.Mark mark.Note m → controls_told before ≡ d.book.controls
controls_at before row m d k e =
    let at_note : KnowsAt (IsSaid before) (facts before) (at.Mark mark.Note m) d = subst (λ (r : Row). KnowsAt (IsSaid before) (facts before) r d) e k in ap controls_in at_note.0.3

pub next_at : (before : List Own) (row : Row) (m : Marked) (it : Mark) (d : Desk) → FitAt (Was before) (work before) (account Local before) (account Remote before) row d → row ≡ at.Mark mark.Note m
    → slice_get (lane m.channel d.slots).marks 0 ≡ Some it → ComesNext before m.channel (owed_at it)
next_at before row m it d fit e there = by m.channel m.n m.place (subst (λ (r : Row). FitAt (Was before) (work before) (account Local before) (account Remote before) r d) e fit) there where
  by : (c : Channel) (n place : ℕ) → FitAt (Was before) (work before) (account Local before) (account Remote before) (at.Mark mark.Note (record { channel = c; n = n; place = place })) d
      → slice_get (lane c d.slots).marks 0 ≡ Some it → ComesNext before c (owed_at it)
  by Local n place h there = next_local before it d.slots.local.marks h.0.0.0.4 there
  by Remote n place h there = next_remote before it d.slots.remote.marks h.0.0.1.4 there h.1.1

-- After each run

pub all_kept : (turns : Option ℕ) (past : List Own) → IsRunBy (Next turns) past → Kept turns past × Known turns past
all_kept turns [] run = ((((refl, none_out_fits, none_out_fits, refl), refl, refl), (λ slot e. refl), (λ slot e. refl)), (first_sound, tt, tt, (None, refl))) where
  none_out_fits : Fits false none_yet (empty 0) quiet
  none_out_fits = let le : 0 ≤ 0 = omega arith in ((λ slot. ap (option_map task_of) (free_of (min 0 120) slot)), inl refl, tt, refl, refl, empty_holds 0 0 le)

  first_sound : Sound (IsSaid []) (births []).of none_known
  first_sound = (tt, (λ m e. absurd (cc)), (λ m e. absurd (cc)), (λ m x e. absurd (cc)))
all_kept turns (event ∷ before) run =
    let d : Desk = sender_after turns before in
    let row : Row = row_now d event.read event.ready in
    let al : Account = account Local before in
    let ar : Account = account Remote before in
    let f : Option Work = work before in
    let both : Kept turns before × Known turns before = all_kept turns before run.0 in
    let k : Kept turns before = both.0 in
    let fit : FitAt (Was before) f al ar row d = arrives (Was before) f al ar (frees before) d.row d event.read event.ready k.0 in
    let knows : KnowsAt (IsSaid before) (facts before) row d = arrive_says (IsSaid before) (facts before) d event.read event.ready d.row both.1 in
    let may : MayCome (due_at row d) event.came = subst (λ (x : NeedData). MayCome x event.came) (sym run.1.0) run.1.1 in
    let x : Desk = act row event.read event.came d in
    let late : ℕ → Bool = (λ n. is_late before n event.read) in
    let stepped : StepOf (Was (event ∷ before)) late event.read d f al ar row event.came =
    step_in (Was before) (Was (event ∷ before)) late f al ar event.read d row event.came fit k.1 k.2
    (λ m told fd is got fd_is. opened_then turns event before row m told fd run.1.0 is got fd_is fit)
    (dies_at before row event.read d knows)
    (λ m it is there n. notes_on turns event before m it d (controls_at before row m d knows is) there n (ap (λ (r : Row). due_at r d) (sym is) ∙ run.1.0) run.1.1 (next_at before row m it d fit is there))
    (λ m is was. notings_on turns event before (slice_get (lane m.channel d.slots).marks 0) m d was (ap (λ (r : Row). due_at r d) (sym is) ∙ run.1.0) run.1.1)
    may in
    let said : Knows (IsSaid (event ∷ before)) (facts_by event.read (facts before) (due_at row d) event.came) x =
    row_knows (IsSaid (event ∷ before)) event.read (facts before) d row event.came (where_at (Was before) f al ar d row fit) may
    (λ n sender e. inl (sym (ap (λ (due : NeedData). said_at due (letter before)) run.1.0) ∙ e))
    (knows_more (IsSaid before) (IsSaid (event ∷ before)) (λ n sender h. inr h) (facts before) row d knows)
    in (
      (
        fit_ready (Was (event ∷ before)) (work (event ∷ before)) (account Local (event ∷ before)) (account Remote (event ∷ before)) x.row x
            (subst
            (λ (due : NeedData). IsFit (Was (event ∷ before)) (work_by late f due event.came) (account_by (happening due event.came f al.to_mark Local) al) (account_by (happening due event.came f al.to_mark Remote) ar) x)
            run.1.0 stepped),
        (λ slot e. addressed_twice (lowest x.slots.local.slots) slot x.local.requests e),
        (λ slot e. addressed_twice (lowest x.slots.remote.slots) slot x.remote.requests e),
      ),
      knows_ready (IsSaid (event ∷ before)) (facts (event ∷ before)) x.row x
          (subst (λ (due : NeedData). Knows (IsSaid (event ∷ before)) (facts_by event.read (facts before) due event.came) x) run.1.0 said),
    )

pub keeps : (turns : Option ℕ) (past : List Own) → IsRunBy (Next turns) past → Kept turns past
keeps turns past run = (all_kept turns past run).0

knows : (turns : Option ℕ) (past : List Own) → IsRunBy (Next turns) past → Known turns past
knows turns past run = (all_kept turns past run).1

-- What is due

module _ (Gives : Channel → List ℕ → Type 0) (Opens Appends : List ℕ → Type 0) (Writes : Fd → ℕ → List ℕ → Type 0) where
  abbrev GiveOf : Port → List ℕ → Type 0
  GiveOf port.Lspawn text = Gives Local text
  GiveOf port.Rspawn text = Gives Remote text
  GiveOf p text = Unit {0}

  abbrev OpenOf : How → List ℕ → Type 0
  OpenOf how.Write name = Opens name
  OpenOf how.Append name = Appends name
  OpenOf h name = Unit {0}

  abbrev CallOf : CallData → Type 0
  CallOf (call.Open name h) = OpenOf h name
  CallOf (call.WriteAt fd place bytes) = Writes fd place bytes
  CallOf other = Unit {0}

  abbrev DueOf : NeedData → Type 0
  DueOf (needs.File call) = CallOf call
  DueOf (needs.Give p text) = GiveOf p text
  DueOf other = Unit {0}

  start_due : (row : StartRow) (d : Desk) → DueOf (due_at (at.Start row) d)
  start_due (start.Control file Opening) d = tt
  start_due (start.Control file (Going fd)) d = tt
  start_due (start.Control file (Closing fd)) d = tt
  start_due (start.Control file (Shutting fd)) d = tt
  start_due start.GreetLocal d = tt
  start_due (start.GreetRemote limit) d = tt
  start_due (start.Scan split) d = tt
  start_due (start.StatTodo split n) d = tt
  start_due (start.ReadInfo split n Opening) d = tt
  start_due (start.ReadInfo split n (Going fd)) d = tt
  start_due (start.ReadInfo split n (Closing fd)) d = tt
  start_due (start.ReadInfo split n (Shutting fd)) d = tt
  start_due (start.StatInfo split n) d = tt
  start_due (start.StatLocal split n birth) d = tt
  start_due (start.StatRemote split n birth local) d = tt
  start_due start.Over d = tt
  start_due (start.Ended status) d = tt

  pass_due : (row : PassRow) (p : Pass) → DueOf (pass_table.due_at row p)
  pass_due (todo.Clear t) p = tt
  pass_due todo.StatMess p = tt
  pass_due todo.OpenTodo p = tt
  pass_due (todo.ReadTodo fd) p = tt
  pass_due (todo.CloseTodo fd) p = tt
  pass_due (todo.Create t) p = tt
  pass_due (todo.Append t fd done) p = tt
  pass_due (todo.Sync t fd) p = tt
  pass_due (todo.Close t fd) p = tt
  pass_due (todo.Shut fd why) p = tt
  pass_due todo.Give p = tt
  pass_due todo.Answer p = tt
  pass_due todo.Done p = tt
  pass_due (todo.Left why) p = tt
  pass_due todo.Lost p = tt

  -- a note that has begun opens its file no more
  note_due : (row : NoteRow) (w : Writing) → (row ≡ written.Open → ⊥) → DueOf (note_due_at row w)
  note_due written.Open w begun = absurd (begun refl)
  note_due written.Create w begun = tt
  note_due (written.Stat fd) w begun = tt
  note_due (written.Read fd place len) w begun = tt
  note_due (written.Append fd done) w begun = tt
  note_due (written.Sync fd) w begun = tt
  note_due (written.Close fd) w begun = tt
  note_due (written.Shut fd) w begun = tt
  note_due written.Written w begun = tt
  note_due written.Failed w begun = tt

  return_due : (row : ReturnRow) (r : Returning) → DueOf (return_due_at row r)
  return_due back.Open r = tt
  return_due (back.ReadNotes fd) r = tt
  return_due (back.CloseNotes fd) r = tt
  return_due back.OpenMessage r = tt
  return_due (back.ReadMessage fd) r = tt
  return_due (back.CloseMessage fd) r = tt
  return_due (back.Shut fd) r = tt
  return_due back.Start r = tt
  return_due (back.Give pid) r = tt
  return_due (back.Await pid) r = tt
  return_due back.Unlink r = tt
  return_due back.Discard r = tt
  return_due back.Over r = tt
  return_due back.Failed r = tt

  finish_due : (row : FinishRow) (n : ℕ) (d : Desk) → DueOf (due_at (at.Finish row n) d)
  finish_due finish.OpenBounce n d = tt
  finish_due finish.Return n d = return_due d.bounce.row d.bounce
  finish_due finish.UnlinkInfo n d = tt
  finish_due finish.Give n d = tt
  finish_due finish.Take n d = tt
  finish_due finish.Later n d = tt
  finish_due finish.Over n d = tt
  finish_due finish.Lost n d = tt

  sweep_due : (row : SweepRow) (d : Desk) → DueOf (due_at (at.Sweep row) d)
  sweep_due sweep.First d = tt
  sweep_due (sweep.Next split) d = tt
  sweep_due (sweep.StatMess split n) d = tt
  sweep_due (sweep.StatTodo split n) d = tt
  sweep_due (sweep.StatInfo split n todo) d = tt
  sweep_due (sweep.Give split n) d = tt
  sweep_due (sweep.Take split n) d = tt
  sweep_due sweep.Over d = tt
  sweep_due sweep.Lost d = tt

  file_due : (c : Channel) (n begun : ℕ) (reading : Reading) (d : Desk) → DueOf (due_at (at.ReadFile c n begun reading) d)
  file_due c n begun Opening d = tt
  file_due c n begun (Going fd) d = tt
  file_due c n begun (Closing fd) d = tt
  file_due c n begun (Shutting fd) d = tt

  -- it is so at each row, if it is at a request, at the open of a mark, and at its write
  row_due : (row : Row) (d : Desk) → ((c : Channel) → row ≡ at.Request c → Gives c (first_text (link c d).requests))
      → ((m : Marked) → row ≡ at.Mark mark.Open m → Opens (path (name_of (file_of m.channel m.n)))) → ((fd : Fd) (m : Marked) → row ≡ at.Mark (mark.Write fd) m → Writes fd m.place (codes "D"))
      → ((m : Marked) → row ≡ at.Mark mark.Note m → Appends (bounce_path m.n)) → ((m : Marked) → row ≡ at.Mark mark.Noting m → d.note.row ≡ written.Open → ⊥)
      → DueOf (due_at row d)
  row_due (at.Start row) d gives opens writes notes under = start_due row d
  row_due (at.Turn p) d gives opens writes notes under = tt
  row_due (at.TakeLink c) d gives opens writes notes under = tt
  row_due (at.Mark mark.Note m) d gives opens writes notes under = notes m refl
  row_due (at.Mark mark.Noting m) d gives opens writes notes under = note_due d.note.row d.note (under m refl)
  row_due (at.Mark mark.Open m) d gives opens writes notes under = opens m refl
  row_due (at.Mark (mark.Write fd) m) d gives opens writes notes under = writes fd m refl
  row_due (at.Mark (mark.Close fd done) m) d gives opens writes notes under = tt
  row_due (at.UnlinkFile c n p) d gives opens writes notes under = tt
  row_due (at.ReadFile c n begun reading) d gives opens writes notes under = file_due c n begun reading d
  row_due (at.Request Local) d gives opens writes notes under = gives Local refl
  row_due (at.Request Remote) d gives opens writes notes under = gives Remote refl
  row_due (at.FindTodo search) d gives opens writes notes under = tt
  row_due at.InTodo d gives opens writes notes under = pass_due d.pass.row d.pass
  row_due (at.Finish row n) d gives opens writes notes under = finish_due row n d
  row_due (at.Sweep row) d gives opens writes notes under = sweep_due row d
  row_due (at.Ended status) d gives opens writes notes under = tt

-- The next request

some_flight : (o : Option Attempt) → IsSome o → IsSome (option_map task_of o)
some_flight None h = absurd (cc)
some_flight (Some a) h = refl

next_task : (x : Attempt) (left : List Attempt) (tasks : List Task) → (left ≡ []) ⊎ (map task_of left ≡ tasks) → slice_get left 0 ≡ Some x → (rest : List Task) × (tasks ≡ task_of x ∷ rest)
next_task x [] tasks h e = absurd (cc)
next_task x (y ∷ left) tasks h e = ⊎_elim
    (λ none. absurd (cc))
    (λ are. (map task_of left, sym are ∙ ap (λ (z : Attempt). task_of z ∷ map task_of left) (head_is y x e)))
    h

not_again : (o : Option Attempt) (t : Task) (left : List Attempt) (x : Attempt) → ((y : Attempt) → o ≡ Some y → Far y.n y.place left) → slice_get left 0 ≡ Some x
    → option_map task_of o ≡ Some t → t.n ≡ x.n → t.place ≢ x.place
not_again None t left x far first e = absurd (cc)
not_again (Some y) t left x far first e = subst (λ (u : Task). u.n ≡ x.n → u.place ≢ x.place) (some_is (task_of y) t e) (first_far y.n y.place left x (far y refl) first)

is_request : (past : List Own) (a : Account) (lane : Lane) (link : Link) → Fits false a lane link → a.to_mark ≡ [] → Asked (IsSaid past) link.requests lane.left → Addressed lane link → (slot : ℕ) (x : Attempt) → lowest lane.slots ≡ Some slot → next lane ≡ Some x
    → IsRequest past a (first_text link.requests)
is_request past a lane link h bare asked w slot x low first =
    let least : IsLeastFree lane.slots (Some slot) = subst (IsLeastFree lane.slots) low (lowest_is_least lane.slots) in
    let text : (sender : List ℕ) × IsSaid past x.n sender × (first_text link.requests ≡ to_slot slot (request_of x.n sender x.address)) = asked_first (IsSaid past) slot x link.requests lane.left asked first (w slot low) in
    let head : (rest : List Task) × (a.to_give ≡ task_of x ∷ rest) = next_task x lane.left a.to_give h.1 first in record {
      slot = slot;
      task = task_of x;
      rest = head.0;
      sender = text.0;
      next = head.1;
      free = sym (h.0 slot) ∙ ap (option_map task_of) least.1;
      lowest = λ k lt. subst (λ (o : Option Task). IsSome o) (h.0 k) (some_flight (attempt_in lane.slots k) (least.2 k lt));
      limited = let below : slot < length lane.slots = least.0 in let le : length lane.slots ≤ a.limit = h.5.limited in omega arith;
      once = λ k t e. not_again (attempt_in lane.slots k) t lane.left x (λ y there. h.5.far k y there) first (h.0 k ∙ e);
      unmarked = bare;
      from = text.1;
      is = text.2;
    }

-- Each need is as the past says

abbrev pub Due : List Own → NeedData → Type 0
Due past due = DueOf (λ c text. IsRequest past (account c past) text) (λ name. IsOpened past name) (λ name. IsNoteOpened past name) (λ fd place bytes. IsMark past fd place bytes) due

is_mark : (past : List Own) (fd : Fd) (m : Marked) → WasOpened past fd m → IsMark past fd m.place (codes "D")
is_mark past fd m was = record {
  event = was.event;
  before = was.before;
  told = was.told;
  name = was.name;
  newest = was.newest;
  due = was.due;
  came = was.got;
  fd_is = was.fd_is;
  opens = was.opens;
  at = was.at;
  letter = refl;
}

-- a note under way has begun
pub has_begun : (P : MarkRow → Option Mark → Marked → Writing → Type 0) (f : Option Work) (al ar : Account) (row : Row) (m : Marked) (d : Desk) → FitAt P f al ar row d → row ≡ at.Mark mark.Noting m → d.note.row ≡ written.Open → ⊥
has_begun P f al ar row m d fit e is =
    let at_note : FitAt P f al ar (at.Mark mark.Noting m) d = subst (λ (r : Row). FitAt P f al ar r d) e fit in
    subst (NoteStands P f al ar) is at_note.1

is_due : (turns : Option ℕ) (past : List Own) (row : Row) → let d : Desk = sender_after turns past in
    FitAt (Was past) (work past) (account Local past) (account Remote past) row d → Addressed d.slots.local d.local → Addressed d.slots.remote d.remote
    → KnowsAt (IsSaid past) (facts past) row d → Due past (due_at row d)
is_due turns past row fit wl wr knows = row_due (λ c text. IsRequest past (account c past) text) (λ name. IsOpened past name) (λ name. IsNoteOpened past name) (λ fd place bytes. IsMark past fd place bytes) row d
    gives opens writes notes (λ m e. has_begun (Was past) (work past) (account Local past) (account Remote past) row m d fit e)
  where
    d : Desk
    d = sender_after turns past

    At : Row → Type 0
    At r = FitAt (Was past) (work past) (account Local past) (account Remote past) r d

    Knowing : Row → Type 0
    Knowing r = KnowsAt (IsSaid past) (facts past) r d

    gives_at : (c : Channel) → At (at.Request c) → Knowing (at.Request c) → IsRequest past (account c past) (first_text (link c d).requests)
    gives_at Local h k = is_request past (account Local past) d.slots.local d.local h.0.0.0 h.0.2.0 k.0.1 wl h.1.0 h.1.1 h.1.2 h.1.3
    gives_at Remote h k = is_request past (account Remote past) d.slots.remote d.remote h.0.0.1 h.0.2.1 k.0.2 wr h.1.0 h.1.1 h.1.2 h.1.3

    gives : (c : Channel) → row ≡ at.Request c → IsRequest past (account c past) (first_text (link c d).requests)
    gives c e = gives_at c (subst At e fit) (subst Knowing e knows)

    opens : (m : Marked) → row ≡ at.Mark mark.Open m → IsOpened past (path (name_of (file_of m.channel m.n)))
    opens m e = (is_opened past (work past) m d (subst At e fit)).0

    notes : (m : Marked) → row ≡ at.Mark mark.Note m → IsNoteOpened past (bounce_path m.n)
    notes m e = is_noted past (work past) m d (subst At e fit)

    writes_at : (fd : Fd) (m : Marked) → At (at.Mark (mark.Write fd) m) → IsMark past fd m.place (codes "D")
    writes_at fd m h = is_mark past fd m h.1

    writes : (fd : Fd) (m : Marked) → row ≡ at.Mark (mark.Write fd) m → IsMark past fd m.place (codes "D")
    writes fd m e = writes_at fd m (subst At e fit)

pub due_is : (turns : Option ℕ) (past : List Own) (now : ℕ) (ready : Ready) → IsRunBy (Next turns) past → Due past (Next turns past now ready)
due_is turns past now ready run =
    let d : Desk = sender_after turns past in
    let k : Kept turns past = keeps turns past run in
    is_due turns past (row_now d now ready) (arrives (Was past) (work past) (account Local past) (account Remote past) (frees past) d.row d now ready k.0) k.1 k.2
    (arrive_says (IsSaid past) (facts past) d now ready d.row (knows turns past run))

-- The write of a mark, by its row

-- its file was opened directly before
pub write_opened : (turns : Option ℕ) (past : List Own) (now : ℕ) (ready : Ready) → IsRunBy (Next turns) past → (fd : Fd) (m : Marked)
    → row_now (sender_after turns past) now ready ≡ at.Mark (mark.Write fd) m → WasOpened past fd m
write_opened turns past now ready run fd m is =
    let d : Desk = sender_after turns past in
    let fit : FitAt (Was past) (work past) (account Local past) (account Remote past) (row_now d now ready) d =
    arrives (Was past) (work past) (account Local past) (account Remote past) (frees past) d.row d now ready (keeps turns past run).0
    in (subst (λ (r : Row). FitAt (Was past) (work past) (account Local past) (account Remote past) r d) is fit).1

-- and nothing else is written over
pub write_row : (turns : Option ℕ) (past : List Own) (now : ℕ) (ready : Ready) → IsRunBy (Next turns) past → (fd : Fd) (place : ℕ) (bytes : List ℕ)
    → Next turns past now ready ≡ needs.File (call.WriteAt fd place bytes)
    → (m : Marked) × (row_now (sender_after turns past) now ready ≡ at.Mark (mark.Write fd) m) × (place ≡ m.place)
write_row turns past now ready run fd place bytes due =
    let d : Desk = sender_after turns past in
    let row : Row = row_now d now ready in
    let fit : FitAt (Was past) (work past) (account Local past) (account Remote past) row d =
    arrives (Was past) (work past) (account Local past) (account Remote past) (frees past) d.row d now ready (keeps turns past run).0 in
    let Written : Fd → ℕ → List ℕ → Type 0 = λ f p b. (m : Marked) × (row ≡ at.Mark (mark.Write f) m) × (p ≡ m.place) in
    subst (DueOf (λ c text. Unit {0}) (λ name. Unit {0}) (λ name. Unit {0}) Written) due
    (row_due (λ c text. Unit {0}) (λ name. Unit {0}) (λ name. Unit {0}) Written row d (λ c e. tt) (λ m e. tt) (λ f m e. (m, e, refl)) (λ m e. tt)
    (λ m e. has_begun (Was past) (work past) (account Local past) (account Remote past) row m d fit e))

-- After the open of a mark its write is due

-- only a mark opens for writing
opens_for_mark : (row : Row) (d : Desk) (name : List ℕ) → ((m : Marked) → row ≡ at.Mark mark.Noting m → d.note.row ≡ written.Open → ⊥) → due_at row d ≡ needs.File (call.Open name how.Write) → (m : Marked) × (row ≡ at.Mark mark.Open m)
opens_for_mark row d name begun e = subst (DueOf (λ c text. Unit {0}) (λ name. (m : Marked) × (row ≡ at.Mark mark.Open m)) (λ name. Unit {0}) (λ fd place bytes. Unit {0})) e
    (row_due (λ c text. Unit {0}) (λ name. (m : Marked) × (row ≡ at.Mark mark.Open m)) (λ name. Unit {0}) (λ fd place bytes. Unit {0}) row d (λ c is. tt) (λ m is. (m, is)) (λ fd m is. tt) (λ m is. tt) begun)

-- only a note opens to append
pub opens_for_note : (row : Row) (d : Desk) (name : List ℕ) → ((m : Marked) → row ≡ at.Mark mark.Noting m → d.note.row ≡ written.Open → ⊥) → due_at row d ≡ needs.File (call.Open name how.Append) → (m : Marked) × (row ≡ at.Mark mark.Note m)
opens_for_note row d name begun e = subst (DueOf (λ c text. Unit {0}) (λ name. Unit {0}) (λ name. (m : Marked) × (row ≡ at.Mark mark.Note m)) (λ fd place bytes. Unit {0})) e
    (row_due (λ c text. Unit {0}) (λ name. Unit {0}) (λ name. (m : Marked) × (row ≡ at.Mark mark.Note m)) (λ fd place bytes. Unit {0}) row d (λ c is. tt) (λ m is. tt) (λ fd m is. tt) (λ m is. (m, is)) begun)

written_next : (row : Row) (m : Marked) (fd : Fd) (d : Desk) (now : ℕ) (ready : Ready) → row ≡ at.Mark (mark.Write fd) m → Overwrites fd (due_at (arrive row d now ready) d)
written_next row m fd d now ready e = subst (λ (r : Row). Overwrites fd (due_at (arrive r d now ready) d)) (sym e) (record { place = m.place; is = refl })

opened_row : (row : Row) (m : Marked) (now : ℕ) (got : GotData) (told : Told) (fd : Fd) (d : Desk) → row ≡ at.Mark mark.Open m → got ≡ came.Answered told → told.answer ≡ answer.Opened fd
    → (act row now got d).row ≡ at.Mark (mark.Write fd) m
opened_row row m now got told fd d is came_is fd_is =
    ap (λ (r : Row). (act r now got d).row) is
    ∙ ap (λ (g : GotData). (act (at.Mark mark.Open m) now g d).row) came_is
    ∙ ap (λ (a : Answer). (act (at.Mark mark.Open m) now (came.Answered (record { answer = a; bytes = told.bytes })) d).row) fd_is

overwrites : (turns : Option ℕ) (past : List Own) (now : ℕ) (ready : Ready) → IsRunBy (Next turns) past → (fd : Fd) → HasOpened past fd → Overwrites fd (Next turns past now ready)
overwrites turns past now ready run fd o = subst (λ (p : List Own). Overwrites fd (Next turns p now ready)) (sym o.newest) goes where
  was : IsRunBy (Next turns) (o.event ∷ o.before)
  was = subst (IsRunBy (Next turns)) o.newest run

  d : Desk
  d = sender_after turns o.before

  row : Row
  row = row_now d o.event.read o.event.ready

  fit : FitAt (Was o.before) (work o.before) (account Local o.before) (account Remote o.before) row d
  fit = arrives (Was o.before) (work o.before) (account Local o.before) (account Remote o.before) (frees o.before) d.row d o.event.read o.event.ready (keeps turns o.before was.0).0

  marks : (m : Marked) × (row ≡ at.Mark mark.Open m)
  marks = opens_for_mark row d o.name (λ m e. has_begun (Was o.before) (work o.before) (account Local o.before) (account Remote o.before) row m d fit e) (was.1.0 ∙ o.due)

  goes : Overwrites fd (Next turns (o.event ∷ o.before) now ready)
  goes = written_next (sender_after turns (o.event ∷ o.before)).row marks.0 fd (sender_after turns (o.event ∷ o.before)) now ready
      (opened_row row marks.0 o.event.read o.event.came o.told fd d marks.1 o.came o.fd_is)

-- The laws

pub gives_requests : (turns : Option ℕ) (past : List Own) (now : ℕ) (ready : Ready) → IsRunBy (Next turns) past → GivesRequests past (Next turns past now ready)
gives_requests turns past now ready run Local text e = subst (Due past) e (due_is turns past now ready run)
gives_requests turns past now ready run Remote text e = subst (Due past) e (due_is turns past now ready run)

pub marks_reports : (turns : Option ℕ) (past : List Own) (now : ℕ) (ready : Ready) → IsRunBy (Next turns) past → MarksReports past (Next turns past now ready)
marks_reports turns past now ready run = record {
  opens = λ name e. subst (Due past) e (due_is turns past now ready run);
  writes = λ fd place bytes e. subst (Due past) e (due_is turns past now ready run);
  follows = overwrites turns past now ready run;
}
