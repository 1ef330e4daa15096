-- Where a sender stands while its turn has done nothing yet.
use Rattle.std.proofs.Common.{◌≡◌, ◌⊎◌, inl, inr, ℕ, ◌-◌, List, [], ◌∷◌, map, Bool, true, false, not, ◌&&◌, ◌||◌, if◌then◌else◌, Option, Some, None, refl, sym, ap, ◌∙◌}
use Rattle.std.specs.Prelude.{is_some, nat_lt, slice_get}
use Rattle.std.proofs.lemmas.Bool.{and_parts}
use Rattle.bounce_record.specs.declared.note_row.NoteRow.{NoteRow}
use Rattle.bounce_record.specs.declared.note_row.NoteRow.TheVariants as written
use Rattle.bounce_record.specs.Returning.{return_begun}
use Rattle.send_parts.specs.Finish.{finish_to}
use Rattle.send_parts.specs.Sweep.{sweep_to}
use Rattle.call_fs.specs.Past.{IsRunBy}
use Rattle.call_fs.specs.declared.calls.Fd.{Fd}
use Rattle.call_fs.specs.declared.past.GotData.{GotData}
use Rattle.call_fs.specs.declared.past.Own.{Own}
use Rattle.call_fs.specs.declared.program.Ready.{Ready}
use Rattle.retry_schedule.specs.Due.{first_due}
use Rattle.send_core.specs.declared.desk.Desk.{Desk}
use Rattle.send_parts.specs.declared.row.MarkRow.{MarkRow}
use Rattle.send_parts.specs.declared.row.MarkRow.TheVariants as mark
use Rattle.send_parts.specs.declared.row.Marked.{Marked}
use Rattle.send_parts.specs.declared.row.Point.{Point}
use Rattle.send_parts.specs.declared.row.Point.TheVariants as point
use Rattle.send_parts.specs.declared.row.Row.{Row}
use Rattle.send_parts.specs.declared.row.Row.TheVariants as at
use Rattle.send_core.specs.Agrees.{owed_at}
use Rattle.send_core.specs.Desk.{closed_by, due_on, goes, next_idle, past_finish, past_todo, retried, stands_at, sweep_due, turn_counted, turn_over}
use Rattle.send_core.specs.Finish.{act_finish, act_sweep, bounce_on, finish_at, looked_up, returned_to, sweep_at, sweep_begun}
use Rattle.send_core.specs.Past.{account, work}
use Rattle.send_core.specs.Stands.{is_between, is_search}
use Rattle.send_core.specs.Start.{entered, start_at}
use Rattle.send_core.specs.Table.{Next, arrive, beginning, finishing_by, from_begin, from_local, from_remote, from_reports, from_sweep, from_take, going_on, holds, link_of, marking, marking_by, moved, moved_by, or_else, passing, row_now, sweeping, taking}
use Rattle.send_core.specs.Turn.{act_mark, mark_opened, mark_over, noted_at, todo_found, todo_named, todo_none, todo_on, todo_over, todo_went, unlinked}
use Rattle.send_core.proofs.Runs.{Was, keeps}
use Rattle.send_core.proofs.Standing.{FitAt, IsBare}
use Rattle.send_jobs.specs.declared.attempts.Mark.{Mark}
use Rattle.send_known.specs.declared.channel.Channel.{Channel}
use Rattle.send_known.specs.declared.channel.Channel.TheVariants.{Local, Remote}
use Rattle.send_jobs.specs.declared.jobs.Job.{Job}
use Rattle.send_jobs.specs.Lanes.{next}
use Rattle.send_jobs.specs.Sending.{lane}
use Rattle.send_jobs.specs.Slots.{lowest}
use Rattle.send_parts.specs.declared.reply.Way.{Way}
use Rattle.send_parts.specs.declared.reply.Way.TheVariants as way
use Rattle.send_parts.specs.declared.rows.FinishRow.{FinishRow}
use Rattle.send_parts.specs.declared.rows.FinishRow.TheVariants as finish
use Rattle.send_parts.specs.declared.rows.Search.{Search}
use Rattle.send_parts.specs.declared.rows.Search.TheVariants as search
use Rattle.send_parts.specs.declared.rows.StartRow.{StartRow}
use Rattle.send_parts.specs.declared.rows.StartRow.TheVariants as start
use Rattle.send_parts.specs.declared.rows.SweepRow.{SweepRow}
use Rattle.send_parts.specs.declared.rows.SweepRow.TheVariants as sweep
use Rattle.send_parts.specs.Files.{message_number}
use Rattle.send_parts.specs.Replies.{Said, said}
use Rattle.send_parts.specs.Rows.{is_again}
use Rattle.todo_pass.specs.declared.row.Row.{Row as PassRow}
use Rattle.todo_pass.specs.declared.row.Row.TheVariants as todo
use Rattle.todo_pass.specs.Rows.{is_done}
use Rattle.todo_pass.specs.Table.{Pass, answer_row}
use Rattle.settle_law.specs.inside.Begins.{GoesOn, SearchesBegin}
use Rattle.settle_law.specs.Rests.{BeginsTurn}
use Rattle.settle_law.specs.Suffices.{desk_of}

-- from the start a turn searches only if a number was left
abbrev goes_on : Search → List ℕ → Bool
goes_on search.AfterLeft left = false
goes_on search.FromStart [] = false
goes_on search.FromStart (b ∷ bs) = true
goes_on (search.AfterStray again) left = true

abbrev is_calm : Row → List ℕ → Bool
is_calm (at.Start row) left = true
is_calm (at.Turn point.TakeLocal) left = true
is_calm (at.Turn point.Finish) left = true
is_calm (at.Turn point.Sweep) left = true
is_calm (at.FindTodo s) left = goes_on s left
is_calm (at.Ended status) left = true
is_calm row left = false

-- it stands at such a row, unless its turn has done something
abbrev IsQuiet : Desk → Type 0
IsQuiet d = d.busy ≡ false → is_calm d.row d.last_left ≡ true

quiet_busy : (d : Desk) → d.busy ≡ true → IsQuiet d
quiet_busy d busy none = let both : true ≡ false = sym busy ∙ none in absurd (cc)

if_quiet : (b : Bool) (x y : Desk) → IsQuiet x → IsQuiet y → IsQuiet (if b then x else y)
if_quiet true x y p q = p
if_quiet false x y p q = q

-- Where a turn ends

counted_quiet : (turns : Option ℕ) (d : Desk) → IsQuiet (turn_counted turns d)
counted_quiet None d = λ e. refl
counted_quiet (Some k) d = if_quiet (nat_lt 1 k) (record d { turns = Some (k - 1); row = at.Turn point.TakeLocal }) (record d { turns = Some 0; row = at.Ended 0 }) (λ e. refl) (λ e. refl)

over_quiet : (d : Desk) → IsQuiet (turn_over d)
over_quiet d = counted_quiet d.turns (record d { busy = false })

finish_quiet : (now : ℕ) (d : Desk) → IsQuiet (past_finish now d)
finish_quiet now d = if_quiet (sweep_due now d.swept) (stands_at d point.Sweep) (turn_over d) (λ e. refl) (over_quiet d)

todo_quiet : (now : ℕ) (d : Desk) → IsQuiet (past_todo now d)
todo_quiet now d = if_quiet (is_some (next_idle now d) || sweep_due now d.swept) (stands_at d point.Finish) (turn_over d) (λ e. refl) (over_quiet d)

-- A row

calm_start : (row : StartRow) (left : List ℕ) → is_calm (start_at row) left ≡ true
calm_start start.Over left = refl
calm_start (start.Ended status) left = refl
calm_start row left = refl

none_quiet : (again : Bool) (left : List ℕ) (now : ℕ) (d : Desk) → left ≡ d.last_left → IsQuiet (todo_none again left now d)
none_quiet true left now d same = todo_quiet now d
none_quiet false [] now d same = todo_quiet now d
none_quiet false (b ∷ bs) now d same = λ e. ap (goes_on search.FromStart) (sym same)

found_quiet : (o : Option ℕ) (text : List ℕ) (s : Search) (d : Desk) → IsQuiet (todo_found o text s d)
found_quiet None text s d = λ e. refl
found_quiet (Some n) text s d = λ e. absurd (cc)

named_quiet : (w : Way) (text : List ℕ) (s : Search) (now : ℕ) (d : Desk) → IsQuiet (todo_named w text s now d)
named_quiet way.Fine text s now d = found_quiet (message_number text) text s d
named_quiet way.Over text s now d = none_quiet (is_again s) d.last_left now d refl
named_quiet way.Absent text s now d = none_quiet (is_again s) d.last_left now d refl
named_quiet way.Broken text s now d = none_quiet (is_again s) d.last_left now d refl
named_quiet way.NoMemory text s now d = none_quiet (is_again s) d.last_left now d refl

on_quiet : (row : PassRow) (p : Pass) (now : ℕ) (d : Desk) → d.busy ≡ true → IsQuiet (todo_on row p now d)
on_quiet (todo.Left why) p now d busy = todo_quiet now _
on_quiet todo.Lost p now d busy = λ e. refl
on_quiet row p now d busy = quiet_busy (record d { row = at.InTodo; pass = p }) busy

over_pass_quiet : (row : PassRow) (p : Pass) (now : ℕ) (d : Desk) → d.busy ≡ true → IsQuiet (todo_over row p now d)
over_pass_quiet row p now d busy = if_quiet (is_done row) _ (todo_on row p now d) (todo_quiet now _) (on_quiet row p now d busy)

went_quiet : (row : PassRow) (came : GotData) (p : Pass) (now : ℕ) (d : Desk) → d.busy ≡ true → IsQuiet (todo_went row came p now d)
went_quiet todo.Answer came p now d busy = over_pass_quiet (answer_row came) p now d busy
went_quiet row came p now d busy = on_quiet p.row p now d busy

finish_at_quiet : (row : FinishRow) (n now : ℕ) (d : Desk) → d.busy ≡ true → IsQuiet (finish_at row n now d)
finish_at_quiet finish.Later n now d busy = finish_quiet now _
finish_at_quiet finish.Over n now d busy = finish_quiet now _
finish_at_quiet finish.Lost n now d busy = λ e. refl
finish_at_quiet row n now d busy = quiet_busy (goes d (at.Finish row n)) busy

sweep_at_quiet : (row : SweepRow) (d : Desk) → d.busy ≡ true → IsQuiet (sweep_at row d)
sweep_at_quiet sweep.Over d busy = over_quiet d
sweep_at_quiet sweep.Lost d busy = λ e. refl
sweep_at_quiet row d busy = quiet_busy (goes d (at.Sweep row)) busy

closed_busy : (o : Option Job) (c : Channel) (n : ℕ) (p : Point) (d : Desk) → (closed_by o c n p d).busy ≡ d.busy
closed_busy None c n p d = refl
closed_busy (Some job) c n p d = by job.unmarked
  where
    by : (b : Bool) → (if b then retried c n job.begun (stands_at d p) else goes d (at.UnlinkFile c n p)).busy ≡ d.busy
    by true = refl
    by false = refl

over_busy : (b : Bool) (m : Marked) (d : Desk) → (mark_over b m d).busy ≡ d.busy
over_busy true m d = closed_busy _ m.channel m.n point.Reports _
over_busy false m d = closed_busy _ m.channel m.n point.Reports _

noted_busy : (row : NoteRow) (m : Marked) (d : Desk) → (noted_at row m d).busy ≡ d.busy
noted_busy written.Written m d = refl
noted_busy written.Failed m d = over_busy false m d
noted_busy row m d = refl

opened_busy : (w : Way) (m : Marked) (fd : Fd) (d : Desk) → (mark_opened w m fd d).busy ≡ d.busy
opened_busy way.Fine m fd d = refl
opened_busy way.Over m fd d = over_busy false m d
opened_busy way.Absent m fd d = over_busy false m d
opened_busy way.Broken m fd d = over_busy false m d
opened_busy way.NoMemory m fd d = over_busy false m d

mark_busy : (row : MarkRow) (m : Marked) (came : GotData) (d : Desk) → (act_mark row m came d).busy ≡ d.busy
mark_busy mark.Note m came d = noted_busy _ m _
mark_busy mark.Noting m came d = noted_busy _ m _
mark_busy mark.Open m came d = opened_busy (said came).way m (said came).fd d
mark_busy (mark.Write fd) m came d = refl
mark_busy (mark.Close fd done) m came d = over_busy done m d

unlinked_busy : (w : Way) (c : Channel) (n : ℕ) (p : Point) (now : ℕ) (d : Desk) → (unlinked w c n p now d).busy ≡ d.busy
unlinked_busy way.Fine c n p now d = refl
unlinked_busy way.Over c n p now d = refl
unlinked_busy way.Absent c n p now d = refl
unlinked_busy way.Broken c n p now d = refl
unlinked_busy way.NoMemory c n p now d = refl

-- a row at which a turn has done something
abbrev needs_finish : FinishRow → Bool
needs_finish finish.OpenBounce = false
needs_finish row = true

abbrev needs_sweep : SweepRow → Bool
needs_sweep sweep.First = false
needs_sweep row = true

abbrev needs_busy : Row → Bool
needs_busy (at.Mark row m) = true
needs_busy (at.UnlinkFile c n p) = true
needs_busy at.InTodo = true
needs_busy (at.Finish row n) = needs_finish row
needs_busy (at.Sweep row) = needs_sweep row
needs_busy row = false

act_finish_quiet : (row : FinishRow) (n now : ℕ) (came : GotData) (d : Desk) → (needs_finish row ≡ true → d.busy ≡ true) → IsQuiet (act_finish row n now came d)
act_finish_quiet finish.OpenBounce n now came d busy =
    let r = bounce_on n now came (return_begun n) d.book in finish_at_quiet (returned_to r.row) n now (record d { bounce = r; busy = true }) refl
act_finish_quiet finish.Return n now came d busy =
    let r = bounce_on n now came d.bounce d.book in finish_at_quiet (returned_to r.row) n now (record d { bounce = r }) (busy refl)
act_finish_quiet row n now came d busy = finish_at_quiet (finish_to row (said came).way) n now d (busy refl)

act_sweep_quiet : (row : SweepRow) (now : ℕ) (s : Said) (d : Desk) → (needs_sweep row ≡ true → d.busy ≡ true) → IsQuiet (act_sweep row now s d)
act_sweep_quiet sweep.First now s d busy = sweep_at_quiet (sweep_to sweep.First now s d.book) (looked_up sweep.First s (sweep_begun sweep.First now d)) refl
act_sweep_quiet row now s d busy = sweep_at_quiet (sweep_to row now s d.book) (looked_up row s (sweep_begun row now d)) (busy refl)

act_quiet : (row : Row) (now : ℕ) (came : GotData) (d : Desk) → (needs_busy row ≡ true → d.busy ≡ true) → IsQuiet d → IsQuiet (moved_by row now came d)
act_quiet (at.Start row) now came d busy quiet = λ e. calm_start (entered row (said came) d).book.row d.last_left
act_quiet (at.Turn p) now came d busy quiet = quiet
act_quiet (at.TakeLink c) now came d busy quiet = λ e. absurd (cc)
act_quiet (at.Mark row m) now came d busy quiet = quiet_busy (moved_by (at.Mark row m) now came d) (mark_busy row m came d ∙ busy refl)
act_quiet (at.UnlinkFile c n p) now came d busy quiet = quiet_busy (moved_by (at.UnlinkFile c n p) now came d) (unlinked_busy (said came).way c n p now d ∙ busy refl)
act_quiet (at.ReadFile c n begun reading) now came d busy quiet = λ e. absurd (cc)
act_quiet (at.Request c) now came d busy quiet = λ e. absurd (cc)
act_quiet (at.FindTodo s) now came d busy quiet = named_quiet (said came).way (said came).bytes s now d
act_quiet at.InTodo now came d busy quiet = went_quiet d.pass.row came _ now d (busy refl)
act_quiet (at.Finish row n) now came d busy quiet = act_finish_quiet row n now came d busy
act_quiet (at.Sweep row) now came d busy quiet = act_sweep_quiet row now (said came) d busy
act_quiet (at.Ended status) now came d busy quiet = quiet

-- From where a row is arrived at

-- no mark is to be made
abbrev NoMarks : Desk → Type 0
NoMarks d = ((lane Local d.slots).marks ≡ []) × ((lane Remote d.slots).marks ≡ [])

abbrev needs_some : Option Row → Bool
needs_some None = false
needs_some (Some row) = needs_busy row

unneeded : (o : Option Row) (row : Row) → needs_some o ≡ false → needs_busy row ≡ false → needs_busy (or_else o row) ≡ false
unneeded None row first later = later
unneeded (Some one) row first later = first

taking_needs : (c : Channel) (ready : Ready) → needs_some (taking c ready) ≡ false
taking_needs c ready = by (holds (slice_get ready.links (link_of c)))
  where
    by : (b : Bool) → needs_some (if b then Some (at.TakeLink c) else None) ≡ false
    by true = refl
    by false = refl

marking_needs : (c : Channel) (ms : List Mark) → ms ≡ [] → needs_some (marking_by c (slice_get ms 0)) ≡ false
marking_needs c [] none = refl
marking_needs c (m ∷ ms) none = absurd (cc)

going_needs : (c : Channel) (o : Option ℕ) → needs_some (going_on c o) ≡ false
going_needs c None = refl
going_needs c (Some slot) = refl

beginning_needs : (c : Channel) (o : Option (ℕ × ℕ)) → needs_some (beginning c true o) ≡ false
beginning_needs c None = refl
beginning_needs c (Some entry) = refl

passing_needs : (c : Channel) (d : Desk) (now : ℕ) → needs_some (passing c true d now) ≡ false
passing_needs c d now = by (is_some (next (lane c d.slots)))
  where
    by : (b : Bool) → needs_some (if b then going_on c (lowest (lane c d.slots).slots) else beginning c true (first_due now (due_on c d.book.messages))) ≡ false
    by true = going_needs c (lowest (lane c d.slots).slots)
    by false = beginning_needs c (first_due now (due_on c d.book.messages))

sweeping_needs : (d : Desk) (now : ℕ) → needs_some (sweeping d now) ≡ false
sweeping_needs d now = by (sweep_due now d.swept)
  where
    by : (b : Bool) → needs_some (if b then Some (at.Sweep sweep.First) else None) ≡ false
    by true = refl
    by false = refl

finishing_needs : (o : Option ℕ) → needs_some (finishing_by o) ≡ false
finishing_needs None = refl
finishing_needs (Some n) = refl

begin_needs : (d : Desk) (now : ℕ) (ready : Ready) → NoMarks d → needs_busy (from_begin d now ready) ≡ false
begin_needs d now ready none =
    let remote = unneeded (passing Remote true d now) (at.FindTodo search.AfterLeft) (passing_needs Remote d now) refl in
    let local = unneeded (passing Local true d now) (from_remote true d now) (passing_needs Local d now) remote in
    let second = unneeded (marking Remote d) (from_local true d now) (marking_needs Remote (lane Remote d.slots).marks none.1) local in
    let first = unneeded (marking Local d) (or_else (marking Remote d) (from_local true d now)) (marking_needs Local (lane Local d.slots).marks none.0) second in
    let take = unneeded (taking Remote ready) (from_reports d now) (taking_needs Remote ready) first in
    unneeded (taking Local ready) (from_take d now ready) (taking_needs Local ready) take

sweep_needs : (d : Desk) (now : ℕ) (ready : Ready) → NoMarks d → needs_busy (from_sweep d now ready) ≡ false
sweep_needs d now ready none = unneeded (sweeping d now) (from_begin d now ready) (sweeping_needs d now) (begin_needs d now ready none)

none_marked : (ms : List Mark) → map owed_at ms ≡ [] → ms ≡ []
none_marked [] e = refl
none_marked (m ∷ ms) e = absurd (cc)

-- where a turn begins no mark is to be made
module _ (past : List Own) where
  abbrev Fits : Row → Desk → Type 0
  Fits row d = FitAt (Was past) (work past) (account Local past) (account Remote past) row d

  unmarked : (p : Point) (d : Desk) → IsBare (account Local past) (account Remote past) → Fits (at.Turn p) d → NoMarks d
  unmarked p d bare h = (none_marked (lane Local d.slots).marks (h.0.0.4 ∙ bare.0), none_marked (lane Remote d.slots).marks (h.0.1.4 ∙ bare.1))

  -- so what needs a turn that has done something isn't arrived at in one that hasn't
  needs_done : (row : Row) (d : Desk) (now : ℕ) (ready : Ready) → Fits row d → is_calm row d.last_left ≡ true → needs_busy (arrive row d now ready) ≡ false
  needs_done (at.Start row) d now ready h calm = refl
  needs_done (at.Turn point.TakeLocal) d now ready h calm = begin_needs d now ready (unmarked point.TakeLocal d h.2 h)
  needs_done (at.Turn point.Finish) d now ready h calm =
      unneeded (finishing_by (next_idle now d)) (from_sweep d now ready) (finishing_needs (next_idle now d)) (sweep_needs d now ready (unmarked point.Finish d h.2 h))
  needs_done (at.Turn point.Sweep) d now ready h calm = sweep_needs d now ready (unmarked point.Sweep d h.2 h)
  needs_done (at.FindTodo s) d now ready h calm = refl
  needs_done (at.Ended status) d now ready h calm = refl
  needs_done row d now ready h calm = absurd (cc)

  busy_so : (d : Desk) (now : ℕ) (ready : Ready) → Fits d.row d → IsQuiet d → needs_busy (row_now d now ready) ≡ true → d.busy ≡ true
  busy_so d now ready h quiet needs = by d.busy refl
    where
      by : (b : Bool) → d.busy ≡ b → b ≡ true
      by true e = refl
      by false e = let both : false ≡ true = sym (needs_done d.row d now ready h (quiet e)) ∙ needs in absurd (cc)

-- So it stands after each run.

quiet_always : (past : List Own) → IsRunBy (Next None) past → IsQuiet (desk_of past)
quiet_always [] run = λ e. refl
quiet_always (event ∷ before) run =
    let d = desk_of before in
    let quiet = quiet_always before run.0 in
    act_quiet (row_now d event.read event.ready) event.read event.came d (busy_so before d event.read event.ready (keeps None before run.0).0 quiet) quiet

stands_so : (row : Row) (d : Desk) (now : ℕ) (ready : Ready) → is_calm row d.last_left ≡ true → is_search (arrive row d now ready) ≡ true → BeginsTurn row ⊎ GoesOn row d.last_left
stands_so (at.Turn point.TakeLocal) d now ready calm found = inl tt
stands_so (at.Turn point.Finish) d now ready calm found = inl tt
stands_so (at.Turn point.Sweep) d now ready calm found = inl tt
stands_so (at.FindTodo s) d now ready calm found = inr (by s d.last_left calm)
  where
    by : (s : Search) (left : List ℕ) → goes_on s left ≡ true → GoesOn (at.FindTodo s) left
    by search.AfterLeft left e = absurd (cc)
    by search.FromStart [] e = absurd (cc)
    by search.FromStart (b ∷ bs) e = λ none. absurd (cc)
    by (search.AfterStray again) left e = tt
stands_so row d now ready calm found = absurd (cc)

not_true : (b : Bool) → not b ≡ true → b ≡ false
not_true true e = absurd (cc)
not_true false e = refl

pub searches_begin : SearchesBegin
searches_begin past run event ends =
    let d = desk_of past in
    let parts = and_parts (is_search (row_now d event.read event.ready)) (not d.busy && is_between (moved d event).row) ends in
    let idle = not_true d.busy (and_parts (not d.busy) (is_between (moved d event).row) parts.1).0 in
    stands_so d.row d event.read event.ready (quiet_always past run idle) parts.0
