-- The numbers of deliveries.
use Rattle.std.proofs.Common.{◌≡◌, ◌≢◌, ◌⊎◌, ℕ, ◌<◌, ◌≤◌, List, [], ◌∷◌, ◌++◌, drop, length, set, Bool, true, false, if◌then◌else◌, Option, Some, None, refl, sym, ap, ◌∙◌, subst, inl, inr, ⊎_elim, arith}
use Rattle.std.specs.Prelude.{◌||◌, min, is_some, map, slice_get, IsSome}
use Rattle.std.specs.Option.{option_map}
use Rattle.std.proofs.lemmas.Bool.{cases_lt}
use Rattle.std.proofs.lemmas.List.{get_or-set_other, get_or-set_same}
use Rattle.bounce_record.specs.declared.note_row.NoteRow.{NoteRow}
use Rattle.bounce_record.specs.declared.note_row.NoteRow.TheVariants as written
use Rattle.bounce_record.specs.declared.return_row.ReturnRow.{ReturnRow}
use Rattle.bounce_record.specs.declared.return_row.ReturnRow.TheVariants as back
use Rattle.bounce_record.specs.Returning.{Returning, due_at as return_due_at}
use Rattle.bounce_record.specs.Writing.{Writing, due_at as note_due_at}
use Rattle.call_fs.proofs.Maps.{put_cases}
use Rattle.call_fs.specs.Maps.{put}
use Rattle.call_fs.specs.Past.{IsRunBy}
use Rattle.call_fs.specs.Program.{MayCome}
use Rattle.call_fs.specs.declared.calls.How.TheVariants as how
use Rattle.call_fs.specs.declared.past.GotData.{GotData}
use Rattle.call_fs.specs.declared.past.GotData.TheVariants as came
use Rattle.call_fs.specs.declared.past.NeedData.{NeedData}
use Rattle.call_fs.specs.declared.past.NeedData.TheVariants as needs
use Rattle.call_fs.specs.declared.past.Own.{Own}
use Rattle.call_fs.specs.declared.program.Port.TheVariants as port
use Rattle.call_fs.specs.declared.program.Ready.{Ready}
use Rattle.mail_bytes.specs.Told.{raised}
use Rattle.queue_paths.specs.declared.names.Name.TheVariants as name
use Rattle.send_core.proofs.Lists.{free_of, in_range}
use Rattle.send_core.proofs.Runs.{Was, frees, gives_requests, keeps}
use Rattle.send_core.proofs.Standing.{FitAt, arrives}
use Rattle.send_core.specs.Desk.{link, request_sent, stands_at, told, told_all, told_by, with_reader, with_requests}
use Rattle.send_core.specs.Agrees.{task_of}
use Rattle.send_core.specs.Laws.{IsRequest}
use Rattle.send_core.specs.Log.{lines_at, lines_of, status_if}
use Rattle.send_core.specs.Past.{Account, Happening, Task, Work, account, given, work}
use Rattle.send_core.specs.Past.Happening.{Gives, Nothing}
use Rattle.send_core.specs.Table.{Next, act, place_after as sender_after, due_at, port_of, row_now}
use Rattle.send_core.specs.Turn.{took}
use Rattle.send_core.specs.declared.desk.Desk.{Desk}
use Rattle.send_parts.specs.declared.row.MarkRow.{MarkRow}
use Rattle.send_parts.specs.declared.row.MarkRow.TheVariants as mark
use Rattle.send_parts.specs.declared.row.Marked.{Marked}
use Rattle.send_parts.specs.declared.row.Point.{Point}
use Rattle.send_parts.specs.declared.row.Point.TheVariants as point
use Rattle.send_parts.specs.declared.row.Row.{Row}
use Rattle.send_parts.specs.declared.row.Row.TheVariants as at
use Rattle.send_jobs.specs.declared.attempts.Attempt.{Attempt}
use Rattle.send_jobs.specs.declared.attempts.Mark.{Mark}
use Rattle.send_known.specs.declared.channel.Channel.{Channel}
use Rattle.send_known.specs.declared.channel.Channel.TheVariants.{Local, Remote}
use Rattle.send_jobs.specs.declared.slots.Slots.{Slots}
use Rattle.send_parts.specs.Channels.{file_of}
use Rattle.send_jobs.proofs.SlotLemmas.{lowest_is_least}
use Rattle.send_jobs.specs.declared.lane.Lane.{Lane}
use Rattle.send_jobs.specs.Lanes.{next, numbered, reported, sent, sent_in}
use Rattle.send_jobs.specs.Lines.{channel_word, starting_if}
use Rattle.send_jobs.specs.Sending.{at_lane, lane, next_delivery, none_out, sent_as, sent_on}
use Rattle.send_jobs.specs.Slots.{IsLeastFree, attempt_in, lowest}
use Rattle.send_log.specs.Lines.{starting}
use Rattle.send_parts.specs.Readings.{reading_step}
use Rattle.send_links.specs.Requests.{first_text, request_of, to_slot}
use Rattle.send_parts.specs.Start.{remote_limit}
use Rattle.send_parts.specs.Replies.{said}
use Rattle.send_parts.specs.Steps.{due_by}
use Rattle.send_parts.specs.declared.reading.Reading.{Reading}
use Rattle.send_parts.specs.declared.reading.Reading.TheVariants.{Opening}
use Rattle.send_parts.specs.declared.reply.Way.{Way}
use Rattle.send_parts.specs.declared.reply.Way.TheVariants as way
use Rattle.send_parts.specs.declared.rows.FinishRow.{FinishRow}
use Rattle.send_parts.specs.declared.rows.FinishRow.TheVariants as finish
use Rattle.send_parts.specs.declared.rows.StartRow.{StartRow}
use Rattle.send_parts.specs.declared.rows.StartRow.TheVariants as start
use Rattle.send_parts.specs.declared.rows.SweepRow.{SweepRow}
use Rattle.send_parts.specs.declared.rows.SweepRow.TheVariants as sweep
use Rattle.send_parts.specs.declared.step.Step.{Step}
use Rattle.send_parts.specs.declared.step.Step.TheVariants as step
use Rattle.spawn_protocol.specs.declared.report.Report.{Report}
use Rattle.spawn_protocol.specs.Report.{read_on}
use Rattle.todo_pass.specs.declared.row.Row.{Row as PassRow}
use Rattle.todo_pass.specs.declared.row.Row.TheVariants as todo
use Rattle.todo_pass.specs.Table.{Pass}
use Rattle.todo_pass.specs.Table as pass_table
use Rattle.send_runs.specs.Reports.{given_by}
use Rattle.send_runs.specs.Deliveries.{DeliveriesAreNumbered, is_giving, is_request, number_in, numbered_by, requests_given}
use Rattle.send_runs.proofs.Limits.{LimitsBy, limits_kept, status_is}
use Rattle.send_runs.specs.Status.{limit_in, status_after}
use Rattle.send_core.proofs.Agreed.{lanes_agree}
use Rattle.send_core.specs.Agrees.{has_ended}
use Rattle.send_core.specs.Papers.{controls_told}
use Rattle.send_jobs.specs.Lines.{status_line}
use Rattle.send_runs.proofs.Slots.{IsPlain, Same, of_row, of_settle}

-- A row that gives no request

module _ (c : Channel) (got : GotData) where
  none_reading : (reading : Reading) (opening : Step) (read : List ℕ) → given_by (due_by opening []) got c ≡ Nothing → given_by (due_by (reading_step reading opening (length read)) []) got c ≡ Nothing
  none_reading Opening opening read e = e
  none_reading reading opening read e = refl

  none_note : (row : NoteRow) (w : Writing) → given_by (note_due_at row w) got c ≡ Nothing
  none_note written.Written w = refl
  none_note row w = refl

  none_return : (row : ReturnRow) (r : Returning) → given_by (return_due_at row r) got c ≡ Nothing
  none_return back.Over r = refl
  none_return row r = refl

  none_pass : (row : PassRow) (p : Pass) → given_by (pass_table.due_at row p) got c ≡ Nothing
  none_pass todo.Done p = refl
  none_pass row p = refl

  none_start : (row : StartRow) (d : Desk) → given_by (due_at (at.Start row) d) got c ≡ Nothing
  none_start (start.Control file reading) d = none_reading reading (step.OpenControl file) d.book.read refl
  none_start (start.ReadInfo split n reading) d = none_reading reading (step.Open (name.Info n) how.Read) d.book.read refl
  none_start row d = refl

  none_mark : (row : MarkRow) (m : Marked) (d : Desk) → given_by (due_at (at.Mark row m) d) got c ≡ Nothing
  none_mark mark.Noting m d = none_note d.note.row d.note
  none_mark row m d = refl

  none_finish : (row : FinishRow) (n : ℕ) (d : Desk) → given_by (due_at (at.Finish row n) d) got c ≡ Nothing
  none_finish finish.Return n d = none_return d.bounce.row d.bounce
  none_finish row n d = refl

  none_sweep : (row : SweepRow) (d : Desk) → given_by (due_at (at.Sweep row) d) got c ≡ Nothing
  none_sweep sweep.First d = refl
  none_sweep row d = refl

  none_given : (row : Row) (d : Desk) → ((e : Channel) → row ≡ at.Request e → ⊥) → given_by (due_at row d) got c ≡ Nothing
  none_given (at.Start row) d other = none_start row d
  none_given (at.Turn p) d other = refl
  none_given (at.TakeLink e) d other = refl
  none_given (at.Mark row m) d other = none_mark row m d
  none_given (at.UnlinkFile e n p) d other = refl
  none_given (at.ReadFile e n begun reading) d other = none_reading reading (step.Open (file_of e n) how.Read) d.book.read refl
  none_given (at.Request e) d other = absurd (other e refl)
  none_given (at.FindTodo search) d other = refl
  none_given at.InTodo d other = none_pass d.pass.row d.pass
  none_given (at.Finish row n) d other = none_finish row n d
  none_given (at.Sweep row) d other = none_sweep row d
  none_given (at.Ended status) d other = refl

-- What is counted, and the numbers of what is in flight

abbrev pub Numbers : (Channel → ℕ → ℕ) → Slots → Type 0
Numbers of s = (c : Channel) (slot : ℕ) (a : Attempt) → attempt_in (lane c s).slots slot ≡ Some a → a.delivery ≡ of c slot

abbrev pub Counts : ℕ → (Channel → ℕ → ℕ) → Slots → Type 0
Counts count of s = (s.given ≡ count) × Numbers of s

counts_same : (count : ℕ) (of : Channel → ℕ → ℕ) (s t : Slots) → Same s t → Counts count of s → Counts count of t
counts_same count of s t same h = (same.0 ∙ h.0, numbers) where
  numbers : Numbers of t
  numbers Local slot a there = h.1 Local slot a (ap (λ (l : List (Option Attempt)). attempt_in l slot) (sym same.1) ∙ there)
  numbers Remote slot a there = h.1 Remote slot a (ap (λ (l : List (Option Attempt)). attempt_in l slot) (sym same.2) ∙ there)

none_there : (a : Attempt) → ◌≡◌ {A = Option Attempt} None (Some a) → ⊥
none_there a e = cc

-- a slot that is freed has nothing in flight, and the others have what they had
still_there : (slots : List (Option Attempt)) (freed slot : ℕ) (a : Attempt) → freed < length slots → attempt_in (set slots freed None) slot ≡ Some a → attempt_in slots slot ≡ Some a
still_there slots freed slot a lt there = by (same_or freed slot) where
  same_or : (i j : ℕ) → (j ≡ i) ⊎ (j ≢ i)
  same_or i j = ⊎_elim (λ lt. inr (λ e. omega (arith, e))) (λ ge. ⊎_elim (λ lt. inr (λ e. omega (arith, e))) (λ le. inl (omega arith)) (cases_lt i j)) (cases_lt j i)

  by : (slot ≡ freed) ⊎ (slot ≢ freed) → attempt_in slots slot ≡ Some a
  by w = ⊎_elim
      (λ e. let free : attempt_in (set slots freed None) slot ≡ None = ap (λ i. attempt_in (set slots freed None) i) e ∙ get_or-set_same slots freed None None lt in absurd (none_there a (sym free ∙ there)))
      (λ other. sym (get_or-set_other slots freed slot None None other) ∙ there)
      w

-- Takings

pub told_counts : (count : ℕ) (of : Channel → ℕ → ℕ) (c : Channel) (r : Report) (o : Option Attempt) (d : Desk) → attempt_in (lane c d.slots).slots r.slot ≡ o → Counts count of d.slots
    → Counts count of (told_by o c r d).slots
told_counts count of c r None d there h = h
told_counts count of Local r (Some x) d there h =
    let after : Desk = record d { slots = at_lane Local (reported r.slot) d.slots } in
    counts_same count of after.slots (told_by (Some x) Local r d).slots (of_settle after.slots r Local x after (refl, refl, refl)) (h.0, numbers)
  where
    numbers : Numbers of (at_lane Local (reported r.slot) d.slots)
    numbers Local slot a at = h.1 Local slot a (still_there d.slots.local.slots r.slot slot a (in_range d.slots.local.slots r.slot x there) at)
    numbers Remote slot a at = h.1 Remote slot a at
told_counts count of Remote r (Some x) d there h =
    let after : Desk = record d { slots = at_lane Remote (reported r.slot) d.slots } in
    counts_same count of after.slots (told_by (Some x) Remote r d).slots (of_settle after.slots r Remote x after (refl, refl, refl)) (h.0, numbers)
  where
    numbers : Numbers of (at_lane Remote (reported r.slot) d.slots)
    numbers Local slot a at = h.1 Local slot a at
    numbers Remote slot a at = h.1 Remote slot a (still_there d.slots.remote.slots r.slot slot a (in_range d.slots.remote.slots r.slot x there) at)

all_count : (count : ℕ) (of : Channel → ℕ → ℕ) (c : Channel) (rs : List Report) (d : Desk) → Counts count of d.slots → Counts count of (told_all c rs d).slots
all_count count of c [] d h = h
all_count count of c (r ∷ rs) d h = all_count count of c rs (told c r d) (told_counts count of c r (attempt_in (lane c d.slots).slots r.slot) d refl h)

took_counts : (count : ℕ) (of : Channel → ℕ → ℕ) (w : Way) (bytes : List ℕ) (c : Channel) (d : Desk) → Counts count of d.slots → Counts count of (took w bytes c d).slots
took_counts count of way.Fine bytes Local d h = all_count count of Local (read_on d.local.reader bytes).0 (with_reader Local (read_on d.local.reader bytes).1 d) h
took_counts count of way.Fine bytes Remote d h = all_count count of Remote (read_on d.remote.reader bytes).0 (with_reader Remote (read_on d.remote.reader bytes).1 d) h
took_counts count of way.Over bytes c d h = h
took_counts count of way.Absent bytes c d h = h
took_counts count of way.NoMemory bytes c d h = h
took_counts count of way.Broken bytes c d h = h

-- A spawner's first byte

none_out_counts : (local remote : ℕ) (of : Channel → ℕ → ℕ) → Counts 0 of (none_out local remote)
none_out_counts local remote of = (refl, numbers) where
  numbers : Numbers of (none_out local remote)
  numbers Local slot a there = absurd (none_there a (sym (free_of (min local 120) slot) ∙ there))
  numbers Remote slot a there = absurd (none_there a (sym (free_of (min remote 120) slot) ∙ there))

-- A request

-- what is in flight is that of the account
abbrev Flight : Account → List (Option Attempt) → Type 0
Flight a slots = (k : ℕ) → option_map task_of (attempt_in slots k) ≡ a.in_flight k

-- what is still to be given of a channel
abbrev of_channel : Channel → Account → Account → List Task
of_channel Local al ar = al.to_give
of_channel Remote al ar = ar.to_give

least_left : (a : Account) (slots : List (Option Attempt)) (one other : ℕ) → Flight a slots → IsLeastFree slots (Some one)
    → a.in_flight other ≡ None → ((k : ℕ) → k < other → IsSome (a.in_flight k)) → other ≡ one
least_left a slots one other flies least free lower = ⊎_elim
    (λ (lt : one < other). absurd (not_some (a.in_flight one) (sym (flies one) ∙ ap (option_map task_of) least.1) (lower one lt)))
    (λ (ge : other ≤ one). ⊎_elim
    (λ (lt : other < one). absurd (not_free (attempt_in slots other) (least.2 other lt) (flies other ∙ free)))
    (λ (le : one ≤ other). omega arith)
    (cases_lt other one))
    (cases_lt one other)
  where
    not_some : (o : Option Task) → o ≡ None → IsSome o → ⊥
    not_some None e some = absurd (cc)
    not_some (Some t) e some = absurd (cc)

    not_free : (o : Option Attempt) → IsSome o → option_map task_of o ≡ None → ⊥
    not_free None some e = absurd (cc)
    not_free (Some x) some e = absurd (cc)

module _ (slot : ℕ) (a : Attempt) (d : Desk) where
  abbrev Sent : Channel → Slots → Type 0
  Sent Local t = (t.given ≡ raised d.slots.given) × (t.local.slots ≡ set d.slots.local.slots slot (Some (numbered (raised d.slots.given) a))) × (t.remote.slots ≡ d.slots.remote.slots)
  Sent Remote t = (t.given ≡ raised d.slots.given) × (t.local.slots ≡ d.slots.local.slots) × (t.remote.slots ≡ set d.slots.remote.slots slot (Some (numbered (raised d.slots.given) a)))

  lane_sent : (lane : Lane) → lowest lane.slots ≡ Some slot → next lane ≡ Some a → (sent (raised d.slots.given) lane).slots ≡ set lane.slots slot (Some (numbered (raised d.slots.given) a))
  lane_sent lane low first =
      ap (λ (o : Option ℕ). (sent_in o (next lane) (raised d.slots.given) lane).slots) low ∙ ap (λ (o : Option Attempt). (sent_in (Some slot) o (raised d.slots.given) lane).slots) first

  is_sent : (c : Channel) → lowest (lane c d.slots).slots ≡ Some slot → next (lane c d.slots) ≡ Some a → Sent c (request_sent c (stands_at d (point.Pass c false))).slots
  is_sent Local low first = subst
      (λ (b : Bool). Sent Local (if b then with_requests Local (drop 1 d.local.requests) (record (stands_at d (point.Pass Local false)) { slots = sent_on Local d.slots }) else stands_at d (point.Pass Local false)).slots)
      (sym (ap (λ (o : Option Attempt). is_some o) first))
      (subst (λ (o : Option ℕ). Sent Local (sent_as o Local (next_delivery d.slots) d.slots)) (sym low) (refl, lane_sent d.slots.local low first, refl))
  is_sent Remote low first = subst
      (λ (b : Bool). Sent Remote (if b then with_requests Remote (drop 1 d.remote.requests) (record (stands_at d (point.Pass Remote false)) { slots = sent_on Remote d.slots }) else stands_at d (point.Pass Remote false)).slots)
      (sym (ap (λ (o : Option Attempt). is_some o) first))
      (subst (λ (o : Option ℕ). Sent Remote (sent_as o Remote (next_delivery d.slots) d.slots)) (sym low) (refl, refl, lane_sent d.slots.remote low first))

-- what counts after an event
abbrev count_on : NeedData → GotData → ℕ → ℕ
count_on due got n = if is_request due got then raised n else n

abbrev numbers_on : NeedData → GotData → ℕ → (Channel → ℕ → ℕ) → Channel → ℕ → ℕ
numbers_on due got n of e = numbered_by (given_by due got e) (count_on due got n) (of e)

abbrev Goes : NeedData → GotData → ℕ → (Channel → ℕ → ℕ) → Slots → Type 0
Goes due got n of s = Counts (count_on due got n) (numbers_on due got n of) s

quiet_goes : (due : NeedData) (got : GotData) (n : ℕ) (of : Channel → ℕ → ℕ) (s : Slots) → ((e : Channel) → given_by due got e ≡ Nothing) → Counts n of s → Goes due got n of s
quiet_goes due got n of s none h = (
  h.0 ∙ sym count_is,
  λ e slot a there. h.1 e slot a there ∙ sym (ap (λ (x : Happening). numbered_by x (count_on due got n) (of e) slot) (none e)),
)
  where
    count_is : count_on due got n ≡ n
    count_is = ap (λ (x : Happening). if is_giving x || is_giving (given_by due got Remote) then raised n else n) (none Local)
        ∙ ap (λ (x : Happening). if is_giving x then raised n else n) (none Remote)

same_delivery : (x y : Attempt) → ◌≡◌ {A = Option Attempt} (Some x) (Some y) → x.delivery ≡ y.delivery
same_delivery x y e = let same : x ≡ y = cc in ap (λ (z : Attempt). z.delivery) same

-- the slot that was given has the new number
sent_numbers : (slots : List (Option Attempt)) (of : ℕ → ℕ) (slot number : ℕ) (a : Attempt) → slot < length slots → ((k : ℕ) (x : Attempt) → attempt_in slots k ≡ Some x → x.delivery ≡ of k)
    → (k : ℕ) (x : Attempt) → attempt_in (set slots slot (Some (numbered number a))) k ≡ Some x → x.delivery ≡ put of slot number k
sent_numbers slots of slot number a lt h k x there = ⊎_elim
    (λ (w : (k ≡ slot) × (put of slot number k ≡ number)).
    let here : Some (numbered number a) ≡ Some x =
    sym (get_or-set_same slots slot (Some (numbered number a)) None lt) ∙ ap (λ i. attempt_in (set slots slot (Some (numbered number a))) i) (sym w.0) ∙ there in
    sym (same_delivery (numbered number a) x here) ∙ sym w.1)
    (λ (w : (k ≢ slot) × (put of slot number k ≡ of k)). h k x (sym (get_or-set_other slots slot k (Some (numbered number a)) None w.0) ∙ there) ∙ sym w.1)
    (put_cases of slot number k)

sent_goes : (c : Channel) (slot : ℕ) (a : Attempt) (rest : List ℕ) (n : ℕ) (of : Channel → ℕ → ℕ) (d : Desk) (t : Slots) → slot < length (lane c d.slots).slots → Counts n of d.slots → Sent slot a d c t
    → Goes (needs.Give (port_of c) (slot ∷ rest)) came.Gave n of t
sent_goes Local slot a rest n of d t lt h w = (w.0 ∙ ap raised h.0, numbers) where
  number : raised d.slots.given ≡ raised n
  number = ap raised h.0

  numbers : Numbers (numbers_on (needs.Give port.Lspawn (slot ∷ rest)) came.Gave n of) t
  numbers Local k x there = sent_numbers d.slots.local.slots (of Local) slot (raised n) a lt (h.1 Local) k x
      (subst (λ (m : ℕ). attempt_in (set d.slots.local.slots slot (Some (numbered m a))) k ≡ Some x) number (ap (λ (l : List (Option Attempt)). attempt_in l k) (sym w.1) ∙ there))
  numbers Remote k x there = h.1 Remote k x (ap (λ (l : List (Option Attempt)). attempt_in l k) (sym w.2) ∙ there)
sent_goes Remote slot a rest n of d t lt h w = (w.0 ∙ ap raised h.0, numbers) where
  number : raised d.slots.given ≡ raised n
  number = ap raised h.0

  numbers : Numbers (numbers_on (needs.Give port.Rspawn (slot ∷ rest)) came.Gave n of) t
  numbers Local k x there = h.1 Local k x (ap (λ (l : List (Option Attempt)). attempt_in l k) (sym w.1) ∙ there)
  numbers Remote k x there = sent_numbers d.slots.remote.slots (of Remote) slot (raised n) a lt (h.1 Remote) k x
      (subst (λ (m : ℕ). attempt_in (set d.slots.remote.slots slot (Some (numbered m a))) k ≡ Some x) number (ap (λ (l : List (Option Attempt)). attempt_in l k) (sym w.2) ∙ there))

failed_none : (c e : Channel) (text : List ℕ) → given (port_of c) e text came.Failed ≡ Nothing
failed_none Local Local [] = refl
failed_none Local Local (x ∷ text) = refl
failed_none Local Remote text = refl
failed_none Remote Local text = refl
failed_none Remote Remote [] = refl
failed_none Remote Remote (x ∷ text) = refl

-- the request that is due is for the lowest slot in which nothing is in flight
record Asks (c : Channel) (d : Desk) (slot : ℕ) : Type 0 where
  pub rest : List ℕ
  pub is : first_text (link c d).requests ≡ slot ∷ rest

module _ (al ar : Account) (now n : ℕ) (of : Channel → ℕ → ℕ) (d : Desk) where
  request_goes : (c : Channel) (slot : ℕ) (a : Attempt) (got : GotData) → lowest (lane c d.slots).slots ≡ Some slot → next (lane c d.slots) ≡ Some a → Asks c d slot
      → MayCome (due_at (at.Request c) d) got → Counts n of d.slots → Goes (due_at (at.Request c) d) got n of (act (at.Request c) now got d).slots
  request_goes c slot a came.Gave low first asks may h =
      let lt : slot < length (lane c d.slots).slots = (least (lane c d.slots).slots slot low).0 in
      subst (λ (text : List ℕ). Goes (needs.Give (port_of c) text) came.Gave n of (act (at.Request c) now came.Gave d).slots) (sym asks.is)
      (sent_goes c slot a asks.rest n of d (act (at.Request c) now came.Gave d).slots lt h (is_sent slot a d c low first))
    where
      least : (slots : List (Option Attempt)) (k : ℕ) → lowest slots ≡ Some k → IsLeastFree slots (Some k)
      least slots k e = subst (IsLeastFree slots) e (lowest_is_least slots)
  request_goes c slot a came.Failed low first asks may h =
      quiet_goes (due_at (at.Request c) d) came.Failed n of d.slots (λ e. failed_none c e (first_text (link c d).requests)) h
  request_goes c slot a got low first asks may h = absurd may

  plain_goes : (row : Row) (got : GotData) → ((e : Channel) → row ≡ at.Request e → ⊥) → IsPlain row → Counts n of d.slots → Goes (due_at row d) got n of (act row now got d).slots
  plain_goes row got other plain h = quiet_goes (due_at row d) got n of (act row now got d).slots (λ e. none_given e got row d other)
      (counts_same n of d.slots (act row now got d).slots (of_row d.slots row now got d plain (refl, refl, refl)) h)

  greet_goes : (limit : ℕ) (got : GotData) → d.slots ≡ none_out 0 0 → Counts n of d.slots → Goes (due_at (at.Start (start.GreetRemote limit)) d) got n of (act (at.Start (start.GreetRemote limit)) now got d).slots
  greet_goes limit got early h =
      let zero : 0 ≡ n = ap (λ (s : Slots). s.given) (sym early) ∙ h.0 in
      quiet_goes (due_at (at.Start (start.GreetRemote limit)) d) got n of (act (at.Start (start.GreetRemote limit)) now got d).slots (λ e. refl)
      (subst (λ (k : ℕ). Counts k of (act (at.Start (start.GreetRemote limit)) now got d).slots) zero
      (none_out_counts limit (remote_limit (said got).bytes d.book.controls) of))

  row_goes : (P : MarkRow → Option Mark → Marked → Writing → Type 0) (f : Option Work) (row : Row) (got : GotData) → FitAt P f al ar row d → ((c : Channel) (slot : ℕ) → row ≡ at.Request c → Flight al d.slots.local.slots → Flight ar d.slots.remote.slots → lowest (lane c d.slots).slots ≡ Some slot → Asks c d slot)
      → MayCome (due_at row d) got → Counts n of d.slots → Goes (due_at row d) got n of (act row now got d).slots
  row_goes P f (at.Start (start.GreetRemote limit)) got fit asks may h = greet_goes limit got fit.0.0 h
  row_goes P f (at.Start row) got fit asks may h = plain_goes (at.Start row) got (λ e same. cc) tt h
  row_goes P f (at.TakeLink c) got fit asks may h = quiet_goes (due_at (at.TakeLink c) d) got n of (act (at.TakeLink c) now got d).slots (λ e. refl)
      (took_counts n of (said got).way (said got).bytes c d h)
  row_goes P f (at.Request c) got fit asks may h = request_goes c fit.1.0 fit.1.1 got fit.1.2 fit.1.3 (asks c fit.1.0 refl fit.0.0.0.0 fit.0.0.1.0 fit.1.2) may h
  row_goes P f row got fit asks may h = plain_goes row got (λ e same. cc) tt h

-- The request at such a row, by the law of requests

asks_at : (turns : Option ℕ) (past : List Own) (now : ℕ) (ready : Ready) → IsRunBy (Next turns) past → let d = sender_after turns past in (c : Channel) (slot : ℕ) → row_now d now ready ≡ at.Request c
    → Flight (account Local past) d.slots.local.slots → Flight (account Remote past) d.slots.remote.slots → lowest (lane c d.slots).slots ≡ Some slot → Asks c d slot
asks_at turns past now ready run c slot is fl fr low =
    let d : Desk = sender_after turns past in
    let due : Next turns past now ready ≡ needs.Give (port_of c) (first_text (link c d).requests) = ap (λ (r : Row). due_at r d) is in
    let it : IsRequest past (account c past) (first_text (link c d).requests) = gives_requests turns past now ready run c (first_text (link c d).requests) due in
    let least : IsLeastFree (lane c d.slots).slots (Some slot) = subst (IsLeastFree (lane c d.slots).slots) low (lowest_is_least (lane c d.slots).slots) in
    let same : it.slot ≡ slot = least_left (account c past) (lane c d.slots).slots slot it.slot (flies c) least it.free it.lowest in
    record { rest = drop 1 (request_of it.task.n it.sender it.task.address); is = it.is ∙ ap (λ (k : ℕ). to_slot k (request_of it.task.n it.sender it.task.address)) same }
  where
    flies : (c : Channel) → Flight (account c past) (lane c (sender_after turns past).slots).slots
    flies Local = fl
    flies Remote = fr

-- After each run

pub counts_kept : (turns : Option ℕ) (past : List Own) → IsRunBy (Next turns) past → Counts (requests_given past) (λ c. number_in c past) (sender_after turns past).slots
counts_kept turns [] run = none_out_counts 0 0 (λ c slot. 0)
counts_kept turns (event ∷ before) run =
    let d : Desk = sender_after turns before in
    let row : Row = row_now d event.read event.ready in
    let may : MayCome (due_at row d) event.came = subst (λ (x : NeedData). MayCome x event.came) (sym run.1.0) run.1.1 in
    let fit = arrives (Was before) (work before) (account Local before) (account Remote before) (frees before) d.row d event.read event.ready (keeps turns before run.0).0 in
    subst (λ (due : NeedData). Goes due event.came (requests_given before) (λ c. number_in c before) (act row event.read event.came d).slots) run.1.0
    (row_goes (account Local before) (account Remote before) event.read (requests_given before) (λ c. number_in c before) d (Was before) (work before) row event.came fit
    (asks_at turns before event.read event.ready run.0) may (counts_kept turns before run.0))

-- The line of a request

same_task : (a : Attempt) (left : List Attempt) (t : Task) (rest tasks : List Task) → (left ≡ []) ⊎ (map task_of left ≡ tasks) → slice_get left 0 ≡ Some a → tasks ≡ t ∷ rest → task_of a ≡ t
same_task a [] t rest tasks h first is = absurd (cc)
same_task a (b ∷ left) t rest tasks h first is = ⊎_elim
    (λ (none : b ∷ left ≡ []). absurd (cc))
    (λ (are : map task_of (b ∷ left) ≡ tasks).
    let same : b ≡ a = some_attempt b a first in
    let both : task_of b ∷ map task_of left ≡ t ∷ rest = are ∙ is in
    ap task_of (sym same) ∙ heads (task_of b) t (map task_of left) rest both)
    h
  where
    some_attempt : (x y : Attempt) → ◌≡◌ {A = Option Attempt} (Some x) (Some y) → x ≡ y
    some_attempt x y e = cc

    heads : (x y : Task) (xs ys : List Task) → x ∷ xs ≡ y ∷ ys → x ≡ y
    heads x y xs ys e = cc

request_true : (c : Channel) (slot : ℕ) (due : NeedData) (got : GotData) → given_by due got c ≡ Gives slot → is_request due got ≡ true
request_true Local slot due got gives = ap (λ (x : Happening). is_giving x || is_giving (given_by due got Remote)) gives
request_true Remote slot due got gives = ap (λ (x : Happening). is_giving (given_by due got Local) || is_giving x) gives ∙ either (is_giving (given_by due got Local))
  where
    either : (b : Bool) → (b || true) ≡ true
    either true = refl
    either false = refl

no_gift : (slot : ℕ) → Nothing ≡ Gives slot → ⊥
no_gift slot e = cc

-- a request that is given is that of the row's channel
gift_of : (c e : Channel) (slot : ℕ) (text : List ℕ) (got : GotData) → given (port_of e) c text got ≡ Gives slot → c ≡ e
gift_of Local Local slot text got gives = refl
gift_of Remote Remote slot text got gives = refl
gift_of Local Remote slot text got gives = absurd (no_gift slot gives)
gift_of Remote Local slot text got gives = absurd (no_gift slot gives)

module _ (al ar : Account) (now number : ℕ) (d : Desk) (t : Task) where
  -- with what is in flight then, between two steps
  abbrev Line : Channel → Row → GotData → Type 0
  Line c row got = (lines_at row now got d ≡ starting number t.n (channel_word c) t.address ++ status_line (act row now got d).slots) × ((p : Point) × ((act row now got d).row ≡ at.Turn p))

  -- what a request that was given leaves
  abbrev given_when : Channel → Bool → Desk
  given_when c b = let before : Desk = stands_at d (point.Pass c false) in if b then with_requests c (drop 1 (link c before).requests) (record before { slots = sent_on c before.slots }) else before

  request_line : (c : Channel) (a : Attempt) → next (lane c d.slots) ≡ Some a → task_of a ≡ t → raised d.slots.given ≡ number → Line c (at.Request c) came.Gave
  request_line Local a first same counted = (
    ap (λ (o : Option Attempt). starting_if o Local d.slots ++ status_if (is_some o) (sent_on Local d.slots)) first
        ∙ ap (λ (x : Task). starting (raised d.slots.given) x.n (channel_word Local) x.address ++ status_line (sent_on Local d.slots)) same
        ∙ ap (λ (k : ℕ). starting k t.n (channel_word Local) t.address ++ status_line (sent_on Local d.slots)) counted
        ∙ ap (λ (o : Option Attempt). starting number t.n (channel_word Local) t.address ++ status_line (given_when Local (is_some o)).slots) (sym first),
    (point.Pass Local false, ap (λ (o : Option Attempt). (given_when Local (is_some o)).row) first),
  )
  request_line Remote a first same counted = (
    ap (λ (o : Option Attempt). starting_if o Remote d.slots ++ status_if (is_some o) (sent_on Remote d.slots)) first
        ∙ ap (λ (x : Task). starting (raised d.slots.given) x.n (channel_word Remote) x.address ++ status_line (sent_on Remote d.slots)) same
        ∙ ap (λ (k : ℕ). starting k t.n (channel_word Remote) t.address ++ status_line (sent_on Remote d.slots)) counted
        ∙ ap (λ (o : Option Attempt). starting number t.n (channel_word Remote) t.address ++ status_line (given_when Remote (is_some o)).slots) (sym first),
    (point.Pass Remote false, ap (λ (o : Option Attempt). (given_when Remote (is_some o)).row) first),
  )

  gift_line : (P : MarkRow → Option Mark → Marked → Writing → Type 0) (f : Option Work) (c : Channel) (slot : ℕ) (rest : List Task) (row : Row) (got : GotData) → FitAt P f al ar row d → MayCome (due_at row d) got
      → given_by (due_at row d) got c ≡ Gives slot → of_channel c al ar ≡ t ∷ rest → raised d.slots.given ≡ number → Line c row got
  gift_line P f c slot rest (at.Request e) came.Gave fit may gives next_is counted =
      by c e (gift_of c e slot (first_text (link e d).requests) came.Gave gives) fit next_is
    where
      by : (c e : Channel) → c ≡ e → FitAt P f al ar (at.Request e) d → of_channel c al ar ≡ t ∷ rest → Line c (at.Request e) came.Gave
      by Local Local same fit next_is = request_line Local fit.1.1 fit.1.3 (same_task fit.1.1 d.slots.local.left t rest al.to_give fit.0.0.0.1 fit.1.3 next_is) counted
      by Remote Remote same fit next_is = request_line Remote fit.1.1 fit.1.3 (same_task fit.1.1 d.slots.remote.left t rest ar.to_give fit.0.0.1.1 fit.1.3 next_is) counted
      by Local Remote same fit next_is = absurd (cc)
      by Remote Local same fit next_is = absurd (cc)
  gift_line P f c slot rest (at.Request e) came.Failed fit may gives next_is counted = absurd (no_gift slot (sym (failed_none e c (first_text (link e d).requests)) ∙ gives))
  gift_line P f c slot rest (at.Request e) got fit may gives next_is counted = absurd may
  gift_line P f c slot rest row got fit may gives next_is counted = absurd (no_gift slot (sym (none_given c got row d (λ e same. cc)) ∙ gives))

starts : (turns : Option ℕ) (past : List Own) (event : Own) → IsRunBy (Next turns) (event ∷ past) → (c : Channel) (slot : ℕ) → given_by event.due event.came c ≡ Gives slot
    → (t : Task) (rest : List Task) → (account c past).to_give ≡ t ∷ rest
    → lines_of (sender_after turns past) event ≡ starting (requests_given (event ∷ past)) t.n (channel_word c) t.address ++ status_after (event ∷ past)
starts turns past event run c slot gives t rest next_is =
    let d : Desk = sender_after turns past in
    let row : Row = row_now d event.read event.ready in
    let may : MayCome (due_at row d) event.came = subst (λ (x : NeedData). MayCome x event.came) (sym run.1.0) run.1.1 in
    let fit = arrives (Was past) (work past) (account Local past) (account Remote past) (frees past) d.row d event.read event.ready (keeps turns past run.0).0 in
    let gift : given_by (due_at row d) event.came c ≡ Gives slot = ap (λ (x : NeedData). given_by x event.came c) run.1.0 ∙ gives in
    let number : raised d.slots.given ≡ requests_given (event ∷ past) =
    ap raised (counts_kept turns past run.0).0 ∙ sym (ap (λ (b : Bool). if b then raised (requests_given past) else requests_given past) (request_true c slot event.due event.came gives)) in
    let e : Desk = sender_after turns (event ∷ past) in
    let line = gift_line (account Local past) (account Remote past) event.read (requests_given (event ∷ past)) d t (Was past) (work past) c slot rest row event.came fit may gift (to_give c next_is) number in
    let turn : e.row ≡ at.Turn line.1.0 = line.1.1 in
    line.0 ∙ ap (λ (text : List ℕ). starting (requests_given (event ∷ past)) t.n (channel_word c) t.address ++ text)
    (status_is (limit_in (event ∷ past)) (λ (x : Channel). account x (event ∷ past)) e.slots
    (λ x. (lanes_agree turns (event ∷ past) run x (ap has_ended turn)).in_flight)
    (subst (λ (to : Row). LimitsBy (λ x. account x (event ∷ past)) (controls_told (event ∷ past)) to e.slots) turn (limits_kept turns (event ∷ past) run)))
  where
    to_give : (c : Channel) → (account c past).to_give ≡ t ∷ rest → of_channel c (account Local past) (account Remote past) ≡ t ∷ rest
    to_give Local e = e
    to_give Remote e = e

pub deliveries_are_numbered : DeliveriesAreNumbered
deliveries_are_numbered = record {
  counted = λ turns past run. (counts_kept turns past run).0;
  numbered = λ turns past run c slot a there. (counts_kept turns past run).1 c slot a there;
  starts = starts;
}
