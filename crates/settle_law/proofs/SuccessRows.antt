-- What each row of the sender leaves where each report is of a success.
use Rattle.std.proofs.Common.{◌≡◌, ℕ, List, [], ◌∷◌, drop, length, nat_lt, Bool, true, false, if◌then◌else◌, Option, Some, None, refl, sym, ap, subst}
use Rattle.std.specs.Prelude.{◌==◌, All, is_some, not, slice_get}
use Rattle.std.proofs.lemmas.Bool.{and_from}
use Rattle.std.proofs.lemmas.List.Elements.{All-head, All-tail}
use Rattle.call_fs.specs.declared.calls.Fd.{Fd}
use Rattle.call_fs.specs.declared.past.GotData.{GotData}
use Rattle.call_fs.specs.declared.program.Ready.{Ready}
use Rattle.envelope_records.specs.declared.channel.Record.{Record}
use Rattle.program_law.proofs.Sender.Lanes.{over_there}
use Rattle.send_core.specs.Desk.{closed_by, deferred, due_on, failure_in, goes, has_begun, is_dying, is_final, is_free_for, link, next_idle, request_sent, retried, stands_at, sweep_due, told, told_all, told_by, waits, with_reader, with_requests}
use Rattle.send_core.specs.Table.{act, arrive, begin_by, beginning, finishing_by, from_local, from_point, from_remote, from_reports, from_take, from_begin, from_sweep, going_on, holds, link_of, marking, marking_by, or_else, passing, sweeping, taking}
use Rattle.send_core.specs.Turn.{begun_at, file_read, is_fine, lost, mark_opened, mark_over, pass_opened, put_later, requested, took, unlinked}
use Rattle.send_core.specs.declared.desk.Desk.{Desk}
use Rattle.send_parts.specs.declared.row.MarkRow.TheVariants as mark
use Rattle.send_parts.specs.declared.row.Marked.{Marked}
use Rattle.send_parts.specs.declared.row.Point.TheVariants as point
use Rattle.send_parts.specs.declared.row.Point.{Point}
use Rattle.send_parts.specs.declared.row.Row.TheVariants as at
use Rattle.send_parts.specs.declared.row.Row.{Row}
use Rattle.retry_schedule.specs.Due.{first_due}
use Rattle.send_jobs.specs.Jobs.{job_of}
use Rattle.send_jobs.specs.Lanes.{begun_by, ended, job_over, mark_settled, next, owes, reported}
use Rattle.send_jobs.specs.Sending.{at_lane, lane, next_delivery, sent_as, sent_on}
use Rattle.send_jobs.specs.Slots.{attempt_in, lowest}
use Rattle.send_jobs.specs.declared.attempts.Attempt.{Attempt}
use Rattle.send_jobs.specs.declared.attempts.Failure.{Failure}
use Rattle.send_jobs.specs.declared.attempts.Mark.{Mark}
use Rattle.send_known.specs.declared.channel.Channel.TheVariants.{Local, Remote}
use Rattle.send_known.specs.declared.channel.Channel.{Channel}
use Rattle.send_jobs.specs.declared.jobs.Job.{Job}
use Rattle.send_jobs.specs.declared.lane.Lane.{Lane}
use Rattle.send_jobs.specs.declared.slots.Slots.{Slots}
use Rattle.send_links.specs.Records.{records_of}
use Rattle.send_parts.specs.Readings.{read_on}
use Rattle.send_parts.specs.Replies.{Said, said}
use Rattle.send_parts.specs.Start.{remote_limit}
use Rattle.send_parts.specs.declared.reading.Progress.TheVariants.{Goes, Whole, Missing, Failed}
use Rattle.send_parts.specs.declared.reading.Progress.{Progress}
use Rattle.send_parts.specs.declared.reading.Reading.{Reading}
use Rattle.send_parts.specs.declared.reply.Way.TheVariants as way
use Rattle.send_parts.specs.declared.reply.Way.{Way}
use Rattle.send_parts.specs.declared.rows.Search.TheVariants as search
use Rattle.send_parts.specs.declared.rows.StartRow.{StartRow}
use Rattle.send_parts.specs.declared.rows.StartRow.TheVariants as start
use Rattle.send_parts.specs.declared.rows.SweepRow.TheVariants as sweep
use Rattle.send_runs.proofs.Kept.{IsStill, kept_row}
use Rattle.spawn_protocol.specs.Report.{counted, read_on as reports_on}
use Rattle.spawn_protocol.specs.declared.report.Report.{Report}
use Rattle.settle_law.specs.inside.Succeeded.{IsSuccess}
use Rattle.settle_law.proofs.StillFine.{IsAside, IsUnmarked, led_aside}
use Rattle.settle_law.proofs.SuccessLanes.{HasNoNotes, HasRoom, Keeps, begun_keeps, empty_keeps, ended_keeps, made_keeps, owed_keeps, room_for, room_owed, sent_keeps, untried_by}

-- no note is written, and no mark is given up after its write
abbrev pub IsFine : Row → Type 0
IsFine (at.Mark mark.Note m) = ⊥
IsFine (at.Mark mark.Noting m) = ⊥
IsFine (at.Mark (mark.Close fd written) m) = written ≡ true
IsFine row = Unit {0}

unmarked_fine : (row : Row) → IsUnmarked row → IsFine row
unmarked_fine (at.Mark row m) none = absurd none
unmarked_fine row none = tt

-- Between two steps

abbrev FineIf : Option Row → Type 0
FineIf None = Unit {0}
FineIf (Some row) = IsFine row

or_fine : (o : Option Row) (row : Row) → FineIf o → IsFine row → IsFine (or_else o row)
or_fine None row p q = q
or_fine (Some first) row p q = p

either_fine : (b : Bool) (o p : Option Row) → FineIf o → FineIf p → FineIf (if b then o else p)
either_fine true o p h k = h
either_fine false o p h k = k

taking_fine : (c : Channel) (ready : Ready) → FineIf (taking c ready)
taking_fine c ready = either_fine (holds (slice_get ready.links (link_of c))) (Some (at.TakeLink c)) None tt tt

begin_fine : (o : Option Failure) (m : Marked) → o ≡ None → IsFine (at.Mark (begin_by o) m)
begin_fine None m e = tt
begin_fine (Some failure) m e = absurd (cc)

abbrev Plain : Option Mark → Type 0
Plain None = Unit {0}
Plain (Some m) = m.note ≡ None

first_plain : (marks : List Mark) → All (λ (m : Mark). m.note ≡ None) marks → Plain (slice_get marks 0)
first_plain [] all = tt
first_plain (m ∷ marks) all = All-head (λ (m : Mark). m.note ≡ None) m marks all

marking_fine : (c : Channel) (o : Option Mark) → Plain o → FineIf (marking_by c o)
marking_fine c None plain = tt
marking_fine c (Some m) plain = begin_fine m.note (record { channel = c; n = m.attempt.n; place = m.attempt.place }) plain

beginning_fine : (c : Channel) (may : Bool) (o : Option (ℕ × ℕ)) → FineIf (beginning c may o)
beginning_fine c false o = tt
beginning_fine c true None = tt
beginning_fine c true (Some e) = tt

going_fine : (c : Channel) (o : Option ℕ) → FineIf (going_on c o)
going_fine c None = tt
going_fine c (Some slot) = tt

passing_fine : (c : Channel) (may : Bool) (d : Desk) (now : ℕ) → FineIf (passing c may d now)
passing_fine c may d now =
    either_fine (is_some (next (lane c d.slots))) (going_on c (lowest (lane c d.slots).slots)) (beginning c may (first_due now (due_on c d.book.messages)))
    (going_fine c (lowest (lane c d.slots).slots)) (beginning_fine c may (first_due now (due_on c d.book.messages)))

finishing_fine : (o : Option ℕ) → FineIf (finishing_by o)
finishing_fine None = tt
finishing_fine (Some n) = tt

remote_fine : (may : Bool) (d : Desk) (now : ℕ) → IsFine (from_remote may d now)
remote_fine may d now = or_fine (passing Remote may d now) (at.FindTodo search.AfterLeft) (passing_fine Remote may d now) tt

local_fine : (may : Bool) (d : Desk) (now : ℕ) → IsFine (from_local may d now)
local_fine may d now = or_fine (passing Local may d now) (from_remote true d now) (passing_fine Local may d now) (remote_fine true d now)

module _ (d : Desk) (now : ℕ) (ready : Ready) (none : (c : Channel) → HasNoNotes (lane c d.slots)) where
  reports_fine : IsFine (from_reports d now)
  reports_fine = or_fine (marking Local d) (or_else (marking Remote d) (from_local true d now)) (marking_fine Local (slice_get (lane Local d.slots).marks 0) (first_plain (lane Local d.slots).marks (none Local)))
      (or_fine (marking Remote d) (from_local true d now) (marking_fine Remote (slice_get (lane Remote d.slots).marks 0) (first_plain (lane Remote d.slots).marks (none Remote))) (local_fine true d now))

  take_fine : IsFine (from_take d now ready)
  take_fine = or_fine (taking Remote ready) (from_reports d now) (taking_fine Remote ready) reports_fine

  begins_fine : IsFine (from_begin d now ready)
  begins_fine = or_fine (taking Local ready) (from_take d now ready) (taking_fine Local ready) take_fine

  sweep_fine : IsFine (from_sweep d now ready)
  sweep_fine = or_fine (sweeping d now) (from_begin d now ready) (either_fine (sweep_due now d.swept) (Some (at.Sweep sweep.First)) None tt tt) begins_fine

  point_fine : (p : Point) → IsFine (from_point p d now ready)
  point_fine point.TakeLocal = begins_fine
  point_fine point.TakeRemote = take_fine
  point_fine point.Reports = reports_fine
  point_fine (point.Pass Local may) = local_fine may d now
  point_fine (point.Pass Remote may) = remote_fine may d now
  point_fine point.Finish = or_fine (finishing_by (next_idle now d)) (from_sweep d now ready) (finishing_fine (next_idle now d)) sweep_fine
  point_fine point.Sweep = sweep_fine

  pub arrives_fine : (row : Row) → IsFine row → IsFine (arrive row d now ready)
  arrives_fine (at.Turn p) fine = point_fine p
  arrives_fine (at.Start row) fine = fine
  arrives_fine (at.TakeLink c) fine = fine
  arrives_fine (at.Mark row m) fine = fine
  arrives_fine (at.UnlinkFile c n p) fine = fine
  arrives_fine (at.ReadFile c n begun reading) fine = fine
  arrives_fine (at.Request c) fine = fine
  arrives_fine (at.FindTodo search) fine = fine
  arrives_fine at.InTodo fine = fine
  arrives_fine (at.Finish row n) fine = fine
  arrives_fine (at.Sweep row) fine = fine
  arrives_fine (at.Ended status) fine = fine

-- Both channels

on_lane : (P : Channel → Lane → Type 0) (c : Channel) (f : Lane → Lane) (s : Slots) → ((ch : Channel) → P ch (lane ch s)) → P c (f (lane c s)) → (ch : Channel) → P ch (lane ch (at_lane c f s))
on_lane P Local f s h one Local = one
on_lane P Local f s h one Remote = h Remote
on_lane P Remote f s h one Local = h Local
on_lane P Remote f s h one Remote = one

module _ (tried : Channel → ℕ → Bool) where
  abbrev On : Channel → Lane → Type 0
  On ch l = Keeps (tried ch) l

  abbrev pub Held : Slots → Type 0
  Held s = (ch : Channel) → On ch (lane ch s)

  abbrev pub Fine : Desk → Type 0
  Fine d = IsFine d.row × Held d.slots

  -- takings

  abbrev Takes_on : Channel → Lane → Type 0
  Takes_on ch l = HasRoom l × On ch l

  abbrev pub Takes : Slots → Type 0
  Takes s = (ch : Channel) → Takes_on ch (lane ch s)

  waits_takes : (c : Channel) (slot : ℕ) (a : Attempt) (note : Option Failure) (d : Desk) → attempt_in (lane c d.slots).slots slot ≡ Some a → note ≡ None → Takes d.slots
      → Takes (waits c a note (record d { slots = at_lane c (reported slot) d.slots })).slots
  waits_takes Local slot a note d there none h =
      let m : Mark = record { attempt = a; note = note } in
      on_lane Takes_on Local (λ l. owes m (reported slot l)) d.slots h (room_owed d.slots.local slot a m there (h Local).0, owed_keeps (tried Local) d.slots.local slot m none (h Local).1)
  waits_takes Remote slot a note d there none h =
      let m : Mark = record { attempt = a; note = note } in
      on_lane Takes_on Remote (λ l. owes m (reported slot l)) d.slots h (room_owed d.slots.remote slot a m there (h Remote).0, owed_keeps (tried Remote) d.slots.remote slot m none (h Remote).1)

  room_after : (c : Channel) (slot : ℕ) (d : Desk) (b : Bool) → nat_lt (length (lane c d.slots).marks) 120 ≡ b → nat_lt (length (lane c (at_lane c (reported slot) d.slots)).marks) 120 ≡ b
  room_after Local slot d b e = e
  room_after Remote slot d b e = e

  told_takes : (o : Option Attempt) (c : Channel) (r : Report) (d : Desk) → attempt_in (lane c d.slots).slots r.slot ≡ o → IsSuccess r → Takes d.slots → Takes (told_by o c r d).slots
  told_takes None c r d there success h = h
  told_takes (Some a) c r d there success h =
      let before : Desk = record d { slots = at_lane c (reported r.slot) d.slots } in
      let final : is_final (counted r.letter) a.dying ≡ true = ap (λ (k : ℕ). is_final k a.dying) success in
      let room : nat_lt (length (lane c before.slots).marks) 120 ≡ true = room_after c r.slot d true (room_for (lane c d.slots) r.slot a there (h c).0) in
      let none : failure_in r ≡ None = ap (λ (k : ℕ). let f : Option Failure = if k == 75 then None else Some (record { report = r.text; is_late = not (k == 68) }) in f) success in
      subst (λ (b : Bool). Takes (if b then waits c a (failure_in r) before else deferred c a.n before).slots)
      (sym (and_from (is_final (counted r.letter) a.dying) (nat_lt (length (lane c before.slots).marks) 120) final room)) (waits_takes c r.slot a (failure_in r) d there none h)

  all_takes : (c : Channel) (rs : List Report) (d : Desk) → All IsSuccess rs → Takes d.slots → Takes (told_all c rs d).slots
  all_takes c [] d all h = h
  all_takes c (r ∷ rs) d all h =
      all_takes c rs (told c r d) (All-tail IsSuccess r rs all) (told_takes (attempt_in (lane c d.slots).slots r.slot) c r d refl (All-head IsSuccess r rs all) h)

  lost_fine : (c : Channel) (d : Desk) → Held d.slots → Fine (goes d (lost c))
  lost_fine Local d h = (tt, h)
  lost_fine Remote d h = (tt, h)

  took_fine : (w : Way) (bytes : List ℕ) (c : Channel) (d : Desk) → All IsSuccess (reports_on (link c d).reader bytes).0 → Takes d.slots → Fine (took w bytes c d)
  took_fine way.Fine bytes Local d all h = (tt, λ ch. (all_takes Local (reports_on d.local.reader bytes).0 (with_reader Local (reports_on d.local.reader bytes).1 d) all h ch).1)
  took_fine way.Fine bytes Remote d all h = (tt, λ ch. (all_takes Remote (reports_on d.remote.reader bytes).0 (with_reader Remote (reports_on d.remote.reader bytes).1 d) all h ch).1)
  took_fine way.Over bytes c d all h = lost_fine c d (λ ch. (h ch).1)
  took_fine way.Absent bytes c d all h = lost_fine c d (λ ch. (h ch).1)
  took_fine way.NoMemory bytes c d all h = lost_fine c d (λ ch. (h ch).1)
  took_fine way.Broken bytes c d all h = lost_fine c d (λ ch. (h ch).1)

  -- what is then over

  closed_fine : (o : Option Job) (c : Channel) (n : ℕ) (p : Point) (d : Desk) → job_over n (lane c d.slots) ≡ o → Held d.slots → Fine (closed_by o c n p d)
  closed_fine None c n p d e h = (tt, h)
  closed_fine (Some job) c n p d e h =
      subst (λ (b : Bool). Fine (if b then retried c n job.begun (stands_at d p) else goes d (at.UnlinkFile c n p))) (sym ((h c).0 n job (over_there n (lane c d.slots) job e))) (tt, h)

  -- readings

  later_fine : (c : Channel) (n now : ℕ) (d : Desk) → job_of n (lane c d.slots).jobs ≡ None → Held d.slots → Fine (put_later c n now d)
  later_fine c n now d none h = (tt, on_lane On c (ended n) d.slots h (ended_keeps (tried c) (lane c d.slots) n (untried_by (tried c) (lane c d.slots) n none (h c)) (h c)))

  begun_held : (c : Channel) (n begun : ℕ) (records : List Record) (d : Desk) → Held d.slots → Held (has_begun c n begun records d).slots
  begun_held Local n begun records d h = on_lane On Local (begun_by n records begun (is_dying n begun d)) d.slots h (begun_keeps (tried Local) d.slots.local n begun (is_dying n begun d) records (h Local))
  begun_held Remote n begun records d h = on_lane On Remote (begun_by n records begun (is_dying n begun d)) d.slots h (begun_keeps (tried Remote) d.slots.remote n begun (is_dying n begun d) records (h Remote))

  fine_if : (b : Bool) (x y : Desk) → Fine x → Fine y → Fine (if b then x else y)
  fine_if true x y p q = p
  fine_if false x y p q = q

  pass_fine : (o : Option (List Record)) (c : Channel) (n begun now : ℕ) (d : Desk) → job_of n (lane c d.slots).jobs ≡ None → Held d.slots → Fine (pass_opened o c n begun now d)
  pass_fine None c n begun now d none h = later_fine c n now d none h
  pass_fine (Some records) c n begun now d none h =
      let after : Desk = has_begun c n begun records d in
      fine_if (is_free_for n (lane c d.slots)) (closed_by (job_over n (lane c after.slots)) c n (point.Pass c false) after) (put_later c n now d)
      (closed_fine (job_over n (lane c after.slots)) c n (point.Pass c false) after refl (begun_held c n begun records d h)) (later_fine c n now d none h)

  read_fine : (x : Progress) (c : Channel) (n begun : ℕ) (reading : Reading) (now : ℕ) (s : Said) (d : Desk) → job_of n (lane c d.slots).jobs ≡ None → Held d.slots
      → Fine (file_read x c n begun reading now s d)
  read_fine (Goes on) c n begun reading now s d none h = (tt, h)
  read_fine Whole c n begun reading now s d none h = pass_fine (records_of d.book.read) c n begun now d none h
  read_fine Missing c n begun reading now s d none h = later_fine c n now d none h
  read_fine Failed c n begun reading now s d none h = later_fine c n now d none h

  -- requests

  sent_held : (o : Option ℕ) (c : Channel) (k : ℕ) (s : Slots) → Held s → Held (sent_as o c k s)
  sent_held None c k s h ch = h ch
  sent_held (Some slot) Local k s h Local = sent_keeps (tried Local) s.local k (h Local)
  sent_held (Some slot) Local k s h Remote = h Remote
  sent_held (Some slot) Remote k s h Local = h Local
  sent_held (Some slot) Remote k s h Remote = sent_keeps (tried Remote) s.remote k (h Remote)

  sent_fine : (c : Channel) (d : Desk) → Held d.slots → Fine (request_sent c (stands_at d (point.Pass c false)))
  sent_fine Local d h =
      let before : Desk = stands_at d (point.Pass Local false) in
      fine_if (is_some (next (lane Local d.slots))) (with_requests Local (drop 1 (link Local d).requests) (record before { slots = sent_on Local d.slots })) before
      (tt, sent_held (lowest d.slots.local.slots) Local (next_delivery d.slots) d.slots h) (tt, h)
  sent_fine Remote d h =
      let before : Desk = stands_at d (point.Pass Remote false) in
      fine_if (is_some (next (lane Remote d.slots))) (with_requests Remote (drop 1 (link Remote d).requests) (record before { slots = sent_on Remote d.slots })) before
      (tt, sent_held (lowest d.slots.remote.slots) Remote (next_delivery d.slots) d.slots h) (tt, h)

  requested_fine : (w : Way) (c : Channel) (d : Desk) → Held d.slots → Fine (requested w c d)
  requested_fine way.Fine c d h = sent_fine c d h
  requested_fine way.Over c d h = lost_fine c d h
  requested_fine way.Absent c d h = lost_fine c d h
  requested_fine way.NoMemory c d h = lost_fine c d h
  requested_fine way.Broken c d h = lost_fine c d h

  -- marks, and the file of a job that is done

  opened_fine : (w : Way) (m : Marked) (fd : Fd) (d : Desk) → is_fine w ≡ true → Held d.slots → Fine (mark_opened w m fd d)
  opened_fine way.Fine m fd d fine h = (tt, h)
  opened_fine row m fd d fine h = absurd (cc)

  made_fine : (c : Channel) (n place : ℕ) (d : Desk) → Held d.slots → Fine (mark_over true (record { channel = c; n = n; place = place }) d)
  made_fine c n place d h =
      let after : Desk = record d { slots = at_lane c mark_settled d.slots } in
      closed_fine (job_over n (lane c after.slots)) c n point.Reports after refl (on_lane On c mark_settled d.slots h (made_keeps (tried c) (lane c d.slots) (h c)))

  unlinked_fine : (w : Way) (c : Channel) (n : ℕ) (p : Point) (now : ℕ) (d : Desk) → is_fine w ≡ true → (tried c n ≡ true → ⊥) → Held d.slots → Fine (unlinked w c n p now d)
  unlinked_fine way.Fine c n p now d fine gone h = (tt, on_lane On c (ended n) d.slots h (ended_keeps (tried c) (lane c d.slots) n gone (h c)))
  unlinked_fine row c n p now d fine gone h = absurd (cc)

  -- What is asked at each row

  abbrev pub Asks : Row → GotData → Desk → Type 0
  Asks (at.Start row) got d = (ch : Channel) → (lane ch d.slots).jobs ≡ []
  Asks (at.TakeLink c) got d = All IsSuccess (reports_on (link c d).reader (said got).bytes).0 × ((ch : Channel) → HasRoom (lane ch d.slots))
  Asks (at.Mark mark.Open m) got d = is_fine (said got).way ≡ true
  Asks (at.Mark (mark.Write fd) m) got d = is_fine (said got).way ≡ true
  Asks (at.UnlinkFile c n p) got d = (is_fine (said got).way ≡ true) × (tried c n ≡ true → ⊥)
  Asks (at.ReadFile c n begun reading) got d = job_of n (lane c d.slots).jobs ≡ None
  Asks (at.Turn p) got d = IsFine d.row
  Asks (at.Ended status) got d = IsFine d.row
  Asks row got d = Unit {0}

  -- a row that leaves the channels as they are
  aside_fine : (row : Row) (now : ℕ) (got : GotData) (d : Desk) → IsStill d.slots row → IsAside row → Held d.slots → Fine (act row now got d)
  aside_fine row now got d still aside h =
      (unmarked_fine (act row now got d).row (led_aside row now got d aside), λ ch. subst (λ (s : Slots). On ch (lane ch s)) (sym (kept_row d.slots row now got d still refl).0) (h ch))

  start_fine : (row : StartRow) (now : ℕ) (got : GotData) (d : Desk) → ((ch : Channel) → (lane ch d.slots).jobs ≡ []) → Held d.slots → Fine (act (at.Start row) now got d)
  start_fine (start.GreetRemote limit) now got d none h = (unmarked_fine (act (at.Start (start.GreetRemote limit)) now got d).row (led_aside (at.Start (start.GreetRemote limit)) now got d tt), greeted)
    where
      greeted : Held (act (at.Start (start.GreetRemote limit)) now got d).slots
      greeted Local = empty_keeps (tried Local) d.slots.local limit (none Local) (h Local)
      greeted Remote = empty_keeps (tried Remote) d.slots.remote (remote_limit (said got).bytes d.book.controls) (none Remote) (h Remote)
  start_fine row now got d none h = aside_fine (at.Start row) now got d tt tt h

  pub row_fine : (row : Row) (now : ℕ) (got : GotData) (d : Desk) → IsFine row → Asks row got d → Held d.slots → Fine (act row now got d)
  row_fine (at.Start row) now got d fine asks h = start_fine row now got d asks h
  row_fine (at.Turn p) now got d fine asks h = (asks, h)
  row_fine (at.TakeLink c) now got d fine asks h = took_fine (said got).way (said got).bytes c d asks.0 (λ ch. (asks.1 ch, h ch))
  row_fine (at.Mark mark.Note m) now got d fine asks h = absurd fine
  row_fine (at.Mark mark.Noting m) now got d fine asks h = absurd fine
  row_fine (at.Mark mark.Open m) now got d fine asks h = opened_fine (said got).way m (said got).fd d asks h
  row_fine (at.Mark (mark.Write fd) m) now got d fine asks h = (asks, h)
  row_fine (at.Mark (mark.Close fd written) m) now got d fine asks h =
      subst (λ (b : Bool). Fine (mark_over b m d)) (sym fine) (made_fine m.channel m.n m.place d h)
  row_fine (at.UnlinkFile c n p) now got d fine asks h = unlinked_fine (said got).way c n p now d asks.0 asks.1 h
  row_fine (at.ReadFile c n begun reading) now got d fine asks h = read_fine (read_on reading (said got)) c n (begun_at reading begun now) reading now (said got) d asks h
  row_fine (at.Request c) now got d fine asks h = requested_fine (said got).way c d h
  row_fine (at.FindTodo from) now got d fine asks h = aside_fine (at.FindTodo from) now got d tt tt h
  row_fine at.InTodo now got d fine asks h = aside_fine at.InTodo now got d tt tt h
  row_fine (at.Finish row n) now got d fine asks h = aside_fine (at.Finish row n) now got d tt tt h
  row_fine (at.Sweep row) now got d fine asks h = aside_fine (at.Sweep row) now got d tt tt h
  row_fine (at.Ended status) now got d fine asks h = (asks, h)
