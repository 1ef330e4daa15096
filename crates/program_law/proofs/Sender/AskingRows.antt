-- What each row of a sender does to the requests that lie ready, and to what it knows of what is due.
use Rattle.std.proofs.Common.{◌≡◌, ℕ, ◌-◌, List, [], ◌∷◌, set, drop, Bool, true, false, Option, Some, None, refl, sym, ap, subst}
use Rattle.std.specs.Prelude.{◌||◌, if◌then◌else◌, is_some, nat_lt}
use Rattle.address_rules.specs.declared.control_file.ControlFile.{ControlFile}
use Rattle.address_rules.specs.declared.control_file.ControlFile.TheVariants as file
use Rattle.address_rules.specs.Files.{Fault, first_fault, place}
use Rattle.bounce_record.specs.declared.note_row.NoteRow.{NoteRow}
use Rattle.bounce_record.specs.declared.note_row.NoteRow.TheVariants as written
use Rattle.bounce_record.specs.Returning.{return_begun}
use Rattle.bounce_record.specs.Writing.{moved as note_moved}
use Rattle.call_fs.specs.declared.calls.Fd.{Fd}
use Rattle.call_fs.specs.declared.past.GotData.{GotData}
use Rattle.envelope_records.specs.declared.channel.Record.{Record}
use Rattle.mail_bytes.specs.Decimal.{digits}
use Rattle.send_core.specs.declared.desk.Desk.{Desk}
use Rattle.send_parts.specs.declared.row.MarkRow.{MarkRow}
use Rattle.send_parts.specs.declared.row.MarkRow.TheVariants as mark
use Rattle.send_parts.specs.declared.row.Marked.{Marked}
use Rattle.send_parts.specs.declared.row.Point.{Point}
use Rattle.send_parts.specs.declared.row.Point.TheVariants as point
use Rattle.send_parts.specs.declared.row.Row.{Row}
use Rattle.send_parts.specs.declared.row.Row.TheVariants as at
use Rattle.send_core.specs.Desk.{closed, closed_by, done_with, due_again, goes, has_begun, heard, is_free_for, later, next_idle, past_finish, past_todo, request_sent, retried, retry_of, stands_at, sweep_due, turn_counted, turn_over, with_requests}
use Rattle.send_core.specs.Finish.{act_finish, bounce_on, finish_at, forgot, looked_up, put_off_to, returned_to, sweep_at, sweep_begun}
use Rattle.send_core.specs.Start.{slots_by, start_at, started}
use Rattle.send_core.specs.Turn.{act_mark, begin_note, file_read, is_done, known_of, lost, mark_opened, mark_over, noted, noted_at, pass_opened, put_later, requested, todo_found, todo_named, todo_none, todo_on, todo_over, todo_went, took, unlinked}
use Rattle.send_core.proofs.Asked.{Asked, Base, Facts, KnowsAt, base_begun, base_due, base_heard, base_sent}
use Rattle.send_core.proofs.Born.{Born, first_birth}
use Rattle.send_core.proofs.Known.{Each, Owed, Sound, sound_forgotten, sound_learned, sound_local_gone, sound_put_off, sound_remote_gone}
use Rattle.send_jobs.specs.declared.attempts.Attempt.{Attempt}
use Rattle.send_known.specs.declared.channel.Channel.{Channel}
use Rattle.send_known.specs.declared.channel.Channel.TheVariants.{Local, Remote}
use Rattle.send_jobs.specs.declared.jobs.Job.{Job}
use Rattle.send_jobs.specs.declared.slots.Slots.{Slots}
use Rattle.send_jobs.specs.Lanes.{job_over, left_unmarked, mark_settled, next}
use Rattle.send_jobs.specs.Sending.{at_lane, lane, sent_on}
use Rattle.send_jobs.specs.Slots.{lowest}
use Rattle.send_known.specs.declared.known.Known.{Known}
use Rattle.send_known.specs.declared.messages.Messages.{Messages}
use Rattle.send_known.specs.Known.{is_known}
use Rattle.send_known.specs.Messages.{learned}
use Rattle.send_parts.specs.declared.book.Book.{Book}
use Rattle.send_parts.specs.declared.reading.Progress.{Progress}
use Rattle.send_parts.specs.declared.reading.Progress.TheVariants.{Goes, Whole, Missing, Failed}
use Rattle.send_parts.specs.declared.reading.Reading.{Reading}
use Rattle.send_parts.specs.declared.reading.Reading.TheVariants.{Opening, Going, Closing, Shutting}
use Rattle.send_parts.specs.declared.reply.Way.{Way}
use Rattle.send_parts.specs.declared.reply.Way.TheVariants as way
use Rattle.send_parts.specs.declared.rows.FinishRow.{FinishRow}
use Rattle.send_parts.specs.declared.rows.FinishRow.TheVariants as finish
use Rattle.send_parts.specs.declared.rows.Search.{Search}
use Rattle.send_parts.specs.declared.rows.StartRow.{StartRow}
use Rattle.send_parts.specs.declared.rows.StartRow.TheVariants as start
use Rattle.send_parts.specs.declared.rows.SweepRow.{SweepRow}
use Rattle.send_parts.specs.declared.rows.SweepRow.TheVariants as sweep
use Rattle.send_links.specs.Records.{records_of}
use Rattle.send_parts.specs.Files.{message_number, sender_in}
use Rattle.send_parts.specs.Finish.{finish_to}
use Rattle.send_parts.specs.Readings.{read_on}
use Rattle.send_parts.specs.Replies.{Said, said}
use Rattle.send_parts.specs.Rows.{is_again}
use Rattle.send_parts.specs.Start.{act_start, control_read, filed, greeted_local, greeted_remote, info_read, judged_by, remote_stated, scan_known, scanned}
use Rattle.send_parts.specs.Sweep.{named, searched}
use Rattle.todo_pass.specs.declared.row.Row.{Row as PassRow}
use Rattle.todo_pass.specs.declared.row.Row.TheVariants as todo
use Rattle.todo_pass.specs.Table.{Pass, answer_row}
use Rattle.program_law.specs.Sender.Asking.{IsKnownAt}

-- nothing is asked of a sender here
abbrev pub Any : ℕ → List ℕ → Type 0
Any n sender = Unit {0}

any_each : (ks : List Known) → Each Any ks
any_each [] = tt
any_each (k ∷ ks) = (tt, any_each ks)

abbrev pub OwedBoth : Messages → Type 0
OwedBoth m = Owed m.local m.known × Owed m.remote m.known

-- the births of the messages that are known
abbrev birth_or : Option ℕ → ℕ
birth_or None = 0
birth_or (Some moment) = moment

abbrev pub births_in : List Known → ℕ → ℕ
births_in ks n = birth_or (first_birth n ks)

pub born_in : (ks : List Known) → Born (births_in ks) ks
born_in ks n moment e = ap birth_or (sym e)

pub any_sound : (m : Messages) → OwedBoth m → Sound Any (births_in m.known) m
any_sound m h = (any_each m.known, h.0, h.1, born_in m.known)

module _ (S : ℕ → List ℕ → Type 0) where
  -- The requests are those of the attempts that are still to be given, and each message that is due is known.
  abbrev pub Kept : Desk → Type 0
  Kept d = (Asked S d.local.requests d.slots.local.left × Asked S d.remote.requests d.slots.remote.left) × OwedBoth d.book.messages

  -- and the message whose file is read is known
  abbrev pub Then : Desk → Type 0
  Then d = Kept d × IsKnownAt d.row d.book.messages.known

  then_if : (b : Bool) (x y : Desk) → Then x → Then y → Then (if b then x else y)
  then_if true x y p q = p
  then_if false x y p q = q

  -- Takings, marks, unlinks, passes and requests, by what is known of the messages

  module _ (t : Facts) where
    kept_of : (d : Desk) → Base S t d → Kept d
    kept_of d h = ((h.1, h.2), (h.0.1, h.0.2))

    pub known_at : (row : Row) (d : Desk) → KnowsAt S t row d → IsKnownAt row d.book.messages.known
    known_at (at.ReadFile c n begun g) d h = h.1
    known_at row d h = tt

    lost_then : (c : Channel) (d : Desk) → Kept d → Then (goes d (lost c))
    lost_then Local d h = (h, tt)
    lost_then Remote d h = (h, tt)

    pub took_then : (w : Way) (bytes : List ℕ) (c : Channel) (d : Desk) → Base S t d → Then (took w bytes c d)
    took_then way.Fine bytes c d h = (kept_of (heard c bytes d) (base_heard S t c bytes d h), tt)
    took_then way.Over bytes c d h = lost_then c d (kept_of d h)
    took_then way.Absent bytes c d h = lost_then c d (kept_of d h)
    took_then way.NoMemory bytes c d h = lost_then c d (kept_of d h)
    took_then way.Broken bytes c d h = lost_then c d (kept_of d h)

    closed_then : (o : Option Job) (c : Channel) (n : ℕ) (p : Point) (d : Desk) → Base S t d → Then (closed_by o c n p d)
    closed_then None c n p d h = (kept_of d h, tt)
    closed_then (Some job) c n p d h = then_if job.unmarked (retried c n job.begun (stands_at d p)) (goes d (at.UnlinkFile c n p))
        (kept_of (retried c n job.begun (stands_at d p)) (base_due S t c n (retry_of c n job.begun (stands_at d p)) (stands_at d p) h), tt) (kept_of d h, tt)

    marked_then : (b : Bool) (c : Channel) (n place : ℕ) (d : Desk) → Base S t d → Then (mark_over b (record { channel = c; n = n; place = place }) d)
    marked_then true Local n place d h =
        let after : Desk = record d { slots = at_lane Local mark_settled d.slots } in closed_then (job_over n (lane Local after.slots)) Local n point.Reports after h
    marked_then true Remote n place d h =
        let after : Desk = record d { slots = at_lane Remote mark_settled d.slots } in closed_then (job_over n (lane Remote after.slots)) Remote n point.Reports after h
    marked_then false Local n place d h =
        let after : Desk = record d { slots = at_lane Local (left_unmarked n) (at_lane Local mark_settled d.slots) } in closed_then (job_over n (lane Local after.slots)) Local n point.Reports after h
    marked_then false Remote n place d h =
        let after : Desk = record d { slots = at_lane Remote (left_unmarked n) (at_lane Remote mark_settled d.slots) } in closed_then (job_over n (lane Remote after.slots)) Remote n point.Reports after h

    opened_then : (w : Way) (m : Marked) (fd : Fd) (d : Desk) → Base S t d → Then (mark_opened w m fd d)
    opened_then way.Fine m fd d h = (kept_of d h, tt)
    opened_then way.Over m fd d h = marked_then false m.channel m.n m.place d h
    opened_then way.Absent m fd d h = marked_then false m.channel m.n m.place d h
    opened_then way.NoMemory m fd d h = marked_then false m.channel m.n m.place d h
    opened_then way.Broken m fd d h = marked_then false m.channel m.n m.place d h

    note_then : (row : NoteRow) (m : Marked) (d : Desk) → Base S t d → Then (noted_at row m d)
    note_then written.Written m d h = (kept_of d h, tt)
    note_then written.Failed m d h = marked_then false m.channel m.n m.place d h
    note_then row m d h = (kept_of d h, tt)

    noted_then : (m : Marked) (got : GotData) (d : Desk) → Base S t d → Then (noted m got d)
    noted_then m got d h = note_then (note_moved d.note got).row m (record d { note = note_moved d.note got }) h

    pub mark_then : (row : MarkRow) (m : Marked) (got : GotData) (d : Desk) → Base S t d → Then (act_mark row m got d)
    mark_then mark.Note m got d h = noted_then m got (begin_note m d) h
    mark_then mark.Noting m got d h = noted_then m got d h
    mark_then mark.Open m got d h = opened_then (said got).way m (said got).fd d h
    mark_then (mark.Write fd) m got d h = (kept_of d h, tt)
    mark_then (mark.Close fd done) m got d h = marked_then done m.channel m.n m.place d h

    done_kept : (c : Channel) (n : ℕ) (d : Desk) → Base S t d → Kept (done_with c n d)
    done_kept Local n d h = let w = sound_local_gone S t.births.of n d.book.messages h.0 in ((h.1, h.2), (w.1, w.2))
    done_kept Remote n d h = let w = sound_remote_gone S t.births.of n d.book.messages h.0 in ((h.1, h.2), (w.1, w.2))

    again_then : (c : Channel) (n : ℕ) (p : Point) (due : ℕ) (d : Desk) → Base S t d → Then (due_again c n due (stands_at d p))
    again_then c n p due d h = (kept_of (due_again c n due (stands_at d p)) (base_due S t c n due (stands_at d p) h), tt)

    pub unlinked_then : (w : Way) (c : Channel) (n : ℕ) (p : Point) (now : ℕ) (d : Desk) → Base S t d → Then (unlinked w c n p now d)
    unlinked_then way.Fine c n p now d h = (done_kept c n (stands_at d p) h, tt)
    unlinked_then way.Over c n p now d h = again_then c n p (later now) d h
    unlinked_then way.Absent c n p now d h = again_then c n p (later now) d h
    unlinked_then way.NoMemory c n p now d h = again_then c n p (later now) d h
    unlinked_then way.Broken c n p now d h = again_then c n p (later now) d h

    later_then : (c : Channel) (n now : ℕ) (d : Desk) → Base S t d → Then (put_later c n now d)
    later_then c n now d h = again_then c n (point.Pass c false) (later now) d h

    pass_then : (o : Option (List Record)) (c : Channel) (n begun now : ℕ) (d : Desk) → is_known n d.book.messages.known ≡ true → Base S t d → Then (pass_opened o c n begun now d)
    pass_then None c n begun now d is h = later_then c n now d h
    pass_then (Some records) c n begun now d is h =
        let after : Desk = has_begun c n begun records d in
        then_if (is_free_for n (lane c d.slots)) (closed c n (point.Pass c false) after) (put_later c n now d)
        (closed_then (job_over n (lane c after.slots)) c n (point.Pass c false) after (base_begun S t c n begun records d is h)) (later_then c n now d h)

    pub file_then : (x : Progress) (c : Channel) (n begun : ℕ) (g : Reading) (now : ℕ) (s : Said) (d : Desk) → is_known n d.book.messages.known ≡ true → Base S t d → Then (file_read x c n begun g now s d)
    file_then (Goes more) c n begun g now s d is h = (kept_of d h, is)
    file_then Whole c n begun g now s d is h = pass_then (records_of d.book.read) c n begun now d is h
    file_then Missing c n begun g now s d is h = later_then c n now d h
    file_then Failed c n begun g now s d is h = later_then c n now d h

    known_if : (b : Bool) (x y : Desk) → IsKnownAt x.row x.book.messages.known → IsKnownAt y.row y.book.messages.known
        → IsKnownAt (if b then x else y).row (if b then x else y).book.messages.known
    known_if true x y p q = p
    known_if false x y p q = q

    sent_known : (c : Channel) (p : Point) (d : Desk) → IsKnownAt (request_sent c (stands_at d p)).row (request_sent c (stands_at d p)).book.messages.known
    sent_known Local p d = known_if (is_some (next (lane Local d.slots))) (with_requests Local (drop 1 d.local.requests) (record (stands_at d p) { slots = sent_on Local d.slots })) (stands_at d p) tt tt
    sent_known Remote p d = known_if (is_some (next (lane Remote d.slots))) (with_requests Remote (drop 1 d.remote.requests) (record (stands_at d p) { slots = sent_on Remote d.slots })) (stands_at d p) tt tt

    pub requested_then : (w : Way) (c : Channel) (slot : ℕ) (a : Attempt) (d : Desk) → lowest (lane c d.slots).slots ≡ Some slot → next (lane c d.slots) ≡ Some a → Base S t d → Then (requested w c d)
    requested_then way.Fine c slot a d low first h =
        let before : Desk = stands_at d (point.Pass c false) in
        (kept_of (request_sent c before) (base_sent S t c slot a before low first h), sent_known c (point.Pass c false) d)
    requested_then way.Over c slot a d low first h = lost_then c d (kept_of d h)
    requested_then way.Absent c slot a d low first h = lost_then c d (kept_of d h)
    requested_then way.NoMemory c slot a d low first h = lost_then c d (kept_of d h)
    requested_then way.Broken c slot a d low first h = lost_then c d (kept_of d h)

  -- The end of a turn

  counted_then : (turns : Option ℕ) (d : Desk) → Kept d → Then (turn_counted turns d)
  counted_then None d h = (h, tt)
  counted_then (Some k) d h = then_if (nat_lt 1 k) (record d { turns = Some (k - 1); row = at.Turn point.TakeLocal }) (record d { turns = Some 0; row = at.Ended 0 }) (h, tt) (h, tt)

  over_then : (d : Desk) → Kept d → Then (turn_over d)
  over_then d h = counted_then d.turns (record d { busy = false }) h

  past_finish_then : (now : ℕ) (d : Desk) → Kept d → Then (past_finish now d)
  past_finish_then now d h = then_if (sweep_due now d.swept) (stands_at d point.Sweep) (turn_over d) (h, tt) (over_then d h)

  past_todo_then : (now : ℕ) (d : Desk) → Kept d → Then (past_todo now d)
  past_todo_then now d h = then_if (is_some (next_idle now d) || sweep_due now d.swept) (stands_at d point.Finish) (turn_over d) (h, tt) (over_then d h)

  -- The start

  judged_owed : (o : Option Fault) (b : Book) → OwedBoth b.messages → OwedBoth (judged_by o b).messages
  judged_owed None b h = h
  judged_owed (Some fault) b h = h

  filed_owed : (content : Option (List ℕ)) (f : ControlFile) (b : Book) → OwedBoth b.messages → OwedBoth (filed content f b).messages
  filed_owed content file.QueueLifetime b h =
      let all : List (Option (List ℕ)) = set b.files (place file.QueueLifetime) content in judged_owed (first_fault all) (record b { files = all }) h
  filed_owed content file.Me b h = h
  filed_owed content file.Locals b h = h
  filed_owed content file.PercentHack b h = h
  filed_owed content file.VirtualDomains b h = h
  filed_owed content file.EnvNoAtHost b h = h
  filed_owed content file.BounceFrom b h = h
  filed_owed content file.BounceHost b h = h
  filed_owed content file.DoubleBounceTo b h = h
  filed_owed content file.DoubleBounceHost b h = h
  filed_owed content file.ConcurrencyLocal b h = h
  filed_owed content file.ConcurrencyRemote b h = h

  control_owed : (x : Progress) (f : ControlFile) (g : Reading) (s : Said) (b : Book) → OwedBoth b.messages → OwedBoth (control_read x f g s b).messages
  control_owed (Goes Opening) f g s b h = h
  control_owed (Goes (Going fd)) f g s b h = h
  control_owed (Goes (Closing fd)) f g s b h = h
  control_owed (Goes (Shutting fd)) f g s b h = h
  control_owed Whole f g s b h = filed_owed (Some b.read) f b h
  control_owed Missing f g s b h = filed_owed None f b h
  control_owed Failed f g s b h = h

  info_owed : (x : Progress) (split n : ℕ) (g : Reading) (s : Said) (b : Book) → OwedBoth b.messages → OwedBoth (info_read x split n g s b).messages
  info_owed (Goes Opening) split n g s b h = h
  info_owed (Goes (Going fd)) split n g s b h = h
  info_owed (Goes (Closing fd)) split n g s b h = h
  info_owed (Goes (Shutting fd)) split n g s b h = h
  info_owed Whole split n g s b h = h
  info_owed Missing split n g s b h = h
  info_owed Failed split n g s b h = h

  local_owed : (w : Way) (bytes : List ℕ) (b : Book) → OwedBoth b.messages → OwedBoth (greeted_local w bytes b).messages
  local_owed way.Fine [] b h = h
  local_owed way.Fine (byte ∷ rest) b h = h
  local_owed way.Over bytes b h = h
  local_owed way.Absent bytes b h = h
  local_owed way.NoMemory bytes b h = h
  local_owed way.Broken bytes b h = h

  remote_owed : (w : Way) (bytes : List ℕ) (b : Book) → OwedBoth b.messages → OwedBoth (greeted_remote w bytes b).messages
  remote_owed way.Fine [] b h = h
  remote_owed way.Fine (byte ∷ rest) b h = h
  remote_owed way.Over bytes b h = h
  remote_owed way.Absent bytes b h = h
  remote_owed way.NoMemory bytes b h = h
  remote_owed way.Broken bytes b h = h

  scan_owed : (w : Way) (text : List ℕ) (split : ℕ) (b : Book) → OwedBoth b.messages → OwedBoth (scanned w text split b).messages
  scan_owed way.Fine text split b h = h
  scan_owed way.Over text split b h = h
  scan_owed way.Absent text split b h = h
  scan_owed way.NoMemory text split b h = h
  scan_owed way.Broken text split b h = h

  learned_owed : (split n birth : ℕ) (local remote : Bool) (b : Book) → OwedBoth b.messages → OwedBoth (scan_known split n birth local remote b).messages
  learned_owed split n birth local remote b h =
      let w = sound_learned Any (births_in b.messages.known) (record { n = n; birth = birth; finish_at = 0; local = local; remote = remote; sender = sender_in b.read }) 0 b.messages tt (any_sound b.messages h) in
      (w.1, w.2)

  stated_owed : (w : Way) (split n birth : ℕ) (local : Bool) (b : Book) → OwedBoth b.messages → OwedBoth (remote_stated w split n birth local b).messages
  stated_owed way.Fine split n birth local b h = learned_owed split n birth local true b h
  stated_owed way.Absent split n birth local b h = learned_owed split n birth local false b h
  stated_owed way.Over split n birth local b h = h
  stated_owed way.NoMemory split n birth local b h = h
  stated_owed way.Broken split n birth local b h = h

  start_owed : (row : StartRow) (s : Said) (b : Book) → OwedBoth b.messages → OwedBoth (act_start row s b).messages
  start_owed (start.Control f g) s b h = control_owed (read_on g s) f g s b h
  start_owed start.GreetLocal s b h = local_owed s.way s.bytes b h
  start_owed (start.GreetRemote limit) s b h = remote_owed s.way s.bytes b h
  start_owed (start.Scan split) s b h = scan_owed s.way s.bytes split b h
  start_owed (start.StatTodo split n) s b h = h
  start_owed (start.ReadInfo split n g) s b h = info_owed (read_on g s) split n g s b h
  start_owed (start.StatInfo split n) s b h = h
  start_owed (start.StatLocal split n birth) s b h = h
  start_owed (start.StatRemote split n birth local) s b h = stated_owed s.way split n birth local b h
  start_owed start.Over s b h = h
  start_owed (start.Ended status) s b h = h

  -- what is still to be given, as the slots come to be
  abbrev AskedIn : Slots → Desk → Type 0
  AskedIn s d = Asked S d.local.requests s.local.left × Asked S d.remote.requests s.remote.left

  abbrev pub HasNoneLeft : StartRow → Desk → Type 0
  HasNoneLeft (start.GreetRemote limit) d = (d.slots.local.left ≡ []) × (d.slots.remote.left ≡ [])
  HasNoneLeft row d = Unit {0}

  slots_asked : (row : StartRow) (bytes : List ℕ) (d : Desk) → HasNoneLeft row d → AskedIn d.slots d → AskedIn (slots_by row bytes d) d
  slots_asked (start.GreetRemote limit) bytes d none h = (subst (Asked S d.local.requests) none.0 h.0, subst (Asked S d.remote.requests) none.1 h.1)
  slots_asked (start.Control f g) bytes d none h = h
  slots_asked start.GreetLocal bytes d none h = h
  slots_asked (start.Scan split) bytes d none h = h
  slots_asked (start.StatTodo split n) bytes d none h = h
  slots_asked (start.ReadInfo split n g) bytes d none h = h
  slots_asked (start.StatInfo split n) bytes d none h = h
  slots_asked (start.StatLocal split n birth) bytes d none h = h
  slots_asked (start.StatRemote split n birth local) bytes d none h = h
  slots_asked start.Over bytes d none h = h
  slots_asked (start.Ended status) bytes d none h = h

  start_row : (row : StartRow) (ks : List Known) → IsKnownAt (start_at row) ks
  start_row (start.Control f g) ks = tt
  start_row start.GreetLocal ks = tt
  start_row (start.GreetRemote limit) ks = tt
  start_row (start.Scan split) ks = tt
  start_row (start.StatTodo split n) ks = tt
  start_row (start.ReadInfo split n g) ks = tt
  start_row (start.StatInfo split n) ks = tt
  start_row (start.StatLocal split n birth) ks = tt
  start_row (start.StatRemote split n birth local) ks = tt
  start_row start.Over ks = tt
  start_row (start.Ended status) ks = tt

  pub started_then : (row : StartRow) (s : Said) (d : Desk) → HasNoneLeft row d → Kept d → Then (started row s d)
  started_then row s d none h =
      ((slots_asked row s.bytes d none h.0, start_owed row s d.book h.1), start_row (act_start row s d.book).row (act_start row s d.book).messages.known)

  -- Preprocessing

  none_then : (again : Bool) (last : List ℕ) (now : ℕ) (d : Desk) → Kept d → Then (todo_none again last now d)
  none_then false (b ∷ bs) now d h = (h, tt)
  none_then false [] now d h = past_todo_then now d h
  none_then true last now d h = past_todo_then now d h

  pub named_then : (w : Way) (text : List ℕ) (search : Search) (now : ℕ) (d : Desk) → Kept d → Then (todo_named w text search now d)
  named_then way.Fine text search now d h = by (message_number text) where
    by : (o : Option ℕ) → Then (todo_found o text search d)
    by None = (h, tt)
    by (Some n) = (h, tt)
  named_then way.Over text search now d h = none_then (is_again search) d.last_left now d h
  named_then way.Absent text search now d h = none_then (is_again search) d.last_left now d h
  named_then way.NoMemory text search now d h = none_then (is_again search) d.last_left now d h
  named_then way.Broken text search now d h = none_then (is_again search) d.last_left now d h

  on_then : (row : PassRow) (p : Pass) (now : ℕ) (d : Desk) → Kept d → Then (todo_on row p now d)
  on_then (todo.Left why) p now d h = past_todo_then now (record d { pass = p; last_left = digits p.n }) h
  on_then todo.Lost p now d h = (h, tt)
  on_then (todo.Clear t) p now d h = (h, tt)
  on_then todo.StatMess p now d h = (h, tt)
  on_then todo.OpenTodo p now d h = (h, tt)
  on_then (todo.ReadTodo fd) p now d h = (h, tt)
  on_then (todo.CloseTodo fd) p now d h = (h, tt)
  on_then (todo.Create t) p now d h = (h, tt)
  on_then (todo.Append t fd done) p now d h = (h, tt)
  on_then (todo.Sync t fd) p now d h = (h, tt)
  on_then (todo.Close t fd) p now d h = (h, tt)
  on_then (todo.Shut fd why) p now d h = (h, tt)
  on_then todo.Give p now d h = (h, tt)
  on_then todo.Answer p now d h = (h, tt)
  on_then todo.Done p now d h = (h, tt)

  over_pass_then : (row : PassRow) (p : Pass) (now : ℕ) (d : Desk) → Kept d → Then (todo_over row p now d)
  over_pass_then row p now d h =
      let learnt : Desk = record d { pass = p; book = record d.book { messages = learned (known_of p) now d.book.messages } } in
      let w = sound_learned Any (births_in d.book.messages.known) (known_of p) now d.book.messages tt (any_sound d.book.messages h.1) in
      then_if (is_done row) (past_todo now learnt) (todo_on row p now d) (past_todo_then now learnt (h.0, (w.1, w.2))) (on_then row p now d h)

  pub went_then : (row : PassRow) (came : GotData) (p : Pass) (now : ℕ) (d : Desk) → Kept d → Then (todo_went row came p now d)
  went_then todo.Answer came p now d h = over_pass_then (answer_row came) p now d h
  went_then (todo.Left why) came p now d h = on_then p.row p now d h
  went_then todo.Lost came p now d h = on_then p.row p now d h
  went_then (todo.Clear t) came p now d h = on_then p.row p now d h
  went_then todo.StatMess came p now d h = on_then p.row p now d h
  went_then todo.OpenTodo came p now d h = on_then p.row p now d h
  went_then (todo.ReadTodo fd) came p now d h = on_then p.row p now d h
  went_then (todo.CloseTodo fd) came p now d h = on_then p.row p now d h
  went_then (todo.Create t) came p now d h = on_then p.row p now d h
  went_then (todo.Append t fd done) came p now d h = on_then p.row p now d h
  went_then (todo.Sync t fd) came p now d h = on_then p.row p now d h
  went_then (todo.Close t fd) came p now d h = on_then p.row p now d h
  went_then (todo.Shut fd why) came p now d h = on_then p.row p now d h
  went_then todo.Give came p now d h = on_then p.row p now d h
  went_then todo.Done came p now d h = on_then p.row p now d h

  -- Finish and sweep

  finish_at_then : (row : FinishRow) (n now : ℕ) (d : Desk) → Kept d → Then (finish_at row n now d)
  finish_at_then finish.OpenBounce n now d h = (h, tt)
  finish_at_then finish.Return n now d h = (h, tt)
  finish_at_then finish.UnlinkInfo n now d h = (h, tt)
  finish_at_then finish.Give n now d h = (h, tt)
  finish_at_then finish.Take n now d h = (h, tt)
  finish_at_then finish.Later n now d h =
      let w = sound_put_off Any (births_in d.book.messages.known) n (later now) d.book.messages (any_sound d.book.messages h.1) in
      past_finish_then now (put_off_to n (later now) d) (h.0, (w.1, w.2))
  finish_at_then finish.Over n now d h =
      let w = sound_forgotten Any (births_in d.book.messages.known) n d.book.messages (any_sound d.book.messages h.1) in past_finish_then now (forgot n d) (h.0, (w.1, w.2))
  finish_at_then finish.Lost n now d h = (h, tt)

  pub finish_then : (row : FinishRow) (n now : ℕ) (got : GotData) (d : Desk) → Kept d → Then (act_finish row n now got d)
  finish_then finish.OpenBounce n now got d h =
      let it = bounce_on n now got (return_begun n) d.book in finish_at_then (returned_to it.row) n now (record d { bounce = it; busy = true }) h
  finish_then finish.Return n now got d h = let it = bounce_on n now got d.bounce d.book in finish_at_then (returned_to it.row) n now (record d { bounce = it }) h
  finish_then row n now got d h = finish_at_then (finish_to row (said got).way) n now d h

  pub swept_then : (row : SweepRow) (d : Desk) → Kept d → Then (sweep_at row d)
  swept_then sweep.Over d h = over_then d h
  swept_then sweep.Lost d h = (h, tt)
  swept_then row d h = (h, tt)

  begun_kept : (row : SweepRow) (now : ℕ) (d : Desk) → Kept d → Kept (sweep_begun row now d)
  begun_kept sweep.First now d h = h
  begun_kept row now d h = h

  same_named : (w : Way) (text : List ℕ) (b : Book) → (named w text b).messages ≡ b.messages
  same_named way.Fine text b = refl
  same_named way.Over text b = refl
  same_named way.Absent text b = refl
  same_named way.Broken text b = refl
  same_named way.NoMemory text b = refl

  same_searched : (row : SweepRow) (s : Said) (b : Book) → (searched row s b).messages ≡ b.messages
  same_searched sweep.First s b = same_named s.way s.bytes b
  same_searched (sweep.Next split) s b = same_named s.way s.bytes b
  same_searched row s b = refl

  pub looked_kept : (row : SweepRow) (s : Said) (now : ℕ) (d : Desk) → Kept d → Kept (looked_up row s (sweep_begun row now d))
  looked_kept row s now d h =
      let was : Kept (sweep_begun row now d) = begun_kept row now d h in
      (was.0, subst OwedBoth (sym (same_searched row s (sweep_begun row now d).book)) was.1)
