-- Where nothing fails an event of a sender leaves a record that reads `T` for each message that was tried and for each job that left one.
use Rattle.std.proofs.Common.{◌≡◌, ◌≢◌, ℕ, List, [], ◌∷◌, Bool, true, false, Option, Some, None, eq-eqb, refl, sym, ap, ◌∙◌, subst}
use Rattle.std.specs.Prelude.{◌&&◌, ◌==◌, is_some, option_map}
use Rattle.std.proofs.lemmas.Bool.{and_from, and_parts}
use Rattle.call_fs.proofs.Maps.{put_other}
use Rattle.call_fs.specs.Apply.{Fits, changed, overwritten}
use Rattle.call_fs.specs.Disk.{Disk, Open as OpenFile}
use Rattle.call_fs.specs.Past.{IsRunBy}
use Rattle.call_fs.specs.declared.calls.Answer.TheVariants as answer
use Rattle.call_fs.specs.declared.calls.Answer.{Answer}
use Rattle.call_fs.specs.declared.calls.CallData.TheVariants as call
use Rattle.call_fs.specs.declared.calls.CallData.{CallData}
use Rattle.call_fs.specs.declared.calls.Fd.{Fd}
use Rattle.call_fs.specs.declared.calls.FsError.TheVariants as why
use Rattle.call_fs.specs.declared.calls.How.TheVariants as how
use Rattle.call_fs.specs.declared.modes.Mode.{Mode}
use Rattle.call_fs.specs.declared.past.GotData.TheVariants as came
use Rattle.call_fs.specs.declared.past.GotData.{GotData}
use Rattle.call_fs.specs.declared.past.NeedData.TheVariants as needs
use Rattle.call_fs.specs.declared.past.NeedData.{NeedData}
use Rattle.call_fs.specs.declared.past.Own.{Own}
use Rattle.envelope_records.specs.declared.channel.Record.{Record}
use Rattle.program_law.proofs.Channel.Ties.{others_kept}
use Rattle.program_law.proofs.Sender.Heads.{first_all}
use Rattle.program_law.proofs.Sender.Lanes.{over_there}
use Rattle.program_law.proofs.Sender.Marking.{at_mark}
use Rattle.program_law.proofs.Sender.Others.{the_job}
use Rattle.program_law.specs.Channel.Files.{Files, IsOpen, marked, with_mark}
use Rattle.program_law.specs.Channel.Tied.{First, IsTied}
use Rattle.program_law.specs.Channel.Tied.First.{Unwritten, Written}
use Rattle.program_law.specs.Sender.Knows.{IsSettledIn, Knows}
use Rattle.program_law.specs.Sender.Stands.{StandsAt}
use Rattle.program_law.specs.Sender.Views.{files_of, first_at, first_if, records_at}
use Rattle.queue_law.specs.Numbers.{Entry, Queue, about, look}
use Rattle.queue_law.specs.Routes.{lane_part}
use Rattle.queue_paths.specs.Names.Name.{Of}
use Rattle.queue_paths.specs.Names.{name_of, path}
use Rattle.send_core.specs.Agrees.{is_same}
use Rattle.send_core.specs.Births.{births}
use Rattle.send_core.specs.Table.{Next, act, due_at, moved, place_after, row_now}
use Rattle.send_core.specs.Turn.{is_fine}
use Rattle.send_core.specs.declared.desk.Desk.{Desk}
use Rattle.send_parts.specs.declared.row.MarkRow.TheVariants as mark
use Rattle.send_parts.specs.declared.row.MarkRow.{MarkRow}
use Rattle.send_parts.specs.declared.row.Marked.{Marked}
use Rattle.send_parts.specs.declared.row.Point.{Point}
use Rattle.send_parts.specs.declared.row.Row.TheVariants as at
use Rattle.send_parts.specs.declared.row.Row.{Row}
use Rattle.send_parts.specs.Channels.{file_of}
use Rattle.send_jobs.specs.Jobs.{job_of}
use Rattle.send_jobs.specs.Sending.{lane}
use Rattle.send_jobs.specs.declared.attempts.Mark.{Mark}
use Rattle.send_known.specs.declared.channel.Channel.TheVariants.{Local, Remote}
use Rattle.send_known.specs.declared.channel.Channel.{Channel}
use Rattle.send_jobs.specs.declared.jobs.Job.{Job}
use Rattle.send_known.specs.declared.known.Known.{Known}
use Rattle.send_parts.specs.Replies.{said}
use Rattle.send_parts.specs.declared.rows.StartRow.TheVariants as start
use Rattle.send_parts.specs.declared.rows.StartRow.{StartRow}
use Rattle.send_runs.proofs.Clearing.{ClearedAt, cleared_here}
use Rattle.send_runs.proofs.Fates.{same_channel}
use Rattle.send_runs.proofs.Knowing.{known_exactly}
use Rattle.send_runs.proofs.Unlinks.{unlinks_row}
use Rattle.send_runs.specs.DueMoments.{has_unlinked}
use Rattle.send_runs.specs.Dues.{unlinks}
use Rattle.send_runs.specs.Files.{drops, has_by, has_in, is_done, there_in}
use Rattle.send_runs.specs.Knowing.{known_by, known_in}
use Rattle.retry_law.specs.Tried.{tried_in}
use Rattle.world_events.specs.declared.event.Program.TheVariants.{Sender}
use Rattle.mail_world.specs.History.{ComesOf, MayDo, State, disk_after}
use Rattle.mail_world.specs.Untouched.{queue}
use Rattle.world_law.specs.Inv.{Inv}
use Rattle.settle_law.proofs.LaneMarks.{marked_after}
use Rattle.settle_law.proofs.LaneTexts.{files_on}
use Rattle.settle_law.proofs.LeftRows.{rows_hold_tried}
use Rattle.settle_law.proofs.LeftSteps.{AreTied, MarkNeeds, RowNeeds, StartNeeds, acts_hold, arrives_hold, fewer_tried, free_first, lane_keeps, of_first, unwritten_if}
use Rattle.settle_law.proofs.OwnInfos.{known_with, none_leaves, settled_of}
use Rattle.settle_law.proofs.OwnLanes.{IsApart, LeavesFiles, files_by, own_files}
use Rattle.settle_law.proofs.SenderRows.{comes as comes_there, due, stands}
use Rattle.settle_law.proofs.ServedPasts.{by_answer, served}
use Rattle.settle_law.proofs.TriedKnown.{known_tried, known_tried_stay}
use Rattle.settle_law.specs.inside.Lefts.{HoldsTried, KeepsTried}
use Rattle.settle_law.specs.inside.TriedStay.{tried_at}
use Rattle.settle_law.specs.Well.{came_well, is_well_answered}

-- it writes no mark
abbrev NoWrite : Row → Type 0
NoWrite (at.Mark (mark.Write fd) m) = ⊥
NoWrite row = Unit {0}

abbrev left_of : Option Job → Bool
left_of None = false
left_of (Some job) = job.unmarked

entry_of : (o : Option Entry) (records : List Record) → records_at o ≡ Some records → (y : Entry) × (o ≡ Some y)
entry_of None records e = absurd (cc)
entry_of (Some y) records e = (y, refl)

known_then : (past : List Own) (c : Channel) (n : ℕ) → known_tried past c n ≡ true → known_in past n ≡ true
known_then past c n e = (and_parts (tried_at past c n) (known_in past n) e).1

and_false : (b : Bool) → (b && false) ≡ false
and_false true = refl
and_false false = refl

-- a file that is gone is told of no more
untold : (past : List Own) (c : Channel) (n : ℕ) → has_in c n past ≡ false → known_tried past c n ≡ false
untold past c n gone = ap (λ (b : Bool). (is_some (tried_in c n past) && b) && known_in past n) gone ∙ ap (λ (b : Bool). b && known_in past n) (and_false (is_some (tried_in c n past)))

-- an unlink that went well is done
done_well : (d : Disk) (name : List ℕ) (told : Answer) (bytes : List ℕ) (wrote : ℕ) → Fits d (call.Unlink name) told wrote
    → is_fine (said (came.Answered (record { answer = told; bytes = bytes }))).way ≡ true → is_done told ≡ true
done_well d name answer.Done bytes wrote fits fine = refl
done_well d name (answer.Refused why.NotThere) bytes wrote fits fine = absurd (cc)
done_well d name (answer.Refused why.Fault) bytes wrote fits fine = absurd (cc)
done_well d name told bytes wrote fits fine = absurd fits

-- of two channels: the one at work, and the other
first_keeps : (K : Channel → First → Type 0) (c : Channel) (row : MarkRow) (first : First) → K c first → ((b : Bool) → b ≡ true → first_if b row ≡ first) → ((ch : Channel) → ch ≢ c → K ch (first_if false row))
    → (ch : Channel) → K ch (first_if (is_same c ch) row)
first_keeps K Local row first own is far Local = subst (K Local) (sym (is true refl)) own
first_keeps K Local row first own is far Remote = far Remote (λ e. absurd (cc))
first_keeps K Remote row first own is far Local = far Local (λ e. absurd (cc))
first_keeps K Remote row first own is far Remote = subst (K Remote) (sym (is true refl)) own

module _ (s : State) (I : Inv s) (a : List ℕ) (own : Own) (wrote : ℕ) (may : MayDo s a own wrote) (began : ℕ) (is : may.actor.program ≡ Sender began) (good : came_well own.came ≡ true)
    (run : IsRunBy (Next None) (own ∷ may.actor.past)) where
  abbrev q : Queue
  q = queue s I.role

  abbrev past : List Own
  past = may.actor.past

  abbrev d : Desk
  d = place_after None past

  abbrev row : Row
  row = row_now d own.read own.ready

  abbrev before : Channel → Files
  before = files_on s.disk

  abbrev later : Channel → ℕ → Bool
  later = known_tried (own ∷ past)

  at_row : (r : Row) → row ≡ r → StandsAt s.now q a r d
  at_row r e = subst (λ (x : Row). StandsAt s.now q a x d) e (stands s I a own wrote may began is)

  comes_at : (r : Row) → row ≡ r → ComesOf s a (due_at r d) own.came wrote
  comes_at r e = subst (λ (x : Row). ComesOf s a (due_at x d) own.came wrote) e (comes_there s I a own wrote may began is)

  was_tried : (c : Channel) (n : ℕ) → job_of n (lane c d.slots).jobs ≡ None → later c n ≡ true → known_tried past c n ≡ true
  was_tried c n none t = known_tried_stay None past own run c n none t

  settled : (n : ℕ) → known_in past n ≡ true → (x : CallData) → due_at row d ≡ needs.File x → IsSettledIn (about q n)
  settled n known x e =
      let here = at_row row refl in
      let w = known_with (λ (k : Known). Knows row (about q k.n) k) n d.book.messages.known here.knows.known (known_exactly None past run.0 n ∙ known) in
      subst (λ (k : ℕ). IsSettledIn (about q k)) w.1 (settled_of row (about q w.0.n) w.0 (none_leaves row d w.0.n x e) w.2)

  -- Which files are as they were

  abbrev Leaves : Disk → Type 0
  Leaves e = LeavesFiles s I a own wrote may began is e

  apart_at : (r : Row) → row ≡ r → (c : Channel) (n : ℕ) → IsApart r c n → IsApart row c n
  apart_at r e c n far = subst (λ (x : Row). IsApart x c n) (sym e) far

  module _ (e : Disk) (leaves : Leaves e) where
    of_job : (c : Channel) (n : ℕ) (job : Job) → job_of n (lane c d.slots).jobs ≡ Some job → IsApart row c n → files_on e c n ≡ before c n
    of_job c n job there far =
        let w = ((at_row row refl).lanes c).jobs n job there in
        leaves c n w.file w.there (λ x due. w.sorted) far

    of_tried : (c : Channel) (n : ℕ) → job_of n (lane c d.slots).jobs ≡ None → later c n ≡ true → (records : List Record) → before c n ≡ Some records → IsApart row c n → files_on e c n ≡ before c n
    of_tried c n none t records there far =
        let w = entry_of (look q (Of (lane_part c) n)) records there in
        leaves c n w.0 w.1 (settled n (known_then past c n (was_tried c n none t))) far

    -- what is kept of each channel is tied to its files still
    tied_at : (r : Row) → row ≡ r → ((ch : Channel) → first_at r ch ≡ Unwritten) → ((c : Channel) (n : ℕ) → IsApart r c n) → AreTied (files_on e) d.slots
    tied_at r is_r first far ch =
        others_kept (files_of q ch) (files_on e ch) Unwritten (lane ch d.slots)
        (subst (λ (f : First). IsTied (files_of q ch) f (lane ch d.slots)) (first ch) ((at_row r is_r).lanes ch).tied)
        (λ n some. let job = the_job (job_of n (lane ch d.slots).jobs) some in of_job ch n job.0 job.1 (apart_at r is_r ch n (far ch n)))

  -- The unlink of a channel file

  cleared : (c : Channel) (n : ℕ) (p : Point) → row ≡ at.UnlinkFile c n p → has_unlinked past ≡ false
  cleared c n p e = subst (λ (r : Row). ClearedAt r d.pass (has_unlinked past)) e (cleared_here None past own.read own.ready run.0)

  is_unlinked : (c : Channel) (n : ℕ) (p : Point) → row ≡ at.UnlinkFile c n p → unlinks c n (has_unlinked past) (due_at (at.UnlinkFile c n p) d) ≡ true
  is_unlinked c n p e = unlinks_row c n (has_unlinked past) (at.UnlinkFile c n p) d (cleared c n p e) ∙ and_from (is_same c c) (n == n) (same_channel c) (eq-eqb n n refl)

  fine : (c : Channel) (n : ℕ) (p : Point) → row ≡ at.UnlinkFile c n p → is_fine (said own.came).way ≡ true
  fine c n p e = (served s I a own wrote may began is good).unlinked c n p e

  abbrev Has : Channel → ℕ → NeedData → GotData → Bool
  Has c n need got = has_by (known_by need got (births past).command n false) (drops c n (has_unlinked past) need got) (there_in c n (own ∷ past)) (has_in c n past)

  gone : (c : Channel) (n : ℕ) (p : Point) → row ≡ at.UnlinkFile c n p → later c n ≡ false
  gone c n p e = untold (own ∷ past) c n (subst (λ (need : NeedData). Has c n need own.came ≡ false) (ap (λ (r : Row). due_at r d) (sym e) ∙ due s I a own wrote may began is)
      (by_answer s a (λ g. is_fine (said g).way ≡ true → Has c n (due_at (at.UnlinkFile c n p) d) g ≡ false) (call.Unlink (path (name_of (file_of c n)))) wrote own.came (comes_at (at.UnlinkFile c n p) e)
      (λ answers bytes fits well.
      ap (λ (b : Bool). has_by false (b && is_done answers) (there_in c n (own ∷ past)) (has_in c n past)) (is_unlinked c n p e)
      ∙ ap (λ (b : Bool). has_by false b (there_in c n (own ∷ past)) (has_in c n past)) (done_well s.disk (path (name_of (file_of c n))) answers bytes wrote fits well))
      (fine c n p e)))

  apart_job : (r : Row) → row ≡ r → NoWrite r → (c : Channel) (n : ℕ) (job : Job) → job_of n (lane c d.slots).jobs ≡ Some job → job.unmarked ≡ true → IsApart r c n
  apart_job (at.Mark (mark.Write fd) m) is_r none c n job there spoilt = absurd none
  apart_job (at.UnlinkFile k i p) is_r none c n job there spoilt = λ same number.
      let done = (at_row (at.UnlinkFile k i p) is_r).rests.0 in
      let one : job_of n (lane c d.slots).jobs ≡ Some done.job =
      ap (λ (x : Channel). job_of n (lane x d.slots).jobs) (sym same) ∙ ap (λ (x : ℕ). job_of x (lane k d.slots).jobs) (sym number) ∙ over_there i (lane k d.slots) done.job done.over in
      let both : true ≡ false = sym spoilt ∙ ap left_of (sym there ∙ one) ∙ done.none_left in
      absurd (cc)
  apart_job r is_r none c n job there spoilt = tt

  apart_tried : (r : Row) → row ≡ r → NoWrite r → (c : Channel) (n : ℕ) → later c n ≡ true → IsApart r c n
  apart_tried (at.Mark (mark.Write fd) m) is_r none c n t = absurd none
  apart_tried (at.UnlinkFile k i p) is_r none c n t = λ same number.
      let both : true ≡ false = sym t ∙ ap (λ (x : Channel). later x n) (sym same) ∙ ap (later k) (sym number) ∙ gone k i p is_r in
      absurd (cc)
  apart_tried r is_r none c n t = tt

  -- Rows but for the write of a mark

  abbrev then_disk : Disk
  then_disk = disk_after s.disk own.read own.due own.came wrote

  leaves_then : Leaves then_disk
  leaves_then = own_files s I a own wrote may began is

  files_then : (r : Row) → row ≡ r → NoWrite r → HoldsTried later before r d.slots → HoldsTried later (files_on then_disk) r d.slots
  files_then r is_r none h = (
    h.0,
    λ ch. lane_keeps (later ch) (before ch) (files_on then_disk ch) (first_at r ch) (lane ch d.slots)
        (λ n job there spoilt records was. of_job then_disk leaves_then ch n job there (apart_at r is_r ch n (apart_job r is_r none ch n job there spoilt)))
        (λ n free t records was. of_tried then_disk leaves_then ch n free t records was (apart_at r is_r ch n (apart_tried r is_r none ch n t)))
        (h.1 ch),
  )

  start_needs : (r : StartRow) → row ≡ at.Start r → StartNeeds r d.slots
  start_needs (start.GreetRemote limit) e = (at_row (at.Start (start.GreetRemote limit)) e).rests.1.0
  start_needs r e = tt

  mark_needs : (r : MarkRow) (m : Marked) → row ≡ at.Mark r m → NoWrite (at.Mark r m) → MarkNeeds (files_on then_disk) r m d.slots
  mark_needs mark.Note m e none =
      (tied_at then_disk leaves_then (at.Mark mark.Note m) e (free_first (at.Mark mark.Note m) tt) (λ c n. tt), (at_row (at.Mark mark.Note m) e).rests.0)
  mark_needs mark.Noting m e none =
      (tied_at then_disk leaves_then (at.Mark mark.Noting m) e (free_first (at.Mark mark.Noting m) tt) (λ c n. tt), (at_row (at.Mark mark.Noting m) e).rests.0)
  mark_needs mark.Open m e none =
      (tied_at then_disk leaves_then (at.Mark mark.Open m) e (free_first (at.Mark mark.Open m) tt) (λ c n. tt), (at_row (at.Mark mark.Open m) e).rests.0)
  mark_needs (mark.Write fd) m e none = none
  mark_needs (mark.Close fd done) m e none = tt

  row_needs : (r : Row) → row ≡ r → NoWrite r → RowNeeds later (files_on then_disk) r d.slots (said own.came).way
  row_needs (at.Start r) e none = start_needs r e
  row_needs (at.Turn p) e none = comes_at (at.Turn p) e
  row_needs (at.TakeLink c) e none = tied_at then_disk leaves_then (at.TakeLink c) e (λ ch. refl) (λ k n. tt)
  row_needs (at.Mark r m) e none = mark_needs r m e none
  row_needs (at.UnlinkFile c n p) e none = (fine c n p e, gone c n p e)
  row_needs (at.ReadFile c n begun reading) e none = (at_row (at.ReadFile c n begun reading) e).rests.1.0
  row_needs (at.Ended status) e none = comes_at (at.Ended status) e
  row_needs r e none = tt

  abbrev To : Disk → Row → GotData → Type 0
  To e r got = let x : Desk = act r own.read got d in HoldsTried later (files_on e) x.row x.slots

  by_row : (r : Row) → row ≡ r → NoWrite r → HoldsTried later before r d.slots → To then_disk r own.came
  by_row r e none h = acts_hold later (files_on then_disk) r own.read own.came d (row_needs r e none) (files_then r e none h)

  -- The write of a mark

  module _ (fd : Fd) (m : Marked) (is_r : row ≡ at.Mark (mark.Write fd) m) (h : HoldsTried later before (at.Mark (mark.Write fd) m) d.slots) where
    abbrev at_write : Row
    at_write = at.Mark (mark.Write fd) m

    abbrev c : Channel
    c = m.channel

    here : StandsAt s.now q a at_write d
    here = at_row at_write is_r

    abbrev it : Mark
    it = here.rests.0.first

    tied : IsTied (before c) Unwritten (lane c d.slots)
    tied = (at_mark s.now q a (mark.Write fd) m d here).tied

    reads : IsOpen (before c) it.attempt
    reads = first_all (λ (x : Mark). IsOpen (before c) x.attempt) (lane c d.slots).marks it tied.to_mark here.rests.0.there

    kept : (ch : Channel) → KeepsTried (later ch) (before ch) Unwritten (lane ch d.slots)
    kept = of_first later before at_write d.slots (λ ch. unwritten_if (mark.Write fd) refl (is_same c ch)) h

    other_number : (ch : Channel) (n : ℕ) → (m.n ≡ n → ⊥) → IsApart row ch n
    other_number ch n far = apart_at at_write is_r ch n (λ same number. far number)

    other_channel : (ch : Channel) (n : ℕ) → ch ≢ c → IsApart row ch n
    other_channel ch n far = apart_at at_write is_r ch n (λ same number. far (sym same))

    module _ (e : Disk) (leaves : Leaves e) (marks : (k : ℕ) → ((m.n ≡ k → ⊥) → files_on e c k ≡ before c k) → files_on e c k ≡ with_mark it.attempt (before c) k) where
      -- a file in which no mark is written was there
      was : (k : ℕ) (records : List Record) → (m.n ≡ k → ⊥) → with_mark it.attempt (before c) k ≡ Some records → before c k ≡ Some records
      was k records far there = sym (put_other (before c) it.attempt.n (option_map (marked it.attempt.place) (before c it.attempt.n)) k (λ same. far (sym (same ∙ here.rests.0.number)))) ∙ there

      own_channel : KeepsTried (later c) (files_on e c) Written (lane c d.slots)
      own_channel = lane_keeps (later c) (with_mark it.attempt (before c)) (files_on e c) Written (lane c d.slots)
          (λ n job there spoilt records w. marks n (λ far. of_job e leaves c n job there (other_number c n far)))
          (λ n free t records w. marks n (λ far. of_tried e leaves c n free t records (was n records far w) (other_number c n far)))
          (rows_hold_tried.written (later c) (before c) (lane c d.slots) it tied here.rests.0.there (kept c))

      far_channel : (ch : Channel) → ch ≢ c → KeepsTried (later ch) (files_on e ch) Unwritten (lane ch d.slots)
      far_channel ch far = lane_keeps (later ch) (before ch) (files_on e ch) Unwritten (lane ch d.slots)
          (λ n job there spoilt records w. of_job e leaves ch n job there (other_channel ch n far))
          (λ n free t records w. of_tried e leaves ch n free t records w (other_channel ch n far))
          (kept ch)

      closes : HoldsTried later (files_on e) (at.Mark (mark.Close fd true) m) d.slots
      closes = (tt, first_keeps (λ ch first. KeepsTried (later ch) (files_on e ch) first (lane ch d.slots)) c (mark.Close fd true) Written own_channel is_written far_channel) where
        is_written : (b : Bool) → b ≡ true → first_if b (mark.Close fd true) ≡ Written
        is_written true e = refl
        is_written false e = absurd (cc)

    abbrev writing : CallData
    writing = call.WriteAt fd m.place (68 ∷ [])

    abbrev Wrote : GotData → Type 0
    Wrote got = To (disk_after s.disk own.read (needs.File writing) got wrote) at_write got

    wrote_leaves : (got : GotData) → ComesOf s a (needs.File writing) got wrote → Leaves (disk_after s.disk own.read (needs.File writing) got wrote)
    wrote_leaves got comes = files_by s I a own wrote may began is (needs.File writing) got (ap (λ (r : Row). due_at r d) is_r) comes

    -- the disk with the mark, at this place of this open file
    abbrev at_place : ℕ → Option OpenFile → Disk
    at_place place o = changed s.disk o (overwritten own.read place (68 ∷ []))

    abbrev MarksFile : Disk → Type 0
    MarksFile e = (k : ℕ) → ((m.n ≡ k → ⊥) → files_on e c k ≡ before c k) → files_on e c k ≡ with_mark it.attempt (before c) k

    marks_file : MarksFile (at_place m.place (s.disk.opens fd.0))
    marks_file =
        let file = here.rests.1.0 in
        let open_as : OpenFile = record { number = file.file.number; mode = Mode.Opened how.Write } in
        subst (λ (o : Option OpenFile). MarksFile (at_place m.place o)) (sym file.opened.opened)
        (subst (λ (p : ℕ). MarksFile (at_place p (Some open_as))) here.rests.0.place
        (λ k far. marked_after s.disk c m.n file.file file.there open_as refl own.read it.attempt here.rests.0.number reads k far))

    by_write : (told : Answer) (bytes : List ℕ) → ComesOf s a (needs.File writing) (came.Answered (record { answer = told; bytes = bytes })) wrote → is_well_answered told ≡ true
        → Wrote (came.Answered (record { answer = told; bytes = bytes }))
    by_write answer.Done bytes comes well = closes (at_place m.place (s.disk.opens fd.0)) (wrote_leaves (came.Answered (record { answer = answer.Done; bytes = bytes })) comes) marks_file
    by_write (answer.Refused why.Fault) bytes comes well = absurd (cc)
    by_write (answer.Refused why.Memory) bytes comes well = absurd (cc)
    by_write told bytes comes well = absurd comes.0

    by_came : (got : GotData) → ComesOf s a (needs.File writing) got wrote → came_well got ≡ true → Wrote got
    by_came (came.Answered told) comes well = by_write told.answer told.bytes comes well
    by_came got comes well = absurd comes

    write_to : To then_disk at_write own.came
    write_to = subst (λ (need : NeedData). To (disk_after s.disk own.read need own.came wrote) at_write own.came) (ap (λ (r : Row). due_at r d) (sym is_r) ∙ due s I a own wrote may began is)
        (by_came own.came (comes_at at_write is_r) good)

  by_any : (r : Row) → row ≡ r → HoldsTried later before r d.slots → To then_disk r own.came
  by_any (at.Mark (mark.Write fd) m) e h = write_to fd m e h
  by_any r e h = by_row r e tt h

  pub event_tried : HoldsTried (known_tried past) before d.row d.slots → let e : Desk = moved d own in HoldsTried later (files_on then_disk) e.row e.slots
  event_tried h = by_any row refl (fewer_tried (known_tried past) later before row d.slots was_tried (arrives_hold (known_tried past) before d.row d own.read own.ready h))
