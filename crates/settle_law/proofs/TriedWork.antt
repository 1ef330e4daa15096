-- Where each report is of a success, a message that was tried and has its file is at work.
use Rattle.std.proofs.Common.{◌≡◌, ℕ, List, [], ◌∷◌, length, Bool, true, false, Option, Some, None, refl, sym, ap, ◌∙◌, subst}
use Rattle.std.specs.Prelude.{◌&&◌, ◌==◌, All, Contains, IsSome, is_some, not}
use Rattle.std.proofs.lemmas.Bool.{and_parts, eq-eqb, false≢true}
use Rattle.std.proofs.lemmas.List.Elements.{All-nil}
use Rattle.call_fs.specs.Apply.{Fits}
use Rattle.call_fs.specs.Disk.{Disk}
use Rattle.call_fs.specs.Past.{IsRunBy}
use Rattle.call_fs.specs.Program.{MayCome}
use Rattle.call_fs.specs.declared.calls.Answer.TheVariants as answer
use Rattle.call_fs.specs.declared.calls.Answer.{Answer}
use Rattle.call_fs.specs.declared.calls.CallData.TheVariants as call
use Rattle.call_fs.specs.declared.calls.FsError.TheVariants as why
use Rattle.call_fs.specs.declared.calls.How.TheVariants as how
use Rattle.call_fs.specs.declared.past.ChildData.{ChildData}
use Rattle.call_fs.specs.declared.past.GotData.TheVariants as came
use Rattle.call_fs.specs.declared.past.GotData.{GotData}
use Rattle.call_fs.specs.declared.past.NeedData.TheVariants as needs
use Rattle.call_fs.specs.declared.past.NeedData.{NeedData}
use Rattle.call_fs.specs.declared.past.Own.{Own}
use Rattle.program_law.proofs.Sender.Heads.{first_in}
use Rattle.program_law.proofs.Sender.Others.{mark_has_job}
use Rattle.program_law.specs.Channel.Tied.{First, waiting}
use Rattle.program_law.specs.Channel.Tied.First.{Unwritten}
use Rattle.program_law.specs.Sender.Knows.{Serves}
use Rattle.program_law.specs.Sender.Stands.{StandsAt}
use Rattle.program_law.specs.Sender.Views.{first_if}
use Rattle.queue_law.specs.Numbers.{about}
use Rattle.queue_paths.specs.Names.{name_of, parse, path}
use Rattle.send_core.proofs.Lists.{news_are}
use Rattle.send_core.proofs.Runs.{Was, frees, keeps}
use Rattle.send_core.proofs.Standing.{FitAt, arrives}
use Rattle.send_core.proofs.Changes.{Both, Heard}
use Rattle.send_core.proofs.Fits.{so_far}
use Rattle.send_core.specs.Agrees.{is_same}
use Rattle.send_core.specs.Births.{births}
use Rattle.send_core.specs.Desk.{link}
use Rattle.send_core.specs.Past.{account, news, work}
use Rattle.send_core.specs.Table.{Next, due_at, place_after, row_now}
use Rattle.send_core.specs.Turn.{is_fine}
use Rattle.send_core.specs.declared.desk.Desk.{Desk}
use Rattle.send_parts.specs.declared.row.MarkRow.TheVariants as mark
use Rattle.send_parts.specs.declared.row.Marked.{Marked}
use Rattle.send_parts.specs.declared.row.Point.{Point}
use Rattle.send_parts.specs.declared.row.Row.TheVariants as at
use Rattle.send_parts.specs.declared.row.Row.{Row}
use Rattle.send_parts.specs.Channels.{file_of, port_of}
use Rattle.send_jobs.specs.Jobs.{job_of}
use Rattle.send_jobs.specs.Sending.{lane}
use Rattle.send_jobs.specs.declared.attempts.Mark.{Mark}
use Rattle.send_known.specs.declared.channel.Channel.TheVariants.{Local, Remote}
use Rattle.send_known.specs.declared.channel.Channel.{Channel}
use Rattle.send_jobs.specs.declared.jobs.Job.{Job}
use Rattle.send_parts.specs.Replies.{said}
use Rattle.queue_paths.specs.declared.names.Name.TheVariants as name
use Rattle.send_parts.specs.Readings.{reading_step}
use Rattle.send_parts.specs.Steps.{due_by}
use Rattle.send_parts.specs.declared.reading.Reading.{Reading}
use Rattle.send_parts.specs.declared.reading.Reading.TheVariants.{Closing, Going, Opening, Shutting}
use Rattle.send_parts.specs.declared.rows.StartRow.{StartRow}
use Rattle.send_parts.specs.declared.rows.StartRow.TheVariants as start
use Rattle.send_parts.specs.declared.step.Step.{Step}
use Rattle.send_parts.specs.declared.step.Step.TheVariants as step
use Rattle.send_runs.proofs.Clearing.{cleared_here}
use Rattle.send_runs.proofs.Fates.{is_unlinking}
use Rattle.send_runs.proofs.Unlinks.{unlinks_row}
use Rattle.send_runs.specs.DueMoments.{has_unlinked, is_file}
use Rattle.send_runs.specs.Dues.{unlinks}
use Rattle.send_runs.specs.Files.{drops, has_by, has_in, is_done, there_in}
use Rattle.send_runs.specs.Knowing.{known_by}
use Rattle.spawn_protocol.specs.Report.{Reader, read_on}
use Rattle.spawn_protocol.specs.Report.Reader.{AtBegin}
use Rattle.spawn_protocol.specs.declared.report.Report.{Report}
use Rattle.world_events.specs.declared.event.Program.{Program}
use Rattle.world_events.specs.declared.event.Program.TheVariants.{Sender}
use Rattle.mail_world.proofs.Coming.{may_come}
use Rattle.mail_world.specs.History.{MayBear, MayDo, State, next_of}
use Rattle.mail_world.specs.Untouched.{queue}
use Rattle.world_law.proofs.Ran.{born_comes}
use Rattle.world_law.specs.Inv.{Inv}
use Rattle.retry_law.specs.Tried.{tried_in}
use Rattle.settle_law.specs.inside.Succeeded.{HearsSuccess, IsSuccess, TriedAreAtWork}
use Rattle.settle_law.specs.inside.TriedStay.{tried_at}
use Rattle.settle_law.specs.Well.{came_well, goes_well, is_well_answered}
use Rattle.settle_law.proofs.Pasts.{sender_pasts}
use Rattle.settle_law.proofs.ServedPasts.{at_row, by_answer, comes_at, served, there}
use Rattle.settle_law.proofs.SuccessLanes.{HasRoom, Keeps}
use Rattle.settle_law.proofs.SuccessRows.{Asks, Held, IsFine, arrives_fine, row_fine}
use Rattle.settle_law.proofs.TriedStay.{tried_stay}

-- A file that was unlinked is no more there

module _ (c : Channel) (n : ℕ) (clears : Bool) (command : List ℕ) (there was : Bool) where
  gone_if : (mine : Bool) (told : Answer) (bytes : List ℕ) (name : List ℕ) → mine ≡ true → MayCome (needs.File (call.Unlink name)) (came.Answered (record { answer = told; bytes = bytes }))
      → is_fine (said (came.Answered (record { answer = told; bytes = bytes }))).way ≡ true → has_by false (mine && is_done told) there was ≡ false
  gone_if true answer.Done bytes name e may fine = refl
  gone_if true (answer.Refused why.NotThere) bytes name e may fine = absurd (cc)
  gone_if true (answer.Refused why.Fault) bytes name e may fine = absurd (cc)
  gone_if true told bytes name e may fine = absurd may
  gone_if false told bytes name e may fine = absurd (cc)

  has_none : (due : NeedData) (got : GotData) → unlinks c n clears due ≡ true → MayCome due got → is_fine (said got).way ≡ true
      → has_by (known_by due got command n false) (drops c n clears due got) there was ≡ false
  has_none (needs.File (call.Unlink name)) (came.Answered told) u may fine = gone_if (not clears && is_file c n (parse name)) told.answer told.bytes name u may fine
  has_none (needs.File (call.Unlink name)) got u may fine = absurd may
  has_none due got u may fine = absurd (cc)

unlinking_itself : (c : Channel) (n : ℕ) → (is_same c c && (n == n)) ≡ true
unlinking_itself Local n = eq-eqb n n refl
unlinking_itself Remote n = eq-eqb n n refl

-- What may come of the calls of a mark, where nothing fails

opens_well : (d : Disk) (name : List ℕ) (told : Answer) (bytes : List ℕ) (wrote i : ℕ) → Fits d (call.Open name how.Write) told wrote → d.names name ≡ Some i → is_well_answered told ≡ true
    → is_fine (said (came.Answered (record { answer = told; bytes = bytes }))).way ≡ true
opens_well d name (answer.Opened fd) bytes wrote i fits there well = refl
opens_well d name (answer.Refused why.NotThere) bytes wrote i fits there well = absurd (cc (sym fits ∙ there))
opens_well d name (answer.Refused why.Fault) bytes wrote i fits there well = absurd (cc)
opens_well d name (answer.Refused why.Memory) bytes wrote i fits there well = absurd (cc)
opens_well d name told bytes wrote i fits there well = absurd fits

abbrev IsWrite : NeedData → Type 0
IsWrite (needs.File (call.WriteAt fd place bytes)) = Unit {0}
IsWrite due = ⊥

writes_well : (due : NeedData) (got : GotData) → IsWrite due → MayCome due got → came_well got ≡ true → is_fine (said got).way ≡ true
writes_well (needs.File (call.WriteAt fd place bytes)) (came.Answered told) is may well = by told.answer told.bytes may well
  where
    by : (it : Answer) (given : List ℕ) → MayCome (needs.File (call.WriteAt fd place bytes)) (came.Answered (record { answer = it; bytes = given })) → is_well_answered it ≡ true
        → is_fine (said (came.Answered (record { answer = it; bytes = given }))).way ≡ true
    by answer.Done given may well = refl
    by (answer.Refused why.Fault) given may well = absurd (cc)
    by (answer.Refused why.Memory) given may well = absurd (cc)
    by it given may well = absurd may
writes_well (needs.File (call.WriteAt fd place bytes)) got is may well = absurd may
writes_well due got is may well = absurd is

-- What may come of a taking

abbrev IsTakenSo : GotData → Type 0
IsTakenSo (came.Took bytes) = Unit {0}
IsTakenSo came.End = Unit {0}
IsTakenSo came.Failed = Unit {0}
IsTakenSo got = ⊥

taken_so : (c : Channel) (got : GotData) → MayCome (needs.Take (port_of c)) got → IsTakenSo got
taken_so Local (came.Took bytes) may = tt
taken_so Local came.End may = tt
taken_so Local came.Failed may = tt
taken_so Local got may = absurd may
taken_so Remote (came.Took bytes) may = tt
taken_so Remote came.End may = tt
taken_so Remote came.Failed may = tt
taken_so Remote got may = absurd may

module _ (reader : Reader) (o : Option (List ℕ)) (is : reader ≡ (read_on AtBegin (so_far o)).1) (told : Heard o) where
  heard_well : (bytes : List ℕ) (p : Option (List ℕ)) → o ≡ p → ((before : List ℕ) → p ≡ Some before → All IsSuccess (news before bytes)) → All IsSuccess (read_on reader bytes).0
  heard_well bytes None e all = absurd (subst Heard e told)
  heard_well bytes (Some before) e all =
      let at : reader ≡ (read_on AtBegin before).1 = is ∙ ap (λ (p : Option (List ℕ)). (read_on AtBegin (so_far p)).1) e in
      subst (λ (rs : List Report). All IsSuccess rs) (news_are before bytes ∙ sym (ap (λ (r : Reader). (read_on r bytes).0) at)) (all before refl)

  takes_well : (got : GotData) → IsTakenSo got → ((before bytes : List ℕ) → o ≡ Some before → got ≡ came.Took bytes → All IsSuccess (news before bytes)) → All IsSuccess (read_on reader (said got).bytes).0
  takes_well (came.Took bytes) may all = heard_well bytes o refl (λ before e. all before bytes e refl)
  takes_well came.End may all = All-nil IsSuccess
  takes_well came.Failed may all = All-nil IsSuccess
  takes_well got may all = absurd may

open_is : (b : Bool) → first_if b mark.Open ≡ Unwritten
open_is true = refl
open_is false = refl

-- In each past

abbrev Succeeds : (Channel → ℕ → Bool) → Desk → Type 0
Succeeds tried d = IsFine d.row × Held tried d.slots

module _ (s : State) (I : Inv s) (a : List ℕ) (own : Own) (wrote : ℕ) (may : MayDo s a own wrote) (start : ℕ) (is : may.actor.program ≡ Sender start) (well : came_well own.came ≡ true)
    (ran : IsRunBy (Next None) may.actor.past) (hears : HearsSuccess (own ∷ may.actor.past)) (held : Succeeds (tried_at may.actor.past) (place_after None may.actor.past)) where
  abbrev past : List Own
  past = may.actor.past

  abbrev d : Desk
  d = place_after None past

  abbrev row : Row
  row = row_now d own.read own.ready

  due : due_at row d ≡ own.due
  due = subst (λ (p : Program). next_of p past own.read own.ready ≡ own.due) is may.due

  comes : MayCome own.due own.came
  comes = may_come s a own.due own.came wrote may.came

  run : IsRunBy (Next None) (own ∷ past)
  run = (ran, (due, comes))

  abbrev tried : Channel → ℕ → Bool
  tried = tried_at (own ∷ past)

  at_work : (c : Channel) (n : ℕ) → tried c n ≡ true → IsSome (job_of n (lane c d.slots).jobs)
  at_work c n t = by (job_of n (lane c d.slots).jobs) refl
    where
      by : (o : Option Job) → job_of n (lane c d.slots).jobs ≡ o → IsSome (job_of n (lane c d.slots).jobs)
      by (Some job) e = ap (λ (x : Option Job). is_some x) e
      by None e = (held.1 c).1.1 n (tried_stay None past own run c n e t)

  holds : Held tried d.slots
  holds c = ((held.1 c).0, ((held.1 c).1.0, at_work c))

  fit : FitAt (Was past) (work past) (account Local past) (account Remote past) row d
  fit = arrives (Was past) (work past) (account Local past) (account Remote past) (frees past) d.row d own.read own.ready (keeps None past ran).0

  due_is : (r : Row) → row ≡ r → own.due ≡ due_at r d
  due_is r e = sym due ∙ ap (λ (x : Row). due_at x d) e

  comes_so : (r : Row) → row ≡ r → MayCome (due_at r d) own.came
  comes_so r e = subst (λ (n : NeedData). MayCome n own.came) (due_is r e) comes

  takes : (c : Channel) → row ≡ at.TakeLink c → All IsSuccess (read_on (link c d).reader (said own.came).bytes).0 × ((ch : Channel) → HasRoom (lane ch d.slots))
  takes c e = (all c e (taken_so c own.came (comes_so (at.TakeLink c) e)), rooms)
    where
      fits : Both false false (account Local past) (account Remote past) d.slots d.local d.remote
      fits = let at_take : FitAt (Was past) (work past) (account Local past) (account Remote past) (at.TakeLink c) d = subst (λ (r : Row). FitAt (Was past) (work past) (account Local past) (account Remote past) r d) e fit in at_take.0

      rooms : (ch : Channel) → HasRoom (lane ch d.slots)
      rooms Local = record { limit = (account Local past).limit; owed = (account Local past).to_mark; fits = fits.0.4; holds = fits.0.5 }
      rooms Remote = record { limit = (account Remote past).limit; owed = (account Remote past).to_mark; fits = fits.1.4; holds = fits.1.5 }

      all : (k : Channel) → row ≡ at.TakeLink k → IsTakenSo own.came → All IsSuccess (read_on (link k d).reader (said own.came).bytes).0
      all Local same taken = takes_well d.local.reader (account Local past).heard fits.0.3 fits.2 own.came taken (λ before bytes heard got. hears.1 Local before bytes heard (due_is (at.TakeLink Local) same) got)
      all Remote same taken = takes_well d.remote.reader (account Remote past).heard fits.1.3 fits.3 own.came taken (λ before bytes heard got. hears.1 Remote before bytes heard (due_is (at.TakeLink Remote) same) got)

  opened : (m : Marked) → row ≡ at.Mark mark.Open m → is_fine (said own.came).way ≡ true
  opened m e = by_answer s a (λ g. came_well g ≡ true → is_fine (said g).way ≡ true) (call.Open (path (name_of (file_of m.channel m.n))) how.Write) wrote own.came
      (comes_at s I a own wrote may start is well (at.Mark mark.Open m) e)
      (λ told bytes fits well. opens_well s.disk (path (name_of (file_of m.channel m.n))) told bytes wrote found.0 fits found.1 well) well
    where
      st : StandsAt s.now (queue s I.role) a (at.Mark mark.Open m) d
      st = at_row s I a own wrote may start is well (at.Mark mark.Open m) e

      serves : Serves (about (queue s I.role) st.rests.0.first.attempt.n) m.channel
      serves = mark_has_job (queue s I.role) (at.Mark mark.Open m) m.channel d.slots (st.lanes m.channel) st.rests.0.first
          (subst (λ (first : First). Contains (waiting first (lane m.channel d.slots).marks) st.rests.0.first) (sym (open_is (is_same m.channel m.channel)))
          (first_in (lane m.channel d.slots).marks st.rests.0.first st.rests.0.there))

      found : (i : ℕ) × (s.disk.names (path (name_of (file_of m.channel m.n))) ≡ Some i)
      found = there s I a own wrote may start is well m.channel m.n (subst (λ (n : ℕ). Serves (about (queue s I.role) n) m.channel) st.rests.0.number serves)

  untried : (c : Channel) (n : ℕ) (p : Point) → row ≡ at.UnlinkFile c n p → is_fine (said own.came).way ≡ true → tried c n ≡ true → ⊥
  untried c n p e fine t = false≢true (sym gone ∙ (and_parts (is_some (tried_in c n (own ∷ past))) (has_in c n (own ∷ past)) t).1)
    where
      unlinking : unlinks c n (has_unlinked past) own.due ≡ true
      unlinking = ap (λ (x : NeedData). unlinks c n (has_unlinked past) x) (sym due) ∙ unlinks_row c n (has_unlinked past) row d (cleared_here None past own.read own.ready ran)
          ∙ ap (is_unlinking c n) e ∙ unlinking_itself c n

      gone : has_in c n (own ∷ past) ≡ false
      gone = has_none c n (has_unlinked past) (births past).command (there_in c n (own ∷ past)) (has_in c n past) own.due own.came unlinking comes fine

  asks_at : (r : Row) → row ≡ r → Asks tried r own.came d
  asks_at (at.Start it) e = (at_row s I a own wrote may start is well (at.Start it) e).rests.1.0
  asks_at (at.Turn p) e = held.0
  asks_at (at.TakeLink c) e = takes c e
  asks_at (at.Mark mark.Note m) e = tt
  asks_at (at.Mark mark.Noting m) e = tt
  asks_at (at.Mark mark.Open m) e = opened m e
  asks_at (at.Mark (mark.Write fd) m) e = writes_well (due_at (at.Mark (mark.Write fd) m) d) own.came tt (comes_so (at.Mark (mark.Write fd) m) e) well
  asks_at (at.Mark (mark.Close fd written) m) e = tt
  asks_at (at.UnlinkFile c n p) e = let fine = (served s I a own wrote may start is well).unlinked c n p e in (fine, untried c n p e fine)
  asks_at (at.ReadFile c n begun reading) e = (at_row s I a own wrote may start is well (at.ReadFile c n begun reading) e).rests.1.0
  asks_at (at.Request c) e = tt
  asks_at (at.FindTodo from) e = tt
  asks_at at.InTodo e = tt
  asks_at (at.Finish it n) e = tt
  asks_at (at.Sweep it) e = tt
  asks_at (at.Ended status) e = held.0

  event_succeeds : Succeeds tried (place_after None (own ∷ past))
  event_succeeds = row_fine tried row own.read own.came d (arrives_fine d own.read own.ready (λ c. (holds c).1.0) d.row held.0) (asks_at row refl) holds

-- Neither a reading nor a step of the start starts a child.

no_reading : (reading : Reading) (opening : Step) (read : ℕ) (asked : ChildData) → (due_by opening [] ≡ needs.Start asked → ⊥) → due_by (reading_step reading opening read) [] ≡ needs.Start asked → ⊥
no_reading Opening opening read asked none e = none e
no_reading (Going fd) opening read asked none e = absurd (cc)
no_reading (Closing fd) opening read asked none e = absurd (cc)
no_reading (Shutting fd) opening read asked none e = absurd (cc)

no_start : (it : StartRow) (d : Desk) (asked : ChildData) → due_at (at.Start it) d ≡ needs.Start asked → ⊥
no_start (start.Control file reading) d asked e = no_reading reading (step.OpenControl file) (length d.book.read) asked (λ x. absurd (cc)) e
no_start (start.ReadInfo split n reading) d asked e = no_reading reading (step.Open (name.Info n) how.Read) (length d.book.read) asked (λ x. absurd (cc)) e
no_start it d asked e = absurd (cc)

-- the start of a child
module _ (s : State) (a : List ℕ) (own : Own) (b : List ℕ) (program : Program) (may : MayBear s a own b program) (start : ℕ) (is : may.actor.program ≡ Sender start)
    (ran : IsRunBy (Next None) may.actor.past) (held : Succeeds (tried_at may.actor.past) (place_after None may.actor.past)) where
  abbrev desk : Desk
  desk = place_after None may.actor.past

  child_due : due_at (row_now desk own.read own.ready) desk ≡ own.due
  child_due = subst (λ (p : Program). next_of p may.actor.past own.read own.ready ≡ own.due) is may.due

  child_run : IsRunBy (Next None) (own ∷ may.actor.past)
  child_run = (ran, (child_due, born_comes s a own b program may))

  starts : (r : Row) → row_now desk own.read own.ready ≡ r → due_at r desk ≡ needs.Start may.asked
  starts r e = sym (ap (λ (x : Row). due_at x desk) e) ∙ child_due ∙ may.starts

  -- only a finish starts one
  child_asks : (r : Row) → row_now desk own.read own.ready ≡ r → Asks (tried_at (own ∷ may.actor.past)) r own.came desk
  child_asks (at.Start it) e = absurd (no_start it desk may.asked (starts (at.Start it) e))
  child_asks (at.Turn p) e = held.0
  child_asks (at.TakeLink c) e = let bad = starts (at.TakeLink c) e in absurd (cc)
  child_asks (at.Mark mark.Note m) e = tt
  child_asks (at.Mark mark.Noting m) e = tt
  child_asks (at.Mark mark.Open m) e = let bad = starts (at.Mark mark.Open m) e in absurd (cc)
  child_asks (at.Mark (mark.Write fd) m) e = let bad = starts (at.Mark (mark.Write fd) m) e in absurd (cc)
  child_asks (at.Mark (mark.Close fd written) m) e = tt
  child_asks (at.UnlinkFile c n p) e = let bad = starts (at.UnlinkFile c n p) e in absurd (cc)
  child_asks (at.ReadFile c n begun reading) e = absurd (no_reading reading (step.Open (file_of c n) how.Read) (length desk.book.read) may.asked (λ x. absurd (cc)) (starts (at.ReadFile c n begun reading) e))
  child_asks (at.Request c) e = tt
  child_asks (at.FindTodo from) e = tt
  child_asks at.InTodo e = tt
  child_asks (at.Finish it n) e = tt
  child_asks (at.Sweep it) e = tt
  child_asks (at.Ended status) e = held.0

  child_work : (c : Channel) (n : ℕ) → tried_at (own ∷ may.actor.past) c n ≡ true → IsSome (job_of n (lane c desk.slots).jobs)
  child_work c n t = by (job_of n (lane c desk.slots).jobs) refl
    where
      by : (o : Option Job) → job_of n (lane c desk.slots).jobs ≡ o → IsSome (job_of n (lane c desk.slots).jobs)
      by (Some job) e = ap (λ (x : Option Job). is_some x) e
      by None e = (held.1 c).1.1 n (tried_stay None may.actor.past own child_run c n e t)

  child_holds : Held (tried_at (own ∷ may.actor.past)) desk.slots
  child_holds c = ((held.1 c).0, ((held.1 c).1.0, child_work c))

  child_succeeds : Succeeds (tried_at (own ∷ may.actor.past)) (place_after None (own ∷ may.actor.past))
  child_succeeds = row_fine (tried_at (own ∷ may.actor.past)) (row_now desk own.read own.ready) own.read own.came desk
      (arrives_fine desk own.read own.ready (λ c. (child_holds c).1.0) desk.row held.0) (child_asks (row_now desk own.read own.ready) refl) child_holds

succeed_first : Succeeds (tried_at []) (place_after None [])
succeed_first = (tt, λ c. first c)
  where
    first : (c : Channel) → Keeps (tried_at [] c) (lane c (place_after None []).slots)
    first Local = (λ n job e. absurd (cc), (All-nil (λ (m : Mark). m.note ≡ None), λ n t. absurd (cc)))
    first Remote = (λ n job e. absurd (cc), (All-nil (λ (m : Mark). m.note ≡ None), λ n t. absurd (cc)))

pub tried_are_at_work : TriedAreAtWork
tried_are_at_work d h g a x start is program hears c n t = ((all hears).1 c).1.1 n t
  where
    all : HearsSuccess x.past → Succeeds (tried_at x.past) (place_after None x.past)
    all = sender_pasts goes_well (λ s. Unit {0}) (λ past. HearsSuccess past → Succeeds (tried_at past) (place_after None past)) (λ hears. succeed_first)
        (λ s I w b own wrote may began sends well ran held hears. event_succeeds s I b own wrote may began sends well ran hears (held hears.0))
        (λ s I w b own child program may began sends ran held hears. child_succeeds s b own child program may began sends ran (held hears.0))
        d (λ h legal well. tt) h g.legal g.well a x is start program
