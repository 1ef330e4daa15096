-- Where nothing fails the channel files of a sender serve it.
use Rattle.std.proofs.Common.{◌≡◌, ◌≤◌, ℕ, List, [], ◌∷◌, length, arith, eq-eqb, Bool, true, false, ◌&&◌, Option, Some, None, is_some, refl, sym, ap, ◌∙◌, subst, cond, count_by}
use Rattle.std.specs.Prelude.{IsSome, ◌==◌, ◌||◌}
use Rattle.std.specs.List.{list_any}
use Rattle.call_fs.specs.Apply.{Fits}
use Rattle.call_fs.specs.Disk.{Disk}
use Rattle.call_fs.specs.Past.{IsRunBy}
use Rattle.call_fs.specs.declared.calls.Answer.TheVariants as answer
use Rattle.call_fs.specs.declared.calls.Answer.{Answer}
use Rattle.call_fs.specs.declared.calls.CallData.TheVariants as call
use Rattle.call_fs.specs.declared.calls.CallData.{CallData}
use Rattle.call_fs.specs.declared.calls.Fd.{Fd}
use Rattle.call_fs.specs.declared.calls.FsError.TheVariants as why
use Rattle.call_fs.specs.declared.calls.How.TheVariants as how
use Rattle.call_fs.specs.declared.file_system.TheConstants.{PIECE}
use Rattle.call_fs.specs.declared.past.GotData.TheVariants as came
use Rattle.call_fs.specs.declared.past.GotData.{GotData}
use Rattle.call_fs.specs.declared.past.NeedData.TheVariants as needs
use Rattle.call_fs.specs.declared.past.Own.{Own}
use Rattle.queue_law.proofs.Looks.{found}
use Rattle.queue_law.proofs.Sends.{lane_there}
use Rattle.queue_law.specs.Numbers.{About, IsPreprocessed, Phase, Queue, about}
use Rattle.queue_law.specs.Numbers.Phase.{Finished, Free, Queued, Sorted}
use Rattle.queue_law.specs.Routes.{lane_part}
use Rattle.queue_paths.specs.Names.Name.{Of}
use Rattle.queue_paths.specs.Names.Part.{Info}
use Rattle.queue_paths.specs.Names.{name_of, path}
use Rattle.send_core.specs.declared.desk.Desk.{Desk}
use Rattle.send_parts.specs.declared.row.Point.{Point}
use Rattle.send_parts.specs.declared.row.Row.TheVariants as at
use Rattle.send_parts.specs.declared.row.Row.{Row}
use Rattle.send_core.specs.Table.{due_at, place_after, row_now}
use Rattle.send_parts.specs.Channels.{file_of}
use Rattle.send_jobs.specs.Jobs.{job_of}
use Rattle.send_jobs.specs.Lanes.{is_in_flight}
use Rattle.send_jobs.specs.Sending.{lane}
use Rattle.send_jobs.specs.Slots.{is_on}
use Rattle.send_jobs.specs.declared.attempts.Attempt.{Attempt}
use Rattle.send_known.specs.declared.channel.Channel.TheVariants.{Local, Remote}
use Rattle.send_known.specs.declared.channel.Channel.{Channel}
use Rattle.send_jobs.specs.declared.lane.Lane.{Lane}
use Rattle.send_links.specs.Records.{records_of}
use Rattle.send_parts.specs.Replies.{is_fine, said}
use Rattle.send_parts.specs.declared.reading.Reading.TheVariants.{Closing, Going, Opening}
use Rattle.retry_law.proofs.Served.{served_are_plain}
use Rattle.retry_law.specs.Served.{AreServed, IsServed}
use Rattle.send_runs.proofs.Fates.{over_some}
use Rattle.program_law.specs.Channel.Tied.{First, IsTied, is_slot_at}
use Rattle.program_law.specs.Sender.Knows.{IsSettledIn, Serves}
use Rattle.program_law.specs.Sender.Rows.{HasText}
use Rattle.program_law.specs.Sender.Stands.{StandsAt}
use Rattle.program_law.specs.Sender.Views.{files_of, first_at}
use Rattle.program_law.proofs.Channel.Counts.{counted_cons}
use Rattle.program_law.proofs.Sender.Others.{the_job}
use Rattle.world_events.specs.declared.event.Program.{Program}
use Rattle.world_events.specs.declared.event.Program.TheVariants.{Sender}
use Rattle.mail_world.specs.History.{Actor, ComesOf, Event, MayBear, MayDo, State, after, next_of}
use Rattle.mail_world.specs.Untouched.{queue}
use Rattle.world_law.proofs.Ran.{have_run}
use Rattle.world_law.specs.Inv.{Inv}
use Rattle.settle_law.specs.inside.Served.{PastsAreServed}
use Rattle.settle_law.specs.Well.{GoesWell, came_well, goes_well, is_well_answered}
use Rattle.settle_law.proofs.LaneRecords.{marked_records}
use Rattle.settle_law.proofs.Pasts.{sender_pasts}
use Rattle.settle_law.proofs.SenderRows.{comes, stands}

-- What an attempt in flight has

more : (p : Option Attempt → Bool) (s : Option Attempt) (slots : List (Option Attempt)) → 1 ≤ count_by p slots → 1 ≤ count_by p (s ∷ slots)
more p s slots h = let sum = counted_cons p s slots in omega (arith, sum, h)

here : (p : Option Attempt → Bool) (s : Option Attempt) (slots : List (Option Attempt)) → p s ≡ true → 1 ≤ count_by p (s ∷ slots)
here p s slots e =
    let one : ◌≡◌ {A = ℕ} (cond (p s) 1 0) 1 = ap (λ (b : Bool). cond b 1 0) e in
    let sum = counted_cons p s slots in
    omega (arith, one, sum)

-- the place of one of a message
flying_at : (n : ℕ) (slots : List (Option Attempt)) → list_any (is_on n) slots ≡ true → (place : ℕ) × (1 ≤ count_by (is_slot_at n place) slots)
flying_at n [] e = absurd (cc)
flying_at n (None ∷ slots) e = let w = flying_at n slots e in (w.0, more (is_slot_at n w.0) None slots w.1)
flying_at n (Some a ∷ slots) e = by (a.n == n) refl (flying_at n slots) where
  by : (b : Bool) → (a.n == n) ≡ b → (list_any (is_on n) slots ≡ true → (place : ℕ) × (1 ≤ count_by (is_slot_at n place) slots)) → (place : ℕ) × (1 ≤ count_by (is_slot_at n place) (Some a ∷ slots))
  by true same rest = (a.place, here (is_slot_at n a.place) (Some a) slots (ap (λ (b : Bool). b && (a.place == a.place)) same ∙ eq-eqb a.place a.place refl))
  by false other rest =
      let w = rest (sym (ap (λ (b : Bool). b || list_any (is_on n) slots) other) ∙ e) in
      (w.0, more (is_slot_at n w.0) (Some a) slots w.1)

-- so none is of a message without a job
pub none_flies : (q : Queue) (first : First) (ch : Channel) (n : ℕ) (l : Lane) → IsTied (files_of q ch) first l → job_of n l.jobs ≡ None → is_in_flight n l ≡ false
none_flies q first ch n l tied none = by (is_in_flight n l) refl where
  by : (b : Bool) → is_in_flight n l ≡ b → is_in_flight n l ≡ false
  by false e = e
  by true e =
      let w = flying_at n l.slots e in
      let some : IsSome (job_of n l.jobs) = tied.owned n w.0 (let h = w.1 in omega (arith, h)) in
      let job = the_job (job_of n l.jobs) some in
      absurd (cc (sym none ∙ job.1))

-- A channel file that is there

pub sorted : (w : About) → Phase w → IsSettledIn w → IsPreprocessed w
sorted w (Free h) s = let none = h.unsorted Info refl in let there = s.info_there in absurd (cc)
sorted w (Queued h) s = let none = s.no_todo in let there = h.todo_there in absurd (cc)
sorted w (Sorted h) s = h
sorted w (Finished h) s = let none = h.unsorted Info refl in let there = s.info_there in absurd (cc)

lane_named : (c : Channel) (n : ℕ) → name_of (file_of c n) ≡ Of (lane_part c) n
lane_named Local n = refl
lane_named Remote n = refl

-- what may come of a call at it, where nothing fails

pub opens_well : (d : Disk) (name : List ℕ) (told : Answer) (bytes : List ℕ) (wrote i : ℕ) → Fits d (call.Open name how.Read) told wrote → d.names name ≡ Some i → is_well_answered told ≡ true
    → is_fine (said (came.Answered (record { answer = told; bytes = bytes }))).way ≡ true
opens_well d name (answer.Opened fd) bytes wrote i fits there well = refl
opens_well d name (answer.Refused why.NotThere) bytes wrote i fits there well = absurd (cc (sym fits ∙ there))
opens_well d name (answer.Refused why.Fault) bytes wrote i fits there well = absurd (cc)
opens_well d name (answer.Refused why.Memory) bytes wrote i fits there well = absurd (cc)
opens_well d name told bytes wrote i fits there well = absurd fits

pub unlinks_well : (d : Disk) (name : List ℕ) (told : Answer) (bytes : List ℕ) (wrote i : ℕ) → Fits d (call.Unlink name) told wrote → d.names name ≡ Some i → is_well_answered told ≡ true
    → is_fine (said (came.Answered (record { answer = told; bytes = bytes }))).way ≡ true
unlinks_well d name answer.Done bytes wrote i fits there well = refl
unlinks_well d name (answer.Refused why.NotThere) bytes wrote i fits there well = absurd (cc (sym fits ∙ there))
unlinks_well d name (answer.Refused why.Fault) bytes wrote i fits there well = absurd (cc)
unlinks_well d name told bytes wrote i fits there well = absurd fits

reads_well : (d : Disk) (fd : Fd) (place len : ℕ) (told : Answer) (bytes : List ℕ) (wrote : ℕ) → Fits d (call.ReadAt fd place len) told wrote → is_well_answered told ≡ true
    → is_fine (said (came.Answered (record { answer = told; bytes = bytes }))).way ≡ true
reads_well d fd place len (answer.Count count) bytes wrote fits well = refl
reads_well d fd place len (answer.Refused why.Fault) bytes wrote fits well = absurd (cc)
reads_well d fd place len told bytes wrote fits well = absurd fits

-- of a file call only an answer comes
module _ (s : State) (a : List ℕ) (P : GotData → Type 0) (c : CallData) (wrote : ℕ) where
  pub by_answer : (got : GotData) → ComesOf s a (needs.File c) got wrote → ((answers : Answer) (bytes : List ℕ) → Fits s.disk c answers wrote → P (came.Answered (record { answer = answers; bytes = bytes }))) → P got
  by_answer (came.Answered told) comes f = f told.answer told.bytes comes.0
  by_answer (came.Took bytes) comes f = absurd comes
  by_answer came.End comes f = absurd comes
  by_answer (came.Ended status) comes f = absurd comes
  by_answer came.Crashed comes f = absurd comes
  by_answer came.Gave comes f = absurd comes
  by_answer (came.Started pid) comes f = absurd comes
  by_answer came.Failed comes f = absurd comes
  by_answer came.Memory comes f = absurd comes

-- An event of a sender

module _ (s : State) (I : Inv s) (a : List ℕ) (own : Own) (wrote : ℕ) (may : MayDo s a own wrote) (start : ℕ) (is : may.actor.program ≡ Sender start) (well : came_well own.came ≡ true) where
  abbrev q : Queue
  q = queue s I.role

  abbrev d : Desk
  d = place_after None may.actor.past

  abbrev row : Row
  row = row_now d own.read own.ready

  pub at_row : (r : Row) → row ≡ r → StandsAt s.now q a r d
  at_row r e = subst (λ (x : Row). StandsAt s.now q a x d) e (stands s I a own wrote may start is)

  pub comes_at : (r : Row) → row ≡ r → ComesOf s a (due_at r d) own.came wrote
  comes_at r e = subst (λ (x : Row). ComesOf s a (due_at x d) own.came wrote) e (comes s I a own wrote may start is)

  pub there : (c : Channel) (n : ℕ) → Serves (about q n) c → (i : ℕ) × (s.disk.names (path (name_of (file_of c n))) ≡ Some i)
  there c n h = (h.file.number, ap (λ x. s.disk.names (path x)) (lane_named c n) ∙ (found q.disk.names q.disk.files (Of (lane_part c) n) h.file h.there).0)

  opened : (c : Channel) (n begun : ℕ) → row ≡ at.ReadFile c n begun Opening → is_fine (said own.came).way ≡ true
  opened c n begun e = by_answer s a (λ g. came_well g ≡ true → is_fine (said g).way ≡ true) (call.Open (path (name_of (file_of c n))) how.Read) wrote own.came (comes_at (at.ReadFile c n begun Opening) e)
      (λ answers bytes fits well. let i = there c n (at_row (at.ReadFile c n begun Opening) e).rests.1.1.0 in opens_well s.disk (path (name_of (file_of c n))) answers bytes wrote i.0 fits i.1 well) well

  read : (c : Channel) (n begun : ℕ) (fd : Fd) → row ≡ at.ReadFile c n begun (Going fd) → is_fine (said own.came).way ≡ true
  read c n begun fd e = by_answer s a (λ g. came_well g ≡ true → is_fine (said g).way ≡ true) (call.ReadAt fd (length d.book.read) PIECE) wrote own.came (comes_at (at.ReadFile c n begun (Going fd)) e)
      (λ answers bytes fits well. reads_well s.disk fd (length d.book.read) PIECE answers bytes wrote fits well) well

  whole : (c : Channel) (n begun : ℕ) (fd : Fd) → row ≡ at.ReadFile c n begun (Closing fd) → is_some (records_of d.book.read) ≡ true
  whole c n begun fd e = subst (λ (bytes : List ℕ). is_some (records_of bytes) ≡ true) (sym text.text)
      (marked_records pre.taken.injection c pre.no_nul pre.taken.valid pre.taken.spots text.file.file.bytes
      (lane_there (about q n) pre.taken.injection c text.file text.there (pre.lanes c)).present)
    where
      st : StandsAt s.now q a (at.ReadFile c n begun (Closing fd)) d
      st = at_row (at.ReadFile c n begun (Closing fd)) e

      text : HasText q (lane_part c) n d.book.read
      text = st.rests.1.1.1.1

      pre : IsPreprocessed (about q n)
      pre = sorted (about q n) (I.sound.fine n) st.rests.1.1.0.sorted

  alone : (c : Channel) (n begun : ℕ) (fd : Fd) → row ≡ at.ReadFile c n begun (Closing fd) → is_in_flight n (lane c d.slots) ≡ false
  alone c n begun fd e =
      let st = at_row (at.ReadFile c n begun (Closing fd)) e in
      none_flies q (first_at (at.ReadFile c n begun (Closing fd)) c) c n (lane c d.slots) (st.lanes c).tied st.rests.1.0

  unlinked : (c : Channel) (n : ℕ) (p : Point) → row ≡ at.UnlinkFile c n p → is_fine (said own.came).way ≡ true
  unlinked c n p e = by_answer s a (λ g. came_well g ≡ true → is_fine (said g).way ≡ true) (call.Unlink (path (name_of (file_of c n)))) wrote own.came (comes_at (at.UnlinkFile c n p) e)
      (λ answers bytes fits well.
      let st = at_row (at.UnlinkFile c n p) e in
      let done = st.rests.0 in
      let i = there c n ((st.lanes c).jobs n done.job (over_some n (lane c d.slots) done.job done.over).1) in
      unlinks_well s.disk (path (name_of (file_of c n))) answers bytes wrote i.0 fits i.1 well) well

  pub served : IsServed None may.actor.past own
  served = record { opened = opened; read = read; whole = whole; alone = alone; unlinked = unlinked }

-- the start of a child is no reading
module _ (s : State) (a : List ℕ) (own : Own) (b : List ℕ) (program : Program) (may : MayBear s a own b program) (start : ℕ) (is : may.actor.program ≡ Sender start) where
  abbrev desk : Desk
  desk = place_after None may.actor.past

  starts : (r : Row) → row_now desk own.read own.ready ≡ r → due_at r desk ≡ needs.Start may.asked
  starts r e = sym (ap (λ (x : Row). due_at x desk) e) ∙ subst (λ (p : Program). next_of p may.actor.past own.read own.ready ≡ own.due) is may.due ∙ may.starts

  child_served : IsServed None may.actor.past own
  child_served = record {
    opened = λ c n begun e. let bad = starts (at.ReadFile c n begun Opening) e in absurd (cc);
    read = λ c n begun fd e. let bad = starts (at.ReadFile c n begun (Going fd)) e in absurd (cc);
    whole = λ c n begun fd e. let bad = starts (at.ReadFile c n begun (Closing fd)) e in absurd (cc);
    alone = λ c n begun fd e. let bad = starts (at.ReadFile c n begun (Closing fd)) e in absurd (cc);
    unlinked = λ c n p e. let bad = starts (at.UnlinkFile c n p) e in absurd (cc);
  }

pub pasts_are_served : PastsAreServed
pasts_are_served = record {
  served = all;
  plain = λ d h g a x start is program c n.
      served_are_plain None x.past (subst (λ (p : Program). IsRunBy (next_of p) x.past) program (have_run d h g.legal a x is)) (all d h g a x start is program) c n;
} where
  all : (d : Disk) (h : List Event) → GoesWell d h → (a : List ℕ) (x : Actor) (start : ℕ) → (after d h).actors a ≡ Some x → x.program ≡ Sender start → AreServed None x.past
  all d h g a x start is program = sender_pasts goes_well (λ s. Unit {0}) (λ past. AreServed None past) tt
      (λ s I w a own wrote may start is well ran held. (held, served s I a own wrote may start is well))
      (λ s I w a own b program may start is ran held. (held, child_served s a own b program may start is))
      d (λ h legal well. tt) h g.legal g.well a x is start program
