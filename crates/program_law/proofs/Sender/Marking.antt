-- The steps of a mark.
use Rattle.address_rules.specs.Nuls.{HaveNoNul}
use Rattle.std.proofs.Common.{◌≡◌, ◌≢◌, ◌⊎◌, inl, inr, ℕ, List, drop, Bool, true, false, Option, Some, None, refl, sym, ap, ◌∙◌, subst, ⊎_elim}
use Rattle.std.specs.Prelude.{◌==◌, if◌then◌else◌, All, slice_get}
use Rattle.std.proofs.lemmas.List.Elements.{All-drop, All-weaker}
use Rattle.call_fs.specs.declared.calls.Answer.{Answer}
use Rattle.call_fs.specs.declared.calls.Answer.TheVariants as answer
use Rattle.call_fs.specs.declared.calls.CallData.{CallData}
use Rattle.call_fs.specs.declared.calls.CallData.TheVariants as call
use Rattle.call_fs.specs.declared.calls.Fd.{Fd}
use Rattle.call_fs.specs.declared.calls.FsError.TheVariants as why
use Rattle.call_fs.specs.declared.calls.How.TheVariants as how
use Rattle.call_fs.specs.Apply.{Fits}
use Rattle.queue_paths.specs.Names.{Name, Part, path}
use Rattle.queue_paths.specs.Names.Name.{Of}
use Rattle.send_core.specs.declared.desk.Desk.{Desk}
use Rattle.send_parts.specs.declared.row.MarkRow.{MarkRow}
use Rattle.send_parts.specs.declared.row.MarkRow.TheVariants as mark
use Rattle.send_parts.specs.declared.row.Marked.{Marked}
use Rattle.send_parts.specs.declared.row.Point.{Point}
use Rattle.send_parts.specs.declared.row.Point.TheVariants as point
use Rattle.send_parts.specs.declared.row.Row.TheVariants as at
use Rattle.send_core.specs.Agrees.{is_same}
use Rattle.send_core.specs.Desk.{closed, closed_by, due_again, goes, retried, retry_of, stands_at}
use Rattle.send_core.specs.Turn.{act_mark, mark_over}
use Rattle.send_jobs.specs.declared.attempts.Mark.{Mark}
use Rattle.send_known.specs.declared.channel.Channel.{Channel}
use Rattle.send_known.specs.declared.channel.Channel.TheVariants.{Local, Remote}
use Rattle.send_jobs.specs.declared.jobs.Job.{Job}
use Rattle.send_jobs.specs.declared.lane.Lane.{Lane}
use Rattle.send_jobs.specs.declared.slots.Slots.{Slots}
use Rattle.send_jobs.specs.Jobs.{job_of, unmark}
use Rattle.send_jobs.specs.Lanes.{job_over, left_unmarked, mark_settled}
use Rattle.send_jobs.specs.Sending.{at_lane, lane}
use Rattle.send_known.specs.declared.known.Known.{Known}
use Rattle.call_fs.specs.declared.past.GotData.TheVariants.{Answered}
use Rattle.program_law.specs.Channel.Tied.{First, IsTied, waiting}
use Rattle.program_law.specs.Channel.Tied.First.{Unwritten, Unsure, Written}
use Rattle.program_law.proofs.Channel.Ties.{given_up_kept, made_kept, others_kept}
use Rattle.queue_law.specs.Numbers.{Queue, entry, look, About, about, Sound}
use Rattle.queue_law.specs.Routes.{lane_part}
use Rattle.queue_law.specs.Senders.{called_queue}
use Rattle.queue_law.proofs.Looks.{find_some}
use Rattle.queue_law.proofs.Opens.{opened_held}
use Rattle.queue_law.proofs.Sends.{reads_keep}
use Rattle.program_law.specs.Sender.Views.{by_mark, files_of, first_if, records_at}
use Rattle.program_law.specs.Sender.Knows.{IsDoneIn, IsEntered, IsKnown, Knows, Serves}
use Rattle.program_law.specs.Sender.Knows.Knows.{Stays, Leaves}
use Rattle.program_law.specs.Sender.Rows.{HasFile, IsFirstMark, MarkHolds, PointStands}
use Rattle.program_law.specs.Sender.Stands.{DueApart, LaneStands, SenderLeads, SenderStands, StandsAt}
use Rattle.program_law.proofs.Sender.Apart.{IsFewer, apart_lane, fewer_unmarked}
use Rattle.program_law.proofs.Sender.Closes.{none_closed}
use Rattle.program_law.proofs.Sender.Desks.{OnDesk, due_again_on, stand}
use Rattle.queue_law.proofs.Growth.{grown_same}
use Rattle.program_law.proofs.Sender.Entries.{Grows, due_all, known_all, lane_bare, lane_grown, serves_grown, entered_grown}
use Rattle.program_law.proofs.Sender.Gone.{point_ended}
use Rattle.program_law.proofs.Sender.Lanes.{AllServe, OnBoth, OnLane, ended_on, over_there, unmarked_was}
use Rattle.send_jobs.proofs.JobLemmas.{job_unmarked}

-- A job that may be over, and where the turn goes on

module _ (now : ℕ) (q : Queue) (a : List ℕ) where
  pub again : (c : Channel) (n due : ℕ) (p : Point) (d : Desk) → PointStands p d.slots → OnDesk q (due_again c n due d)
      → SenderStands now q a (due_again c n due (stands_at d p))
  again Local n due p d rests h = stand now q a (at.Turn p) (due_again Local n due d) (λ ch. refl) h (point_ended Local n p d.slots rests)
  again Remote n due p d rests h = stand now q a (at.Turn p) (due_again Remote n due d) (λ ch. refl) h (point_ended Remote n p d.slots rests)

  by_left : (c : Channel) (n : ℕ) (p : Point) (d : Desk) (job : Job) (b : Bool) → OnDesk q d → PointStands p d.slots → job_over n (lane c d.slots) ≡ Some job → job.unmarked ≡ b
      → SenderStands now q a (if b then retried c n job.begun (stands_at d p) else goes d (at.UnlinkFile c n p))
  by_left c n p d job true h rests over e =
      let l = h.lanes c in
      again c n (retry_of c n job.begun d) p d rests
      (due_again_on q c n (retry_of c n job.begun d) d h (l.jobs n job (over_there n (lane c d.slots) job over)) (ended_on q c (lane c d.slots) l n job over))
  by_left c n p d job false h rests over e =
      stand now q a (at.UnlinkFile c n p) d (λ ch. refl) h (record { job = job; over = over; none_left = e }, rests)

  by_job : (c : Channel) (n : ℕ) (p : Point) (d : Desk) (o : Option Job) → OnDesk q d → PointStands p d.slots → job_over n (lane c d.slots) ≡ o
      → SenderStands now q a (closed_by o c n p d)
  by_job c n p d None h rests e = stand now q a (at.Turn p) d (λ ch. refl) h rests
  by_job c n p d (Some job) h rests e = by_left c n p d job job.unmarked h rests e refl

  pub closed_on : (c : Channel) (n : ℕ) (p : Point) (d : Desk) → OnDesk q d → PointStands p d.slots → SenderStands now q a (closed c n p d)
  closed_on c n p d h rests = by_job c n p d (job_over n (lane c d.slots)) h rests refl

-- What holds while a mark is at work

pub record AtMark (q : Queue) (row : MarkRow) (c : Channel) (d : Desk) : Type 0 where
  pub known : All (λ (k : Known). IsKnown (about q k.n) k) d.book.messages.known
  pub due : AllServe q d.book.messages
  pub apart : DueApart d.book.messages d.slots
  pub no_nul : HaveNoNul d.book.controls
  pub others : (ch : Channel) → ch ≢ c → OnLane q ch (lane ch d.slots)
  pub tied : IsTied (files_of q c) (by_mark row) (lane c d.slots)
  pub jobs : (n : ℕ) (job : Job) → job_of n (lane c d.slots).jobs ≡ Some job → Serves (about q n) c
  pub marks : All (λ (m : Mark). IsEntered (about q m.attempt.n) c m) (waiting (by_mark row) (lane c d.slots).marks)

same_same : (c : Channel) → is_same c c ≡ true
same_same Local = refl
same_same Remote = refl

not_same : (c ch : Channel) → ch ≢ c → is_same c ch ≡ false
not_same Local Local far = absurd (far refl)
not_same Local Remote far = refl
not_same Remote Local far = refl
not_same Remote Remote far = absurd (far refl)

stays : (row : MarkRow) (m : Marked) (w : About) (k : Known) → Knows (at.Mark row m) w k → IsKnown w k
stays row m w k (Stays h) = h
stays row m w k (Leaves h) = absurd h

abbrev Entered : Queue → Channel → Mark → Type 0
Entered q ch m = IsEntered (about q m.attempt.n) ch m

pub at_mark : (now : ℕ) (q : Queue) (a : List ℕ) (row : MarkRow) (m : Marked) (d : Desk) → StandsAt now q a (at.Mark row m) d
    → AtMark q row m.channel d
at_mark now q a row m d h =
    let c : Channel = m.channel in
    let own = h.lanes c in
    record {
      known = All-weaker (λ (k : Known). Knows (at.Mark row m) (about q k.n) k) (λ (k : Known). IsKnown (about q k.n) k) (λ k. stays row m (about q k.n) k)
          d.book.messages.known h.knows.known;
      due = h.knows.due;
      apart = h.apart;
      no_nul = h.no_nul tt;
      others = λ ch far. let l = h.lanes ch in record {
        tied = subst (λ b. IsTied (files_of q ch) (first_if b row) (lane ch d.slots)) (not_same c ch far) l.tied;
        jobs = l.jobs;
        marks = subst (λ b. All (Entered q ch) (waiting (first_if b row) (lane ch d.slots).marks)) (not_same c ch far) l.marks;
      };
      tied = subst (λ b. IsTied (files_of q c) (first_if b row) (lane c d.slots)) (same_same c) own.tied;
      jobs = own.jobs;
      marks = subst (λ b. All (Entered q c) (waiting (first_if b row) (lane c d.slots).marks)) (same_same c) own.marks;
    }

pub which : (c ch : Channel) → (ch ≡ c) ⊎ (ch ≢ c)
which Local Local = inl refl
which Local Remote = inr (λ e. absurd (cc))
which Remote Local = inr (λ e. absurd (cc))
which Remote Remote = inl refl

lanes_at : (q : Queue) (row : MarkRow) (m : Marked) (d : Desk) → AtMark q row m.channel d → (ch : Channel) → LaneStands q (at.Mark row m) ch d.slots
lanes_at q row m d h ch = ⊎_elim
    (λ same.
    let own : LaneStands q (at.Mark row m) m.channel d.slots = record {
      tied = subst (λ b. IsTied (files_of q m.channel) (first_if b row) (lane m.channel d.slots)) (sym (same_same m.channel)) h.tied;
      jobs = h.jobs;
      marks = subst (λ b. All (Entered q m.channel) (waiting (first_if b row) (lane m.channel d.slots).marks)) (sym (same_same m.channel)) h.marks;
    } in
    subst (λ x. LaneStands q (at.Mark row m) x d.slots) (sym same) own)
    (λ far.
    let l = h.others ch far in
    let e = sym (not_same m.channel ch far) in
    record {
      tied = subst (λ b. IsTied (files_of q ch) (first_if b row) (lane ch d.slots)) e l.tied;
      jobs = l.jobs;
      marks = subst (λ b. All (Entered q ch) (waiting (first_if b row) (lane ch d.slots).marks)) e l.marks;
    })
    (which m.channel ch)

pub at_stands : (now : ℕ) (q : Queue) (a : List ℕ) (row : MarkRow) (m : Marked) (d : Desk) → AtMark q row m.channel d → IsFirstMark m d.slots → MarkHolds d.book.controls q a row m d.slots d.note
    → StandsAt now q a (at.Mark row m) d
at_stands now q a row m d h first holds = record {
  knows = record {
    known = All-weaker (λ (k : Known). IsKnown (about q k.n) k) (λ (k : Known). Knows (at.Mark row m) (about q k.n) k) (λ k w. Stays w) d.book.messages.known h.known;
    due = h.due;
  };
  lanes = lanes_at q row m d h;
  apart = h.apart;
  no_nul = λ _. h.no_nul;
  rests = (first, holds);
}

-- nothing of the queue's names and files changed
pub at_grown : (q r : Queue) (row : MarkRow) (c : Channel) (d : Desk) → Grows q r → AtMark q row c d → AtMark r row c d
at_grown q r row c d g h = record {
  known = known_all q r g d.book.messages h.known;
  due = due_all q r g d.book.messages h.due;
  apart = h.apart;
  no_nul = h.no_nul;
  others = λ ch far. lane_grown q r g ch (lane ch d.slots) (h.others ch far);
  tied = others_kept (files_of q c) (files_of r c) (by_mark row) (lane c d.slots) h.tied (λ n _. ap records_at (g.looks (lane_part c) n (lane_bare c)));
  jobs = λ n job e. serves_grown q r g n c (h.jobs n job e);
  marks = All-weaker (Entered q c) (Entered r c) (λ m. entered_grown q r g m.attempt.n c m) (waiting (by_mark row) (lane c d.slots).marks) h.marks;
}

-- A mark that is over

both_by : (q : Queue) (c : Channel) (f : Lane → Lane) (s : Slots) → ((ch : Channel) → ch ≢ c → OnLane q ch (lane ch s)) → OnLane q c (f (lane c s)) → OnBoth q (at_lane c f s)
both_by q Local f s h one Local = one
both_by q Local f s h one Remote = h Remote (λ e. absurd (cc))
both_by q Remote f s h one Local = h Local (λ e. absurd (cc))
both_by q Remote f s h one Remote = one

later_marks : (P : Mark → Type 0) (first : First) (ms : List Mark) → All P (waiting first ms) → All P (drop 1 ms)
later_marks P Unwritten ms h = All-drop P 1 ms h
later_marks P Unsure ms h = All-drop P 1 ms h
later_marks P Written ms h = h

unmarked_serves : (q : Queue) (c : Channel) (l : Lane) → ((n : ℕ) (job : Job) → job_of n l.jobs ≡ Some job → Serves (about q n) c) → (n k : ℕ) (job : Job)
    → job_of k (unmark n l.jobs) ≡ Some job → Serves (about q k) c
unmarked_serves q c l h n k job e = let w = unmarked_was (n == k) n (job_of k l.jobs) job (sym (job_unmarked n k l.jobs) ∙ e) in h k w.0 w.1

module _ (q : Queue) (row : MarkRow) (c : Channel) (d : Desk) (h : AtMark q row c d) where
  settled_lane : IsTied (files_of q c) Unwritten (mark_settled (lane c d.slots)) → OnLane q c (mark_settled (lane c d.slots))
  settled_lane tied = record { tied = tied; jobs = h.jobs; marks = later_marks (Entered q c) (by_mark row) (lane c d.slots).marks h.marks }

  given_lane : (m : Mark) → slice_get (lane c d.slots).marks 0 ≡ Some m → OnLane q c (left_unmarked m.attempt.n (mark_settled (lane c d.slots)))
  given_lane m there =
      let l : Lane = lane c d.slots in
      record {
        tied = given_up_kept (files_of q c) (by_mark row) l m h.tied there;
        jobs = λ k job e. unmarked_serves q c l h.jobs m.attempt.n k job e;
        marks = later_marks (Entered q c) (by_mark row) l.marks h.marks;
      }

  on_with : (f : Lane → Lane) → IsFewer (f (lane c d.slots)).jobs (lane c d.slots).jobs → OnLane q c (f (lane c d.slots)) → OnDesk q (record d { slots = at_lane c f d.slots })
  on_with f fewer one = record {
    known = h.known;
    due = h.due;
    lanes = both_by q c f d.slots h.others one;
    apart = apart_lane c f d.book.messages d.slots fewer h.apart;
    no_nul = h.no_nul;
  }

abbrev given_up : ℕ → Lane → Lane
given_up n l = left_unmarked n (mark_settled l)

module _ (now : ℕ) (q : Queue) (a : List ℕ) (row : MarkRow) (m : Marked) (d : Desk) (first : IsFirstMark m d.slots) (h : AtMark q row m.channel d) where
  -- it wasn't made, and stays `T`
  pub over_failed : SenderStands now q a (mark_over false m d)
  over_failed =
      let one : OnLane q m.channel (given_up m.n (lane m.channel d.slots)) =
      subst (λ (n : ℕ). OnLane q m.channel (given_up n (lane m.channel d.slots))) first.number (given_lane q row m.channel d h first.first first.there) in
      by_channel m.channel refl one
    where
      by_channel : (c : Channel) → m.channel ≡ c → OnLane q m.channel (given_up m.n (lane m.channel d.slots)) → SenderStands now q a (mark_over false m d)
      by_channel c e one = subst (λ (x : Channel). (AtMark q row x d → OnLane q x (given_up m.n (lane x d.slots))
          → SenderStands now q a (closed x m.n point.Reports (record d { slots = at_lane x (left_unmarked m.n) (at_lane x mark_settled d.slots) })))) (sym e) (made c) h one
        where
          made : (x : Channel) → AtMark q row x d → OnLane q x (given_up m.n (lane x d.slots))
              → SenderStands now q a (closed x m.n point.Reports (record d { slots = at_lane x (left_unmarked m.n) (at_lane x mark_settled d.slots) }))
          made Local h one = closed_on now q a Local m.n point.Reports (record d { slots = at_lane Local (given_up m.n) d.slots }) (on_with q row Local d h (given_up m.n) (fewer_unmarked m.n d.slots.local.jobs) one) tt
          made Remote h one = closed_on now q a Remote m.n point.Reports (record d { slots = at_lane Remote (given_up m.n) d.slots }) (on_with q row Remote d h (given_up m.n) (fewer_unmarked m.n d.slots.remote.jobs) one) tt

  -- it was made
  over_made : by_mark row ≡ Written → SenderStands now q a (mark_over true m d)
  over_made e =
      let l : Lane = lane m.channel d.slots in
      let tied : IsTied (files_of q m.channel) Written l = subst (λ (f : First). IsTied (files_of q m.channel) f l) e h.tied in
      let one = settled_lane q row m.channel d h (made_kept (files_of q m.channel) l tied) in
      closed_on now q a m.channel m.n point.Reports (record d { slots = at_lane m.channel mark_settled d.slots }) (on_with q row m.channel d h mark_settled (λ n some. some) one) tt

-- The calls

module _ (now : ℕ) (q : Queue) (a : List ℕ) (G : Sound q) (m : Marked) (d : Desk) (first : IsFirstMark m d.slots) (read wrote : ℕ) where
  abbrev after : CallData → Answer → Queue
  after c told = called_queue q a read c told wrote q.role

  abbrev opening : CallData
  opening = call.Open (path (Of (lane_part m.channel) m.n)) how.Write

  same_books : (c : CallData) (told : Answer) → ((part : Part) (n : ℕ) → look (after c told) (Of part n) ≡ look q (Of part n)) → Grows q (after c told)
  same_books c told e = record { looks = λ part n far. e part n; lives = λ k i there. (i, there, refl, grown_same i.ledger) }

  opened_leads : (fd : Fd) → AtMark q mark.Open m.channel d → IsDoneIn d.book.controls (about q m.n) m.channel m.place → Fits q.disk opening (answer.Opened fd) wrote
      → SenderLeads now a q (after opening (answer.Opened fd)) (goes d (at.Mark (mark.Write fd) m))
  opened_leads fd h sure fits =
      let x : Name = Of (lane_part m.channel) m.n in
      let r : Queue = after opening (answer.Opened fd) in
      let g = same_books opening (answer.Opened fd) (λ part n. refl) in
      let w = opened_held q a read (path x) how.Write fd wrote fits in
      let file : HasFile r a (lane_part m.channel) m.n how.Write fd.0 =
      record { file = entry q.disk.files w.0; there = find_some q.disk.names q.disk.files x w.0 w.1; opened = w.2 } in
      let then_at = at_grown q r mark.Open m.channel d g h in
      record {
        number = None;
        closed = none_closed now q;
        leads = reads_keep now q a G read opening (answer.Opened fd) wrote tt fits;
        stands = at_stands now r a (mark.Write fd) m d (record {
          known = then_at.known;
          due = then_at.due;
          apart = then_at.apart;
          no_nul = then_at.no_nul;
          others = then_at.others;
          tied = then_at.tied;
          jobs = then_at.jobs;
          marks = then_at.marks;
        }) first (file, sure);
      }

  not_opened : (told : Answer) → AtMark q mark.Open m.channel d → Fits q.disk opening told wrote → Grows q (after opening told)
      → SenderLeads now a q (after opening told) (mark_over false m d)
  not_opened told h fits g = record {
    number = None;
    closed = none_closed now q;
    leads = reads_keep now q a G read opening told wrote tt fits;
    stands = over_failed now (after opening told) a mark.Open m d first (at_grown q (after opening told) mark.Open m.channel d g h);
  }

  pub open_answer : (told : Answer) (bytes : List ℕ) → AtMark q mark.Open m.channel d → IsDoneIn d.book.controls (about q m.n) m.channel m.place → Fits q.disk opening told wrote
      → SenderLeads now a q (after opening told) (act_mark mark.Open m (Answered (record { answer = told; bytes = bytes })) d)
  open_answer (answer.Opened fd) bytes h sure fits = opened_leads fd h sure fits
  open_answer (answer.Refused why.NotThere) bytes h sure fits = not_opened (answer.Refused why.NotThere) h fits (same_books opening (answer.Refused why.NotThere) (λ part n. refl))
  open_answer (answer.Refused why.Fault) bytes h sure fits = not_opened (answer.Refused why.Fault) h fits (same_books opening (answer.Refused why.Fault) (λ part n. refl))
  open_answer (answer.Refused why.Memory) bytes h sure fits = not_opened (answer.Refused why.Memory) h fits (same_books opening (answer.Refused why.Memory) (λ part n. refl))
  open_answer (answer.Refused why.Exists) bytes h sure fits = absurd fits
  open_answer (answer.Created fd k) bytes h sure fits = absurd fits
  open_answer (answer.Count k) bytes h sure fits = absurd fits
  open_answer answer.Done bytes h sure fits = absurd fits
  open_answer (answer.Stat s) bytes h sure fits = absurd fits
  open_answer (answer.Name k) bytes h sure fits = absurd fits
  open_answer answer.NoName bytes h sure fits = absurd fits

  close_leads : (fd : Fd) (written : Bool) → AtMark q (mark.Close fd written) m.channel d → q.holder fd.0 ≡ Some a → Fits q.disk (call.Close fd) answer.Done wrote
      → SenderLeads now a q (after (call.Close fd) answer.Done) (mark_over written m d)
  close_leads fd written h holds fits =
      let r : Queue = after (call.Close fd) answer.Done in
      let g = same_books (call.Close fd) answer.Done (λ part n. refl) in
      let there = at_grown q r (mark.Close fd written) m.channel d g h in
      record {
        number = None;
        closed = none_closed now q;
        leads = reads_keep now q a G read (call.Close fd) answer.Done wrote holds fits;
        stands = by_written written r there;
      }
    where
      by_written : (written : Bool) (r : Queue) → AtMark r (mark.Close fd written) m.channel d → SenderStands now r a (mark_over written m d)
      by_written true r there = over_made now r a (mark.Close fd true) m d first there refl
      by_written false r there = over_failed now r a (mark.Close fd false) m d first there

  pub close_answer : (fd : Fd) (written : Bool) (told : Answer) (bytes : List ℕ) → AtMark q (mark.Close fd written) m.channel d → q.holder fd.0 ≡ Some a
      → Fits q.disk (call.Close fd) told wrote → SenderLeads now a q (after (call.Close fd) told) (mark_over written m d)
  close_answer fd written answer.Done bytes h holds fits = close_leads fd written h holds fits
  close_answer fd written told bytes h holds fits = absurd fits
