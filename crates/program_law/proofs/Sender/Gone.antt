-- The unlink of a channel file: all its recipients were reported delivered, and what is relied on stays.
use Rattle.std.proofs.Common.{◌≡◌, ◌≢◌, inr, ℕ, List, [], ◌∷◌, get_or, true, false, Option, Some, None, refl, sym, ap, ◌∙◌, subst, ⊎_elim}
use Rattle.std.specs.Prelude.{◌==◌, if◌then◌else◌, All, Contains, position}
use Rattle.std.proofs.lemmas.Bool.{eq-eqb, eqb-true}
use Rattle.std.proofs.lemmas.Bool.Decides.{eqb_tells}
use Rattle.std.proofs.lemmas.List.Elements.{All-head, All-tail, All-set, All-weaker}
use Rattle.std.proofs.lemmas.List.Quantifiers.{position-Some}
use Rattle.call_fs.specs.declared.calls.Answer.{Answer}
use Rattle.call_fs.specs.declared.calls.Answer.TheVariants as answer
use Rattle.call_fs.specs.declared.calls.CallData.{CallData}
use Rattle.call_fs.specs.declared.calls.CallData.TheVariants.{Unlink}
use Rattle.call_fs.specs.declared.calls.FsError.TheVariants as why
use Rattle.call_fs.specs.declared.calls.Told.{Told}
use Rattle.call_fs.specs.declared.past.GotData.TheVariants.{Answered}
use Rattle.call_fs.specs.declared.past.NeedData.TheVariants as needs
use Rattle.call_fs.specs.Apply.{Fits, effect}
use Rattle.call_fs.specs.Disk.{Among, Disk}
use Rattle.envelope_records.specs.declared.channel.Record.{Record}
use Rattle.queue_paths.specs.Names.{Name, Part, name_of, path}
use Rattle.queue_paths.specs.Names.Name.{Of}
use Rattle.queue_paths.specs.Names.Part.{Info, Local as LocalFile, Remote as RemoteFile}
use Rattle.queue_paths.specs.Parts.{is_todo}
use Rattle.queue_paths.proofs.Parts.{todo_apart, todo_same}
use Rattle.retry_schedule.specs.Due.{removed}
use Rattle.retry_schedule.proofs.Entries.{in_removed}
use Rattle.send_core.specs.declared.desk.Desk.{Desk}
use Rattle.send_parts.specs.declared.row.Point.{Point}
use Rattle.send_parts.specs.declared.row.Point.TheVariants as point
use Rattle.send_parts.specs.declared.row.Row.TheVariants as at
use Rattle.send_core.specs.Desk.{done_with, due_again, file_gone, later, stands_at}
use Rattle.send_core.specs.Table.{act, due_at, file_of}
use Rattle.send_core.specs.Turn.{unlinked}
use Rattle.send_jobs.specs.declared.attempts.Mark.{Mark}
use Rattle.send_known.specs.declared.channel.Channel.{Channel}
use Rattle.send_known.specs.declared.channel.Channel.TheVariants.{Local, Remote}
use Rattle.send_jobs.specs.declared.jobs.Job.{Job}
use Rattle.send_jobs.specs.declared.lane.Lane.{Lane}
use Rattle.send_jobs.specs.declared.slots.Slots.{Slots}
use Rattle.send_jobs.specs.Jobs.{job_of}
use Rattle.send_jobs.specs.Lanes.{ended, job_over}
use Rattle.send_jobs.specs.Sending.{at_lane, lane}
use Rattle.send_jobs.proofs.JobLemmas.{job_without}
use Rattle.send_known.specs.declared.known.Known.{Known}
use Rattle.send_known.specs.declared.messages.Messages.{Messages}
use Rattle.send_known.specs.Known.{is_of, local_gone_at, nobody, remote_gone_at}
use Rattle.send_parts.specs.Replies.{answered}
use Rattle.program_law.specs.Channel.Tied.First.{Unwritten}
use Rattle.program_law.proofs.Channel.Passes.{done_all}
use Rattle.program_law.proofs.Channel.Counts.{all_where}
use Rattle.program_law.proofs.Channel.Ties.{others_kept}
use Rattle.program_law.proofs.Sender.Closes.{lane_closed, one_closed}
use Rattle.program_law.proofs.Sender.Others.{the_job}
use Rattle.queue_law.specs.Books.{Injection, Books}
use Rattle.queue_law.specs.Marks.{IsDone}
use Rattle.queue_law.specs.Numbers.{Queue, find, look, About, about, IsPreprocessed, Sound}
use Rattle.queue_law.specs.Routes.{lane_part, sender_of}
use Rattle.queue_law.specs.Senders.{HasLane, MayDrop, called_queue}
use Rattle.queue_law.proofs.Growth.{grown_same}
use Rattle.queue_law.proofs.Changes.{unlinks_one}
use Rattle.queue_law.proofs.Readings.{records_are}
use Rattle.queue_law.proofs.Sends.{drops_keep, lane_there, sorted_of_lane}
use Rattle.program_law.specs.Sender.Views.{files_of, records_at}
use Rattle.program_law.specs.Sender.Knows.{IsEntered, IsKnown, IsSettledIn, Serves, has_file}
use Rattle.program_law.specs.Sender.Rows.{HasNoMarks, IsAllDone, PointStands}
use Rattle.program_law.specs.Sender.Stands.{SenderLeads, SenderStands, StandsAt}
use Rattle.program_law.proofs.Sender.Desks.{OnDesk, due_again_on, on_of, stand}
use Rattle.program_law.proofs.Sender.Entries.{Grows, due_all, known_all, lane_grown}
use Rattle.program_law.proofs.Sender.Apart.{apart_gone}
use Rattle.program_law.proofs.Sender.Lanes.{AllServe, OnBoth, OnLane, ended_on, over_there, removed_each}
use Rattle.program_law.proofs.Sender.Texts.{they_are}

-- All of a finished file is delivered

may_drop : (q : Queue) (c : Channel) (n : ℕ) (l : Lane) (job : Job) → Sound q → OnLane q c l
    → job_over n l ≡ Some job → job.unmarked ≡ false → MayDrop (about q n) c
may_drop q c n l job G h over clean =
    let serves = h.jobs n job (over_there n l job over) in
    let lane : HasLane (about q n) c = record {
      no_todo = serves.sorted.no_todo;
      file = serves.file;
      there = serves.there;
      injection = serves.sorted.injection;
      lives = serves.sorted.lives;
    } in
    let pre : IsPreprocessed (about q n) = sorted_of_lane (about q n) c (G.fine n) lane in
    let i : Injection = pre.taken.injection in
    let marked = lane_there (about q n) i c serves.file serves.there (pre.lanes c) in
    let it = h.tied.accounted n job (over_there n l job over) in
    let all = done_all (files_of q c) l n job h.tied over clean it.records it.there in
    let read = sym (ap records_at serves.there) ∙ it.there in
    let are = they_are serves.file.file.bytes it.records read in
    let of = records_are i c serves.file.file.bytes it.records pre.no_nul pre.taken.valid pre.taken.spots marked.present are in
    record {
      lane = record { no_todo = serves.sorted.no_todo; file = serves.file; there = serves.there; injection = i; lives = pre.taken.lives };
      each = λ r on.
          let one = of.all r on in
          let done = among_all it.records one.0 all one.1 in
          inr (subst (IsDone i.ledger c) {x = one.0.place} one.2.place_is (one.2.done done));
    }
  where
    among_all : (xs : List Record) (x : Record) → All (λ (r : Record). r.done ≡ true) xs → Among x xs → x.done ≡ true
    among_all [] x h w = absurd w
    among_all (y ∷ xs) x h w = ⊎_elim
        (λ e. ap (λ (r : Record). r.done) e ∙ All-head (λ (r : Record). r.done ≡ true) y xs h)
        (λ more. among_all xs x (All-tail (λ (r : Record). r.done ≡ true) y xs h) more)
        w

-- One name went

pub lane_name : (c : Channel) (n : ℕ) → path (name_of (file_of c n)) ≡ path (Of (lane_part c) n)
lane_name Local n = refl
lane_name Remote n = refl

pub other_number : (c : Channel) (n k : ℕ) (part : Part) → k ≢ n → Of part k ≢ Of (lane_part c) n
other_number c n k part far e = far (cc)

-- a name in todo is no channel's file
pub not_lane : (c : Channel) (part : Part) (n k : ℕ) → is_todo part ≡ true → Of part k ≢ Of (lane_part c) n
not_lane Local part n k is = todo_apart part k (Of (lane_part Local) n) is refl
not_lane Remote part n k is = todo_apart part k (Of (lane_part Remote) n) is refl

pub info_apart : (c : Channel) (n k : ℕ) → Of Info k ≢ Of (lane_part c) n
info_apart Local n k e = absurd (cc)
info_apart Remote n k e = absurd (cc)

number_of_part : (x y : Part) (k n : ℕ) → Of x k ≡ Of y n → n ≡ k
number_of_part x y k n e = cc

none_ended : (n k : ℕ) (o : Option Job) (job : Job) → n ≡ k → ◌≡◌ {A = Option Job} (if n == k then None else o) (Some job) → ⊥
none_ended n k o job eq e =
    let t : (n == k) ≡ true = eq-eqb n k eq in
    let no : ◌≡◌ {A = Option Job} None (Some job) = sym (ap (λ b. if b then None else o) t) ∙ e in
    absurd (cc)

ended_far : (n : ℕ) (ch c : Channel) (l : Lane) (k : ℕ) (job : Job) → job_of k (ended n l).jobs ≡ Some job → Of (lane_part ch) k ≢ Of (lane_part c) n
ended_far n ch c l k job e same =
    none_ended n k (job_of k l.jobs) job (number_of_part (lane_part ch) (lane_part c) k n same) (sym (job_without n k l.jobs) ∙ e)

module _ (q r : Queue) (c : Channel) (n : ℕ) (books : r.books ≡ q.books) (gone : look r (Of (lane_part c) n) ≡ None)
    (others : (y : Name) → y ≢ Of (lane_part c) n → look r y ≡ look q y) where
  settled_still : (k : ℕ) (h : IsSettledIn (about q k)) → (s : IsSettledIn (about r k)) × (s.injection.args ≡ h.injection.args)
  settled_still k h = (
    record {
      no_todo = todo_same (about q k).parts (about r k).parts (λ part is. others (Of part k) (not_lane c part n k is)) ∙ h.no_todo;
      info = h.info;
      info_there = others (Of Info k) (info_apart c n k) ∙ h.info_there;
      injection = h.injection;
      lives = ap (λ (b : Books). b.living k) books ∙ h.lives;
    },
    refl,
  )

  -- what isn't there isn't there then
  lane_still : (ch : Channel) (k : ℕ) → look q (Of (lane_part ch) k) ≡ None → look r (Of (lane_part ch) k) ≡ None
  lane_still ch k e = ⊎_elim
      (λ t. ap (λ (m : ℕ). look r (Of (lane_part ch) m)) t.1 ∙ same_number ch c e t.1 gone others)
      (λ f. others (Of (lane_part ch) k) (other_number c n k (lane_part ch) f.1) ∙ e)
      (eqb_tells k n)
    where
      same_number : (ch c : Channel) → look q (Of (lane_part ch) k) ≡ None → k ≡ n → look r (Of (lane_part c) n) ≡ None
          → ((y : Name) → y ≢ Of (lane_part c) n → look r y ≡ look q y) → look r (Of (lane_part ch) n) ≡ None
      same_number Local Local e same g f = g
      same_number Remote Remote e same g f = g
      same_number Local Remote e same g f = f (Of LocalFile n) (λ x. absurd (cc)) ∙ ap (λ (m : ℕ). look q (Of LocalFile m)) (sym same) ∙ e
      same_number Remote Local e same g f = f (Of RemoteFile n) (λ x. absurd (cc)) ∙ ap (λ (m : ℕ). look q (Of RemoteFile m)) (sym same) ∙ e

  known_still : (k : Known) → IsKnown (about q k.n) k → IsKnown (about r k.n) k
  known_still k h =
      let s = settled_still k.n h.sorted in
      record { sorted = s.0; sender_is = h.sender_is ∙ ap sender_of (sym s.1); gone = λ ch e. lane_still ch k.n (h.gone ch e) }

  serves_still : (k : ℕ) (ch : Channel) → Of (lane_part ch) k ≢ Of (lane_part c) n → Serves (about q k) ch → Serves (about r k) ch
  serves_still k ch far h = record { sorted = (settled_still k h.sorted).0; file = h.file; there = others (Of (lane_part ch) k) far ∙ h.there }

  entered_still : (k : ℕ) (ch : Channel) (m : Mark) → IsEntered (about q k) ch m → IsEntered (about r k) ch m
  entered_still k ch m h = record { injection = h.injection; lives = ap (λ (b : Books). b.living k) books ∙ h.lives; reported = h.reported }

  marks_still : (ch : Channel) (ms : List Mark) → All (λ (m : Mark). IsEntered (about q m.attempt.n) ch m) ms
      → All (λ (m : Mark). IsEntered (about r m.attempt.n) ch m) ms
  marks_still ch ms h = All-weaker (λ (m : Mark). IsEntered (about q m.attempt.n) ch m) (λ (m : Mark). IsEntered (about r m.attempt.n) ch m)
      (λ m. entered_still m.attempt.n ch m) ms h

  -- of a channel with no job of the number
  lane_without : (ch : Channel) (l : Lane) → OnLane q ch l → ((k : ℕ) (job : Job) → job_of k l.jobs ≡ Some job → Of (lane_part ch) k ≢ Of (lane_part c) n) → OnLane r ch l
  lane_without ch l h far = record {
    tied = others_kept (files_of q ch) (files_of r ch) Unwritten l h.tied
        (λ k some. let job = the_job (job_of k l.jobs) some in ap records_at (others (Of (lane_part ch) k) (far k job.0 job.1)));
    jobs = λ k job e. serves_still k ch (far k job e) (h.jobs k job e);
    marks = marks_still ch l.marks h.marks;
  }

  due_still : (ch : Channel) (es : List (ℕ × ℕ)) → ((e : ℕ × ℕ) → Contains es e → Of (lane_part ch) e.1 ≢ Of (lane_part c) n) → All (λ (e : ℕ × ℕ). Serves (about q e.1) ch) es
      → All (λ (e : ℕ × ℕ). Serves (about r e.1) ch) es
  due_still ch es far h = all_where (λ (e : ℕ × ℕ). Serves (about q e.1) ch) (λ (e : ℕ × ℕ). Serves (about r e.1) ch) es (λ e w s. serves_still e.1 ch (far e w) s) h

  all_known : (ks : List Known) → All (λ (k : Known). IsKnown (about q k.n) k) ks → All (λ (k : Known). IsKnown (about r k.n) k) ks
  all_known ks h = All-weaker (λ (k : Known). IsKnown (about q k.n) k) (λ (k : Known). IsKnown (about r k.n) k) known_still ks h

-- The message is known to have no such file any more

gone_local : (w : About) (k : Known) → IsKnown w k → w.parts LocalFile ≡ None → (ch : Channel) → has_file ch (record k { local = false }) ≡ false → w.parts (lane_part ch) ≡ None
gone_local w k h none Local e = none
gone_local w k h none Remote e = h.gone Remote e

gone_remote : (w : About) (k : Known) → IsKnown w k → w.parts RemoteFile ≡ None → (ch : Channel) → has_file ch (record k { remote = false }) ≡ false → w.parts (lane_part ch) ≡ None
gone_remote w k h none Local e = h.gone Local e
gone_remote w k h none Remote e = none

abbrev AllKnown : Queue → List Known → Type 0
AllKnown r ks = All (λ (k : Known). IsKnown (about r k.n) k) ks

local_off : (r : Queue) (n : ℕ) (ks : List Known) (o : Option ℕ) → position (is_of n) ks ≡ o → look r (Of LocalFile n) ≡ None → AllKnown r ks → AllKnown r (local_gone_at o ks)
local_off r n ks None e none h = h
local_off r n ks (Some i) e none h =
    let w = position-Some (is_of n) ks i nobody e in
    let k : Known = get_or ks i nobody in
    let it : IsKnown (about r k.n) k = h i nobody w.0 in
    let there : look r (Of LocalFile k.n) ≡ None = ap (λ (m : ℕ). look r (Of LocalFile m)) (eqb-true k.n n w.1) ∙ none in
    All-set (λ (x : Known). IsKnown (about r x.n) x) ks i (record k { local = false })
    (record { sorted = it.sorted; sender_is = it.sender_is; gone = gone_local (about r k.n) k it there }) h

remote_off : (r : Queue) (n : ℕ) (ks : List Known) (o : Option ℕ) → position (is_of n) ks ≡ o → look r (Of RemoteFile n) ≡ None → AllKnown r ks → AllKnown r (remote_gone_at o ks)
remote_off r n ks None e none h = h
remote_off r n ks (Some i) e none h =
    let w = position-Some (is_of n) ks i nobody e in
    let k : Known = get_or ks i nobody in
    let it : IsKnown (about r k.n) k = h i nobody w.0 in
    let there : look r (Of RemoteFile k.n) ≡ None = ap (λ (m : ℕ). look r (Of RemoteFile m)) (eqb-true k.n n w.1) ∙ none in
    All-set (λ (x : Known). IsKnown (about r x.n) x) ks i (record k { remote = false })
    (record { sorted = it.sorted; sender_is = it.sender_is; gone = gone_remote (about r k.n) k it there }) h

removed_far : (ch c : Channel) (n : ℕ) (es : List (ℕ × ℕ)) (e : ℕ × ℕ) → Contains (removed n es) e → Of (lane_part ch) e.1 ≢ Of (lane_part c) n
removed_far ch c n es e w same = ((in_removed n e es).0 w).1 (number_is (lane_part ch) (lane_part c) e.1 n same)
  where
    number_is : (x y : Part) (k n : ℕ) → Of x k ≡ Of y n → k ≡ n
    number_is x y k n e = cc

local_far : (k n : ℕ) → Of LocalFile k ≢ Of RemoteFile n
local_far k n e = absurd (cc)

remote_far : (k n : ℕ) → Of RemoteFile k ≢ Of LocalFile n
remote_far k n e = absurd (cc)

module _ (q r : Queue) (n : ℕ) (books : r.books ≡ q.books) where
  due_local : look r (Of LocalFile n) ≡ None → ((y : Name) → y ≢ Of LocalFile n → look r y ≡ look q y) → (m : Messages) → AllServe q m → AllServe r (file_gone Local n m)
  due_local gone others m h Local = due_still q r Local n books gone others Local (removed n m.local) (removed_far Local Local n m.local)
      (removed_each (λ (e : ℕ × ℕ). Serves (about q e.1) Local) n m.local (h Local))
  due_local gone others m h Remote = due_still q r Local n books gone others Remote m.remote (λ e w. remote_far e.1 n) (h Remote)

  due_remote : look r (Of RemoteFile n) ≡ None → ((y : Name) → y ≢ Of RemoteFile n → look r y ≡ look q y) → (m : Messages) → AllServe q m → AllServe r (file_gone Remote n m)
  due_remote gone others m h Remote = due_still q r Remote n books gone others Remote (removed n m.remote) (removed_far Remote Remote n m.remote)
      (removed_each (λ (e : ℕ × ℕ). Serves (about q e.1) Remote) n m.remote (h Remote))
  due_remote gone others m h Local = due_still q r Remote n books gone others Local m.local (λ e w. local_far e.1 n) (h Local)

  both_local : look r (Of LocalFile n) ≡ None → ((y : Name) → y ≢ Of LocalFile n → look r y ≡ look q y) → (s : Slots) → OnBoth q s → OnLane q Local (ended n s.local)
      → OnBoth r (at_lane Local (ended n) s)
  both_local gone others s h one Local = lane_without q r Local n books gone others Local (ended n s.local) one (λ k job e. ended_far n Local Local s.local k job e)
  both_local gone others s h one Remote = lane_without q r Local n books gone others Remote s.remote (h Remote) (λ k job e. remote_far k n)

  both_remote : look r (Of RemoteFile n) ≡ None → ((y : Name) → y ≢ Of RemoteFile n → look r y ≡ look q y) → (s : Slots) → OnBoth q s → OnLane q Remote (ended n s.remote)
      → OnBoth r (at_lane Remote (ended n) s)
  both_remote gone others s h one Remote = lane_without q r Remote n books gone others Remote (ended n s.remote) one (λ k job e. ended_far n Remote Remote s.remote k job e)
  both_remote gone others s h one Local = lane_without q r Remote n books gone others Local s.local (h Local) (λ k job e. local_far k n)

module _ (q r : Queue) (books : r.books ≡ q.books) where
  done_on : (c : Channel) (n : ℕ) (job : Job) (d : Desk) → OnDesk q d → job_over n (lane c d.slots) ≡ Some job
      → look r (Of (lane_part c) n) ≡ None → ((y : Name) → y ≢ Of (lane_part c) n → look r y ≡ look q y) → OnDesk r (done_with c n d)
  done_on Local n job d h over gone others = record {
    known = local_off r n d.book.messages.known (position (is_of n) d.book.messages.known) refl gone (all_known q r Local n books gone others d.book.messages.known h.known);
    due = due_local q r n books gone others d.book.messages h.due;
    lanes = both_local q r n books gone others d.slots h.lanes (ended_on q Local d.slots.local (h.lanes Local) n job over);
    apart = apart_gone Local n d.book.messages d.slots h.apart;
    no_nul = h.no_nul;
  }
  done_on Remote n job d h over gone others = record {
    known = remote_off r n d.book.messages.known (position (is_of n) d.book.messages.known) refl gone (all_known q r Remote n books gone others d.book.messages.known h.known);
    due = due_remote q r n books gone others d.book.messages h.due;
    lanes = both_remote q r n books gone others d.slots h.lanes (ended_on q Remote d.slots.remote (h.lanes Remote) n job over);
    apart = apart_gone Remote n d.book.messages d.slots h.apart;
    no_nul = h.no_nul;
  }

-- The event

bare_ended : (c : Channel) (n : ℕ) (s : Slots) → HasNoMarks s → HasNoMarks (at_lane c (ended n) s)
bare_ended Local n s h Local = h Local
bare_ended Local n s h Remote = h Remote
bare_ended Remote n s h Local = h Local
bare_ended Remote n s h Remote = h Remote

pub point_ended : (c : Channel) (n : ℕ) (p : Point) (s : Slots) → PointStands p s → PointStands p (at_lane c (ended n) s)
point_ended c n point.TakeLocal s h = tt
point_ended c n point.TakeRemote s h = tt
point_ended c n point.Reports s h = tt
point_ended c n (point.Pass ch may) s h = bare_ended c n s h
point_ended c n point.Finish s h = bare_ended c n s h
point_ended c n point.Sweep s h = bare_ended c n s h

pub desk_grown : (q r : Queue) (d : Desk) → Grows q r → OnDesk q d → OnDesk r d
desk_grown q r d g h = record {
  known = known_all q r g d.book.messages h.known;
  due = due_all q r g d.book.messages h.due;
  lanes = λ ch. lane_grown q r g ch (lane ch d.slots) (h.lanes ch);
  apart = h.apart;
  no_nul = h.no_nul;
}

pub file_call : (x y : CallData) → needs.File x ≡ needs.File y → x ≡ y
file_call x y e = cc

module _ (now : ℕ) (q : Queue) (a : List ℕ) (G : Sound q) where
  module _ (c : Channel) (n : ℕ) (p : Point) (d : Desk) (read wrote : ℕ) (on : OnDesk q d) (all : IsAllDone c n d.slots) (rests : PointStands p d.slots) where
    abbrev after : Answer → Queue
    after told = called_queue q a read (Unlink (path (Of (lane_part c) n))) told wrote q.role

    may : MayDrop (about q n) c
    may = may_drop q c n (lane c d.slots) all.job G (on.lanes c) all.over all.none_left

    done_leads : Fits q.disk (Unlink (path (Of (lane_part c) n))) answer.Done wrote → SenderLeads now a q (after answer.Done) (done_with c n (stands_at d p))
    done_leads fits =
        let one = unlinks_one q a read (Of (lane_part c) n) answer.Done wrote fits in
        let next : Desk = done_with c n (stands_at d p) in
        let there : OnDesk (after answer.Done) (done_with c n d) = done_on q (after answer.Done) refl c n all.job d on all.over (one.gone refl) one.others in
        record {
          number = Some n;
          closed = one_closed now q n (lane_closed now q n c G may.lane);
          leads = drops_keep now q a G read n c answer.Done wrote may fits;
          stands = done_stands c (after answer.Done) there;
        }
      where
        done_stands : (c : Channel) (r : Queue) → OnDesk r (done_with c n d) → SenderStands now r a (done_with c n (stands_at d p))
        done_stands Local r h = stand now r a (at.Turn p) (done_with Local n d) (λ ch. refl) h (point_ended Local n p d.slots rests)
        done_stands Remote r h = stand now r a (at.Turn p) (done_with Remote n d) (λ ch. refl) h (point_ended Remote n p d.slots rests)

    failed_leads : (told : Answer) → Fits q.disk (Unlink (path (Of (lane_part c) n))) told wrote → Grows q (after told)
        → SenderLeads now a q (after told) (due_again c n (later read) (stands_at d p))
    failed_leads told fits g =
        let r = after told in
        let grown = desk_grown q r d g on in
        let l = grown.lanes c in
        let again = due_again_on r c n (later read) d grown (l.jobs n all.job (over_there n (lane c d.slots) all.job all.over)) (ended_on r c (lane c d.slots) l n all.job all.over) in
        record {
          number = Some n;
          closed = one_closed now q n (lane_closed now q n c G may.lane);
          leads = drops_keep now q a G read n c told wrote may fits;
          stands = again_stands c r again;
        }
      where
        again_stands : (c : Channel) (r : Queue) → OnDesk r (due_again c n (later read) d) → SenderStands now r a (due_again c n (later read) (stands_at d p))
        again_stands Local r h = stand now r a (at.Turn p) (due_again Local n (later read) d) (λ ch. refl) h (point_ended Local n p d.slots rests)
        again_stands Remote r h = stand now r a (at.Turn p) (due_again Remote n (later read) d) (λ ch. refl) h (point_ended Remote n p d.slots rests)

    same_looks : (told : Answer) → effect q.disk read (Unlink (path (Of (lane_part c) n))) told wrote ≡ q.disk → Grows q (after told)
    same_looks told e = record {
      looks = λ part k far. ap (λ (x : Disk). find x.names x.files (Of part k)) e;
      lives = λ k i there. (i, there, refl, grown_same i.ledger);
    }

    by_answer : (told : Answer) (bytes : List ℕ) → Fits q.disk (Unlink (path (Of (lane_part c) n))) told wrote → SenderLeads now a q (after told) (unlinked (answered told bytes).way c n p read d)
    by_answer answer.Done bytes fits = done_leads fits
    by_answer (answer.Refused why.NotThere) bytes fits = failed_leads (answer.Refused why.NotThere) fits (same_looks (answer.Refused why.NotThere) refl)
    by_answer (answer.Refused why.Fault) bytes fits = failed_leads (answer.Refused why.Fault) fits (same_looks (answer.Refused why.Fault) refl)
    by_answer (answer.Refused why.Exists) bytes fits = absurd fits
    by_answer (answer.Refused why.Memory) bytes fits = absurd fits
    by_answer (answer.Created fd k) bytes fits = absurd fits
    by_answer (answer.Opened fd) bytes fits = absurd fits
    by_answer (answer.Count k) bytes fits = absurd fits
    by_answer (answer.Stat s) bytes fits = absurd fits
    by_answer (answer.Name k) bytes fits = absurd fits
    by_answer answer.NoName bytes fits = absurd fits

  pub files_go : (c : Channel) (n : ℕ) (p : Point) (d : Desk) (read : ℕ) (call : CallData) (told : Told) (wrote : ℕ) → StandsAt now q a (at.UnlinkFile c n p) d
      → due_at (at.UnlinkFile c n p) d ≡ needs.File call → Fits q.disk call told.answer wrote
      → SenderLeads now a q (called_queue q a read call told.answer wrote q.role) (act (at.UnlinkFile c n p) read (Answered told) d)
  files_go c n p d read call told wrote h due fits =
      let on = on_of now q a (at.UnlinkFile c n p) d (record { first = λ ch. refl; controls_read = tt }) (λ k w. w) h in
      let same : call ≡ Unlink (path (Of (lane_part c) n)) = sym (file_call (Unlink (path (name_of (file_of c n)))) call due) ∙ ap Unlink (lane_name c n) in
      let go = by_answer c n p d read wrote on h.rests.0 h.rests.1 told.answer told.bytes (subst (λ x. Fits q.disk x told.answer wrote) same fits) in
      subst (λ x. SenderLeads now a q (called_queue q a read x told.answer wrote q.role) (unlinked (answered told.answer told.bytes).way c n p read d)) (sym same) go
