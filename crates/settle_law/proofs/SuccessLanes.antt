-- What each event of a channel leaves where each report is of a success: no job leaves a place `T`, no mark has a note, and each message that was tried has a job.
use Rattle.std.proofs.Common.{◌≡◌, ℕ, List, [], ◌∷◌, ◌++◌, length, drop, nat_lt, Bool, true, false, if◌then◌else◌, Option, Some, None, refl, sym, ap, ◌∙◌, subst, eqb-true}
use Rattle.std.specs.Prelude.{◌==◌, All, IsSome, is_some, map}
use Rattle.std.proofs.lemmas.Bool.{lt-ltb}
use Rattle.std.proofs.lemmas.List.Elements.{All-nil, All-push, All-tail}
use Rattle.envelope_records.specs.declared.channel.Record.{Record}
use Rattle.send_core.specs.Agrees.{owed_at}
use Rattle.send_core.specs.Past.{Owed}
use Rattle.send_core.proofs.Lanes.{Holds, has_room, owed_holds}
use Rattle.send_core.proofs.Lists.{in_range, map_length, map_more}
use Rattle.send_jobs.proofs.JobLemmas.{job_put, job_without}
use Rattle.send_jobs.specs.Jobs.{job_of, new_job}
use Rattle.send_jobs.specs.Lanes.{begun_by, empty, ended, mark_settled, next, owes, reported, sent, sent_in}
use Rattle.send_jobs.specs.Slots.{attempt_in, lowest}
use Rattle.send_jobs.specs.declared.attempts.Attempt.{Attempt}
use Rattle.send_jobs.specs.declared.attempts.Mark.{Mark}
use Rattle.send_jobs.specs.declared.jobs.Job.{Job}
use Rattle.send_jobs.specs.declared.lane.Lane.{Lane}
use Rattle.send_runs.proofs.Steady.{sent_jobs}

abbrev IsPlain : Mark → Type 0
IsPlain m = m.note ≡ None

abbrev pub AllMarked : Lane → Type 0
AllMarked l = (n : ℕ) (job : Job) → job_of n l.jobs ≡ Some job → job.unmarked ≡ false

abbrev pub HasNoNotes : Lane → Type 0
HasNoNotes l = All IsPlain l.marks

abbrev pub AtWork : (ℕ → Bool) → Lane → Type 0
AtWork tried l = (n : ℕ) → tried n ≡ true → IsSome (job_of n l.jobs)

abbrev pub Keeps : (ℕ → Bool) → Lane → Type 0
Keeps tried l = AllMarked l × (HasNoNotes l × AtWork tried l)

-- There is room for the mark of each attempt in flight.
pub record HasRoom (l : Lane) : Type 0 where
  pub limit : ℕ
  pub owed : List Owed
  pub fits : map owed_at l.marks ≡ owed
  pub holds : Holds limit owed l.slots l.left

pub room_owed : (l : Lane) (slot : ℕ) (a : Attempt) (m : Mark) → attempt_in l.slots slot ≡ Some a → HasRoom l → HasRoom (owes m (reported slot l))
room_owed l slot a m there h = record {
  limit = h.limit;
  owed = h.owed ++ owed_at m ∷ [];
  fits = map_more owed_at l.marks m ∙ ap (λ (t : List Owed). t ++ owed_at m ∷ []) h.fits;
  holds = owed_holds h.limit slot h.owed l.slots l.left a (owed_at m) (in_range l.slots slot a there) there h.holds;
}

pub room_for : (l : Lane) (slot : ℕ) (a : Attempt) → attempt_in l.slots slot ≡ Some a → HasRoom l → nat_lt (length l.marks) 120 ≡ true
room_for l slot a there h =
    ap (λ (k : ℕ). nat_lt k 120) (sym (map_length owed_at l.marks) ∙ ap (λ (t : List Owed). length t) h.fits)
    ∙ lt-ltb (length h.owed) 120 (has_room h.limit slot h.owed l.slots l.left a (in_range l.slots slot a there) there h.holds)

sent_marks : (o : Option ℕ) (a : Option Attempt) (delivery : ℕ) (l : Lane) → (sent_in o a delivery l).marks ≡ l.marks
sent_marks None a delivery l = refl
sent_marks (Some slot) None delivery l = refl
sent_marks (Some slot) (Some a) delivery l = refl

drop_notes : (marks : List Mark) → All IsPlain marks → All IsPlain (drop 1 marks)
drop_notes [] all = all
drop_notes (m ∷ marks) all = All-tail IsPlain m marks all

abbrev unmarked_of : Option Job → Bool
unmarked_of None = false
unmarked_of (Some job) = job.unmarked

module _ (tried : ℕ → Bool) where
  same_keeps : (l x : Lane) → x.jobs ≡ l.jobs → x.marks ≡ l.marks → Keeps tried l → Keeps tried x
  same_keeps l x jobs marks h = (
    λ n job there. h.0 n job (sym (ap (job_of n) jobs) ∙ there),
    (subst (λ (ms : List Mark). All IsPlain ms) (sym marks) h.1.0, λ n t. subst (λ (js : List Job). IsSome (job_of n js)) (sym jobs) (h.1.1 n t)),
  )

  pub owed_keeps : (l : Lane) (slot : ℕ) (m : Mark) → m.note ≡ None → Keeps tried l → Keeps tried (owes m (reported slot l))
  owed_keeps l slot m none h = (h.0, (All-push IsPlain l.marks m h.1.0 none, h.1.1))

  pub sent_keeps : (l : Lane) (delivery : ℕ) → Keeps tried l → Keeps tried (sent delivery l)
  sent_keeps l delivery h = same_keeps l (sent delivery l) (sent_jobs (lowest l.slots) (next l) delivery l) (sent_marks (lowest l.slots) (next l) delivery l) h

  pub made_keeps : (l : Lane) → Keeps tried l → Keeps tried (mark_settled l)
  made_keeps l h = (h.0, (drop_notes l.marks h.1.0, h.1.1))

  pub begun_keeps : (l : Lane) (n begun : ℕ) (dying : Bool) (records : List Record) → Keeps tried l → Keeps tried (begun_by n records begun dying l)
  begun_keeps l n begun dying records h = (
    λ m job there. marked (n == m) m job (sym (job_put (new_job n begun) m l.jobs) ∙ there),
    (h.1.0, λ m t. subst (λ (o : Option Job). IsSome o) (sym (job_put (new_job n begun) m l.jobs)) (at_work (n == m) m t)),
  )
    where
      marked : (b : Bool) (m : ℕ) (job : Job) → (if b then Some (new_job n begun) else job_of m l.jobs) ≡ Some job → job.unmarked ≡ false
      marked true m job e = sym (ap unmarked_of e)
      marked false m job e = h.0 m job e

      at_work : (b : Bool) (m : ℕ) → tried m ≡ true → IsSome (if b then Some (new_job n begun) else job_of m l.jobs)
      at_work true m t = refl
      at_work false m t = h.1.1 m t

  -- of a message that wasn't tried
  pub ended_keeps : (l : Lane) (n : ℕ) → (tried n ≡ true → ⊥) → Keeps tried l → Keeps tried (ended n l)
  ended_keeps l n untried h = (
    λ m job there. marked (n == m) m job (sym (job_without n m l.jobs) ∙ there),
    (h.1.0, λ m t. subst (λ (o : Option Job). IsSome o) (sym (job_without n m l.jobs)) (at_work (n == m) m refl t)),
  )
    where
      marked : (b : Bool) (m : ℕ) (job : Job) → (if b then None else job_of m l.jobs) ≡ Some job → job.unmarked ≡ false
      marked true m job e = absurd (cc)
      marked false m job e = h.0 m job e

      at_work : (b : Bool) (m : ℕ) → (n == m) ≡ b → tried m ≡ true → IsSome (if b then None else job_of m l.jobs)
      at_work true m on t = absurd (untried (ap tried (eqb-true n m on) ∙ t))
      at_work false m off t = h.1.1 m t

  pub untried_by : (l : Lane) (n : ℕ) → job_of n l.jobs ≡ None → Keeps tried l → tried n ≡ true → ⊥
  untried_by l n none h t = let some : IsSome (job_of n l.jobs) = h.1.1 n t in absurd (cc (sym (ap (λ (o : Option Job). is_some o) none) ∙ some))

pub empty_keeps : (tried : ℕ → Bool) (l : Lane) (limit : ℕ) → l.jobs ≡ [] → Keeps tried l → Keeps tried (empty limit)
empty_keeps tried l limit none h = (λ n job there. absurd (cc), (All-nil IsPlain, λ n t. absurd (untried_by tried l n (ap (job_of n) none) h t)))
