-- A pass that begins, and a job that is over.
use Rattle.std.proofs.Common.{◌≡◌, ◌⊎◌, inl, inr, ℕ, zero, suc, ◌+◌, ◌≤◌, ◌<◌, List, [], ◌∷◌, ◌++◌, length, Bool, true, false, not, Option, Some, None, refl, sym, ap, ◌∙◌, subst, ⊎_elim, arith, count_by, length-append}
use Rattle.std.specs.Prelude.{◌&&◌, ◌==◌, if◌then◌else◌, All, Contains, IsSome, is_some, slice_get}
use Rattle.std.specs.List.{flat_map, list_any}
use Rattle.std.proofs.lemmas.Bool.{and_parts, cases_Bool, cases_eq, eq-eqb, ne_eqb, not-true}
use Rattle.std.proofs.lemmas.List.Elements.{All-contains_itself, All-cons, All-nil, All-weaker}
use Rattle.envelope_records.specs.declared.channel.Record.{Record}
use Rattle.envelope_records.specs.Records.{AreRecords, text_of}
use Rattle.send_jobs.specs.declared.attempts.Attempt.{Attempt}
use Rattle.send_jobs.specs.declared.attempts.Mark.{Mark}
use Rattle.send_jobs.specs.declared.jobs.Job.{Job}
use Rattle.send_jobs.specs.declared.lane.Lane.{Lane}
use Rattle.send_jobs.specs.Jobs.{job_of, new_job, put as put_job}
use Rattle.send_jobs.specs.Lanes.{begun_by, ended, finished, is_in_flight, is_mark_on, is_open_on, job_over, next}
use Rattle.send_jobs.specs.Passes.{attempt_at, attempts_of}
use Rattle.send_jobs.specs.Slots.{is_on}
use Rattle.send_jobs.proofs.JobLemmas.{job_put, job_without}
use Rattle.program_law.specs.Channel.Files.{Files, IsOpen}
use Rattle.program_law.specs.Channel.Tied.{First, IsAccounted, IsSettled, IsTied, in_hand, is_at, is_mark_at, is_slot_at, waiting}
use Rattle.program_law.specs.Channel.Tied.First.{Unwritten, Unsure, Written}
use Rattle.program_law.specs.Channel.Tied.IsSettled.{IsDone, IsSpoilt, IsHeld}
use Rattle.program_law.proofs.Channel.Counts.{all_fail, at_head, contained_counts, counted_cons, counted_drop, counted_none, head_or_tail, in_tail, not_in_none}
use Rattle.program_law.proofs.Channel.Ties.{HereIf, at_itself, at_place, off_number, some_is}

-- The attempts of a pass

-- each is at a record that reads `T`
attempts_all : (P : Attempt → Type 0) (n : ℕ) (dying : Bool) (rs : List Record) → ((r : Record) → Contains rs r → r.done ≡ false → P (attempt_at n dying r)) → All P (attempts_of n dying rs)
attempts_all P n dying [] f = All-nil P
attempts_all P n dying (r ∷ rs) f = first r.done r.place r.address (f r (at_head r rs)) (attempts_all P n dying rs (λ s w unmade. f s (in_tail r s rs w) unmade))
  where
    first : (done : Bool) (place : ℕ) (address : List ℕ) → (done ≡ false → P (attempt_at n dying (record { done = done; place = place; address = address }))) → All P (attempts_of n dying rs)
        → All P (attempts_of n dying (record { done = done; place = place; address = address } ∷ rs))
    first true place address f h = h
    first false place address f h = All-cons P (attempt_at n dying (record { done = false; place = place; address = address })) (attempts_of n dying rs) (f refl) h

-- and each such record has one
attempt_there : (n : ℕ) (dying : Bool) (rs : List Record) (r : Record) → Contains rs r → r.done ≡ false → Contains (attempts_of n dying rs) (attempt_at n dying r)
attempt_there n dying [] r w unmade = absurd (not_in_none r w)
attempt_there n dying (s ∷ rs) r w unmade = ⊎_elim
    (λ same. first s.done s.place s.address (ap (λ (x : Record). x.done) same ∙ unmade) (ap (attempt_at n dying) same))
    (λ more. later s.done s.place s.address (attempt_there n dying rs r more unmade))
    (head_or_tail s r rs w)
  where
    first : (done : Bool) (place : ℕ) (address : List ℕ) → done ≡ false → attempt_at n dying (record { done = done; place = place; address = address }) ≡ attempt_at n dying r
        → Contains (attempts_of n dying (record { done = done; place = place; address = address } ∷ rs)) (attempt_at n dying r)
    first true place address unmade same = absurd (cc)
    first false place address unmade same = subst (Contains (attempt_at n dying (record { done = false; place = place; address = address }) ∷ attempts_of n dying rs)) same
        (at_head (attempt_at n dying (record { done = false; place = place; address = address })) (attempts_of n dying rs))

    later : (done : Bool) (place : ℕ) (address : List ℕ) → Contains (attempts_of n dying rs) (attempt_at n dying r)
        → Contains (attempts_of n dying (record { done = done; place = place; address = address } ∷ rs)) (attempt_at n dying r)
    later true place address h = h
    later false place address h = in_tail (attempt_at n dying (record { done = false; place = place; address = address })) (attempt_at n dying r) (attempts_of n dying rs) h

-- Places of records

-- at least this place, and each after the one before
abbrev pub Rises : ℕ → List Record → Type 0
Rises k [] = Unit {0}
Rises k (r ∷ rs) = (k ≤ r.place) × Rises (r.place + 1) rs

rises_from : (j k : ℕ) (rs : List Record) → j ≤ k → Rises k rs → Rises j rs
rises_from j k [] le h = tt
rises_from j k (r ∷ rs) le h = let low = h.0 in (omega (arith, low, le), h.1)

abbrev pub Placed : ℕ → List Record → Type 0
Placed k rs = (before rest : List Record) (it : Record) → rs ≡ before ++ it ∷ rest → it.place ≡ k + length (flat_map text_of before)

placed_tail : (k : ℕ) (r : Record) (rs : List Record) → Placed k (r ∷ rs) → Placed (k + length (text_of r)) rs
placed_tail k r rs h before rest it e =
    let w = h (r ∷ before) rest it (ap (λ t. r ∷ t) e) in
    let sum = length-append (text_of r) (flat_map text_of before) in
    omega arith

pub rises : (k : ℕ) (rs : List Record) → Placed k rs → Rises k rs
rises k [] h = tt
rises k (r ∷ rs) h =
    let here = h [] rs r refl in
    let long : 1 ≤ length (text_of r) = omega (arith, length-append r.address (0 ∷ [])) in
    (omega arith, rises_from (r.place + 1) (k + length (text_of r)) rs (omega arith) (rises (k + length (text_of r)) rs (placed_tail k r rs h)))

records_rise : (bytes : List ℕ) (rs : List Record) → AreRecords bytes rs → Rises 0 rs
records_rise bytes rs a = rises 0 rs (λ before rest it e. a.places before rest it e ∙ omega arith)

-- at most one is at a place, and none at one below
one_at : (m place n k : ℕ) (dying : Bool) (rs : List Record) → Rises k rs → (count_by (is_at m place) (attempts_of n dying rs) ≤ 1) × (place < k → count_by (is_at m place) (attempts_of n dying rs) ≡ 0)
one_at m place n k dying [] h = (omega arith, (λ lt. refl))
one_at m place n k dying (r ∷ rs) h = first r.done r.place r.address h.0 (one_at m place n (r.place + 1) dying rs h.1)
  where
    first : (done : Bool) (at : ℕ) (address : List ℕ) → k ≤ at → (count_by (is_at m place) (attempts_of n dying rs) ≤ 1) × (place < at + 1 → count_by (is_at m place) (attempts_of n dying rs) ≡ 0)
        → (count_by (is_at m place) (attempts_of n dying (record { done = done; place = at; address = address } ∷ rs)) ≤ 1)
        × (place < k → count_by (is_at m place) (attempts_of n dying (record { done = done; place = at; address = address } ∷ rs)) ≡ 0)
    first true at address low (le, none) = (le, (λ lt. none (omega arith)))
    first false at address low (le, none) =
        let it : Attempt = attempt_at n dying (record { done = false; place = at; address = address }) in
        let sum = counted_cons (is_at m place) it (attempts_of n dying rs) in
        ⊎_elim
        (λ yes.
        let same : at ≡ place = at_place m place it yes in
        let zero = none (omega (arith, same)) in
        let one : ◌≡◌ {A = ℕ} (HereIf (is_at m place it)) 1 = ap HereIf yes in
        (omega (arith, sum, zero, one), (λ lt. absurd (omega (arith, same, lt, low)))))
        (λ no.
        let out : ◌≡◌ {A = ℕ} (HereIf (is_at m place it)) 0 = ap HereIf no in
        (omega (arith, sum, out, le), (λ lt. let zero = none (omega (arith, lt, low)) in omega (arith, sum, out, zero))))
        (cases_Bool (is_at m place it))

-- none is of another message
none_of : (m place n : ℕ) (dying : Bool) (rs : List Record) → (n ≡ m → ⊥) → count_by (is_at m place) (attempts_of n dying rs) ≡ 0
none_of m place n dying rs ne = counted_none (is_at m place) (attempts_of n dying rs) (attempts_all (λ a. is_at m place a ≡ false) n dying rs (λ r w unmade. off_number m place (attempt_at n dying r) ne))

-- What is in hand of a message

slots_none : (n place : ℕ) (slots : List (Option Attempt)) → list_any (is_on n) slots ≡ false → count_by (is_slot_at n place) slots ≡ 0
slots_none n place slots h = counted_none (is_slot_at n place) slots (All-weaker (λ s. is_on n s ≡ false) (λ s. is_slot_at n place s ≡ false) off slots (all_fail (is_on n) slots h))
  where
    off : (s : Option Attempt) → is_on n s ≡ false → is_slot_at n place s ≡ false
    off None e = refl
    off (Some a) e = ap (λ b. b && (a.place == place)) e

marks_none : (n place : ℕ) (marks : List Mark) → list_any (is_mark_on n) marks ≡ false → count_by (is_mark_at n place) marks ≡ 0
marks_none n place marks h = counted_none (is_mark_at n place) marks
    (All-weaker (λ m. is_mark_on n m ≡ false) (λ m. is_mark_at n place m ≡ false) (λ m e. ap (λ b. b && (m.attempt.place == place)) e) marks (all_fail (is_mark_on n) marks h))

left_none : (n place : ℕ) (left : List Attempt) → ((a : Attempt) → slice_get left 0 ≡ Some a → All (λ b. b.n ≡ a.n) left) → is_on n (slice_get left 0) ≡ false → count_by (is_at n place) left ≡ 0
left_none n place [] h e = refl
left_none n place (x ∷ left) h e = counted_none (is_at n place) (x ∷ left)
    (All-weaker (λ b. b.n ≡ x.n) (λ b. is_at n place b ≡ false) (λ b same. off_number n place b (λ on. let yes : (x.n == n) ≡ true = eq-eqb x.n n (sym same ∙ on) in absurd (cc))) (x ∷ left) (h x refl))

waiting_none : (first : First) (n place : ℕ) (marks : List Mark) → count_by (is_mark_at n place) marks ≡ 0 → count_by (is_mark_at n place) (waiting first marks) ≡ 0
waiting_none Unwritten n place marks e = e
waiting_none Unsure n place marks e = e
waiting_none Written n place marks e = let le = counted_drop (is_mark_at n place) marks in omega (arith, e, le)

-- A pass begins

module _ (files : Files) where
  empty_left : (left : List Attempt) → slice_get left 0 ≡ None → left ≡ []
  empty_left [] e = refl
  empty_left (a ∷ left) e = absurd (cc)

  pub begun_kept : (lane : Lane) (n begun : ℕ) (dying : Bool) (bytes : List ℕ) (records : List Record) → IsTied files Unwritten lane → AreRecords bytes records → files n ≡ Some records
      → next lane ≡ None → is_in_flight n lane ≡ false → lane.marks ≡ [] → IsTied files Unwritten (begun_by n records begun dying lane)
  begun_kept lane n begun dying bytes records t are there none free bare = record {
    to_come = attempts_all (IsOpen files) n dying records (λ r w unmade. record { records = records; there = there; reads = subst (Contains records) (as_open r unmade) w });
    in_flight = t.in_flight;
    to_mark = t.to_mark;
    of_one = λ a e. All-weaker (λ (b : Attempt). b.n ≡ n) (λ b. b.n ≡ a.n) (λ b same. same ∙ sym (first_on a e)) (attempts_of n dying records) of_n;
    once = once;
    owned = owned;
    accounted = accounted;
  }
    where
      as_open : (r : Record) → r.done ≡ false → r ≡ record { done = false; place = r.place; address = r.address }
      as_open r unmade = ap (λ (d : Bool). let it : Record = record { done = d; place = r.place; address = r.address } in it) unmade

      of_n : All (λ (b : Attempt). b.n ≡ n) (attempts_of n dying records)
      of_n = attempts_all (λ b. b.n ≡ n) n dying records (λ r w unmade. refl)

      first_on : (a : Attempt) → slice_get (attempts_of n dying records) 0 ≡ Some a → a.n ≡ n
      first_on a e = head_of (attempts_of n dying records) of_n a e where
        head_of : (xs : List Attempt) → All (λ (b : Attempt). b.n ≡ n) xs → (a : Attempt) → slice_get xs 0 ≡ Some a → a.n ≡ n
        head_of [] h a e = absurd (cc)
        head_of (x ∷ xs) h a e = ap (λ (z : Attempt). z.n) (sym (some_is x a e)) ∙ h 0 x (omega arith)

      no_left : (m place : ℕ) → count_by (is_at m place) lane.left ≡ 0
      no_left m place = ap (λ xs. count_by (is_at m place) xs) (empty_left lane.left none)

      no_marks : (m place : ℕ) → count_by (is_mark_at m place) lane.marks ≡ 0
      no_marks m place = ap (λ xs. count_by (is_mark_at m place) xs) bare

      no_slots : (place : ℕ) → count_by (is_slot_at n place) lane.slots ≡ 0
      no_slots place = slots_none n place lane.slots free

      once_by : (m place : ℕ) → (n ≡ m) ⊎ (n ≡ m → ⊥) → in_hand Unwritten m place (begun_by n records begun dying lane) ≤ 1
      once_by m place (inl same) =
          let left = (one_at m place n 0 dying records (records_rise bytes records are)).0 in
          let slots : count_by (is_slot_at m place) lane.slots ≡ 0 = subst (λ k. count_by (is_slot_at k place) lane.slots ≡ 0) same (no_slots place) in
          let marks = no_marks m place in
          omega (arith, left, slots, marks)
      once_by m place (inr apart) =
          let left = none_of m place n dying records apart in
          let before = t.once m place in
          omega (arith, left, before)

      once : (m place : ℕ) → in_hand Unwritten m place (begun_by n records begun dying lane) ≤ 1
      once m place = once_by m place (cases_eq n m)

      owned : (m place : ℕ) → 1 ≤ in_hand Unwritten m place (begun_by n records begun dying lane) → IsSome (job_of m (put_job (new_job n begun) lane.jobs))
      owned m place le = ap (λ o. is_some o) (job_put (new_job n begun) m lane.jobs) ∙ ⊎_elim
          (λ same. ap (λ b. is_some (if b then Some (new_job n begun) else job_of m lane.jobs)) (eq-eqb n m same))
          (λ apart. ap (λ b. is_some (if b then Some (new_job n begun) else job_of m lane.jobs)) (ne_eqb n m apart)
          ∙ t.owned m place (let left = none_of m place n dying records apart in omega (arith, left, le)))
          (cases_eq n m)

      held : (r : Record) → Contains records r → r.done ≡ false → 1 ≤ in_hand Unwritten n r.place (begun_by n records begun dying lane)
      held r w unmade =
          let one = contained_counts (is_at n r.place) (attempts_of n dying records) (attempt_at n dying r) (attempt_there n dying records r w unmade) (at_itself (attempt_at n dying r)) in
          omega (arith, one)

      accounted : (m : ℕ) (job : Job) → job_of m (put_job (new_job n begun) lane.jobs) ≡ Some job → IsAccounted files Unwritten (begun_by n records begun dying lane) m job
      accounted m job e = ⊎_elim
          (λ same. subst (λ k. IsAccounted files Unwritten (begun_by n records begun dying lane) k job) same (record {
            records = records;
            there = there;
            each = All-weaker (Contains records) (λ r. IsSettled job (in_hand Unwritten n r.place (begun_by n records begun dying lane)) r)
                (λ r w. ⊎_elim (λ done. IsDone done) (λ unmade. IsHeld (held r w unmade)) (cases_Bool r.done)) records (All-contains_itself records);
          }))
          (λ apart.
          let was : job_of m lane.jobs ≡ Some job = sym (ap (λ b. if b then Some (new_job n begun) else job_of m lane.jobs) (ne_eqb n m apart)) ∙ sym (job_put (new_job n begun) m lane.jobs) ∙ e in
          let it = t.accounted m job was in
          record {
            records = it.records;
            there = it.there;
            each = All-weaker (λ r. IsSettled job (in_hand Unwritten m r.place lane) r) (λ r. IsSettled job (in_hand Unwritten m r.place (begun_by n records begun dying lane)) r)
                (λ r s. as_before r s (let none = no_left m r.place in omega (arith, none))) it.records it.each;
          })
          (cases_eq n m)
        where
          as_before : (r : Record) → IsSettled job (in_hand Unwritten m r.place lane) r → in_hand Unwritten m r.place lane ≤ in_hand Unwritten m r.place (begun_by n records begun dying lane)
              → IsSettled job (in_hand Unwritten m r.place (begun_by n records begun dying lane)) r
          as_before r (IsDone e) le = IsDone e
          as_before r (IsSpoilt e) le = IsSpoilt e
          as_before r (IsHeld one) le = IsHeld (omega (arith, one, le))

  -- A job is over

  over_parts : (n : ℕ) (lane : Lane) (job : Job) → job_over n lane ≡ Some job → (finished n lane ≡ true) × (list_any (is_mark_on n) lane.marks ≡ false) × (job_of n lane.jobs ≡ Some job)
  over_parts n lane job e = ⊎_elim
      (λ yes. let both = and_parts (finished n lane) (not (list_any (is_mark_on n) lane.marks)) yes in (both.0, not-true (list_any (is_mark_on n) lane.marks) both.1, sym (ap (λ b. if b then job_of n lane.jobs else None) yes) ∙ e))
      (λ no. absurd (let none : ◌≡◌ {A = Option Job} None (Some job) = sym (ap (λ b. if b then job_of n lane.jobs else None) no) ∙ e in cc))
      (cases_Bool (finished n lane && not (list_any (is_mark_on n) lane.marks)))

  none_in_hand : (first : First) (n place : ℕ) (lane : Lane) (job : Job) → IsTied files first lane → job_over n lane ≡ Some job → in_hand first n place lane ≡ 0
  none_in_hand first n place lane job t e =
      let it = over_parts n lane job e in
      let parts = and_parts (not (is_open_on n lane)) (not (is_in_flight n lane)) it.0 in
      let left = left_none n place lane.left t.of_one (not-true (is_open_on n lane) parts.0) in
      let slots = slots_none n place lane.slots (not-true (is_in_flight n lane) parts.1) in
      let marks = waiting_none first n place lane.marks (marks_none n place lane.marks it.1) in
      omega (arith, left, slots, marks)

  pub done_all : (lane : Lane) (n : ℕ) (job : Job) → IsTied files Unwritten lane → job_over n lane ≡ Some job → job.unmarked ≡ false → (records : List Record) → files n ≡ Some records → All (λ r. r.done ≡ true) records
  done_all lane n job t over clean records there =
      let it = t.accounted n job (over_parts n lane job over).2 in
      let same : it.records ≡ records = some_is it.records records (sym it.there ∙ there) in
      subst (All (λ r. r.done ≡ true)) same (All-weaker (λ r. IsSettled job (in_hand Unwritten n r.place lane) r) (λ r. r.done ≡ true) by_settled it.records it.each)
    where
      by_settled : (r : Record) → IsSettled job (in_hand Unwritten n r.place lane) r → r.done ≡ true
      by_settled r (IsDone e) = e
      by_settled r (IsSpoilt e) = absurd (cc)
      by_settled r (IsHeld one) = let none = none_in_hand Unwritten n r.place lane job t over in absurd (omega (arith, one, none))

  -- the other jobs are those of before
  ended_kept : (first : First) (lane : Lane) (n : ℕ) → IsTied files first lane → ((place : ℕ) → in_hand first n place lane ≡ 0) → IsTied files first (ended n lane)
  ended_kept first lane n t idle = record {
    to_come = t.to_come;
    in_flight = t.in_flight;
    to_mark = t.to_mark;
    of_one = t.of_one;
    once = t.once;
    owned = λ m place le. ap (λ o. is_some o) (job_without n m lane.jobs) ∙ ⊎_elim
        (λ same. absurd (let none : in_hand first m place lane ≡ 0 = subst (λ k. in_hand first k place lane ≡ 0) same (idle place) in omega (arith, none, le)))
        (λ apart. ap (λ b. is_some (if b then None else job_of m lane.jobs)) (ne_eqb n m apart) ∙ t.owned m place le)
        (cases_eq n m);
    accounted = λ m it e. ⊎_elim
        (λ same. absurd (let none : ◌≡◌ {A = Option Job} None (Some it) = sym (ap (λ b. if b then None else job_of m lane.jobs) (eq-eqb n m same)) ∙ sym (job_without n m lane.jobs) ∙ e in cc))
        (λ apart. as_it_was m it (t.accounted m it (sym (ap (λ b. if b then None else job_of m lane.jobs) (ne_eqb n m apart)) ∙ sym (job_without n m lane.jobs) ∙ e)))
        (cases_eq n m);
  }
    where
      as_it_was : (m : ℕ) (it : Job) → IsAccounted files first lane m it → IsAccounted files first (ended n lane) m it
      as_it_was m it h = record { records = h.records; there = h.there; each = h.each }

  pub over_kept : (first : First) (lane : Lane) (n : ℕ) (job : Job) → IsTied files first lane → job_over n lane ≡ Some job → IsTied files first (ended n lane)
  over_kept first lane n job t over = ended_kept first lane n t (λ place. none_in_hand first n place lane job t over)

  pub none_kept : (first : First) (lane : Lane) (n : ℕ) → IsTied files first lane → job_of n lane.jobs ≡ None → IsTied files first (ended n lane)
  none_kept first lane n t none = ended_kept first lane n t (λ place. by_count place (in_hand first n place lane) (t.owned n place)) where
    by_count : (place k : ℕ) → (1 ≤ k → IsSome (job_of n lane.jobs)) → k ≡ 0
    by_count place zero f = refl
    by_count place (suc k) f = absurd (let there : is_some (job_of n lane.jobs) ≡ true = f (omega arith) in let nothing : is_some (job_of n lane.jobs) ≡ false = ap (λ o. is_some o) none in cc)
