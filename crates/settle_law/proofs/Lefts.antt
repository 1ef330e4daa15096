-- What each event of a channel leaves of the places that jobs left `T`.
use Rattle.std.proofs.Common.{◌≡◌, ℕ, ◌+◌, ◌≤◌, ◌<◌, List, [], ◌∷◌, length, set, Bool, true, false, Option, Some, None, refl, sym, ap, ◌∙◌, subst, ⊎_elim, arith, count_by}
use Rattle.std.specs.Prelude.{◌==◌, if◌then◌else◌, IsSome, IfSome, is_some, slice_get, All}
use Rattle.std.specs.Option.{option_map}
use Rattle.std.proofs.lemmas.Bool.{cases_Bool, cases_lt, eq-eqb, eqb-true}
use Rattle.std.proofs.lemmas.List.{get_or_past}
use Rattle.envelope_records.specs.declared.channel.Record.{Record}
use Rattle.program_law.proofs.Channel.Counts.{counted_cons, counted_drop, counted_first, counted_push, counted_set}
use Rattle.program_law.proofs.Channel.Marks.{still_open}
use Rattle.program_law.proofs.Channel.Ties.{HereIf, at_itself, at_same, off_number}
use Rattle.program_law.specs.Channel.Files.{Files, IsOpen, with_mark}
use Rattle.program_law.specs.Channel.Tied.{First, IsTied, in_hand, is_at, is_mark_at, is_slot_at}
use Rattle.program_law.specs.Channel.Tied.First.{Unwritten, Written}
use Rattle.send_jobs.proofs.JobLemmas.{job_put, job_unmarked, job_without}
use Rattle.send_jobs.proofs.SlotLemmas.{lowest_is_least}
use Rattle.send_jobs.specs.Jobs.{job_of, new_job, unmark, unmarked_if}
use Rattle.send_jobs.specs.Lanes.{begun_by, ended, left_unmarked, mark_settled, next, numbered, owes, reported, sent, sent_in}
use Rattle.send_jobs.specs.Passes.{attempt_at, attempts_of}
use Rattle.send_jobs.specs.Slots.{IsLeastFree, attempt_in, lowest}
use Rattle.send_jobs.specs.declared.attempts.Attempt.{Attempt}
use Rattle.send_jobs.specs.declared.attempts.Mark.{Mark}
use Rattle.send_jobs.specs.declared.jobs.Job.{Job}
use Rattle.send_jobs.specs.declared.lane.Lane.{Lane}
use Rattle.settle_law.specs.inside.Lefts.{AreLeft, HasLeft, LeftsKeep}

inside : (slots : List (Option Attempt)) (slot : ℕ) (a : Attempt) → attempt_in slots slot ≡ Some a → slot < length slots
inside slots slot a there = ⊎_elim
    (λ lt. lt)
    (λ ge. let free : attempt_in slots slot ≡ None = get_or_past slots slot None ge in absurd (cc))
    (cases_lt slot (length slots))

-- a pass of one message has no attempt at another
none_of : (m place n : ℕ) (dying : Bool) (rs : List Record) → (n ≡ m → ⊥) → count_by (is_at m place) (attempts_of n dying rs) ≡ 0
none_of m place n dying [] far = refl
none_of m place n dying (r ∷ rs) far = by r.done r.place r.address (none_of m place n dying rs far) where
  by : (done : Bool) (at : ℕ) (address : List ℕ) → count_by (is_at m place) (attempts_of n dying rs) ≡ 0
      → count_by (is_at m place) (attempts_of n dying (record { done = done; place = at; address = address } ∷ rs)) ≡ 0
  by true at address none = none
  by false at address none =
      let it : Attempt = attempt_at n dying (record { done = false; place = at; address = address }) in
      let sum = counted_cons (is_at m place) it (attempts_of n dying rs) in
      let out : ◌≡◌ {A = ℕ} (HereIf (is_at m place it)) 0 = ap HereIf (off_number m place it far) in
      omega (arith, sum, out, none)

module _ (files : Files) where
  fewer_left : (first then_first : First) (lane after : Lane) (n : ℕ) → ((place : ℕ) → in_hand then_first n place after ≤ in_hand first n place lane) → HasLeft files first lane n
      → HasLeft files then_first after n
  fewer_left first then_first lane after n fewer it =
      record { spot = it.spot; of = it.of; reads = it.reads; free = let le = fewer it.spot.place in let none = it.free in omega (arith, le, none) }

  same_jobs : (first then_first : First) (lane after : Lane) → after.jobs ≡ lane.jobs → ((n place : ℕ) → in_hand then_first n place after ≤ in_hand first n place lane) → AreLeft files first lane
      → AreLeft files then_first after
  same_jobs first then_first lane after jobs fewer h n job there spoilt = fewer_left first then_first lane after n (fewer n) (h n job (sym (ap (job_of n) jobs) ∙ there) spoilt)

  -- A pass begins

  begun_left : (lane : Lane) (n begun : ℕ) (dying : Bool) (records : List Record) → next lane ≡ None → AreLeft files Unwritten lane → AreLeft files Unwritten (begun_by n records begun dying lane)
  begun_left lane n begun dying records none h m job there spoilt = ⊎_elim
      (λ (on : (n == m) ≡ true). absurd (fresh on))
      (λ (off : (n == m) ≡ false). fewer_left Unwritten Unwritten lane (begun_by n records begun dying lane) m
      (λ place. let out = none_of m place n dying records (λ same. let on : (n == m) ≡ true = eq-eqb n m same in absurd (cc)) in omega (arith, out))
      (h m job (sym (ap (λ (b : Bool). if b then Some (new_job n begun) else job_of m lane.jobs) off) ∙ put) spoilt))
      (cases_Bool (n == m))
    where
      put : (if n == m then Some (new_job n begun) else job_of m lane.jobs) ≡ Some job
      put = sym (job_put (new_job n begun) m lane.jobs) ∙ there

      left_one : Option Job → Bool
      left_one None = false
      left_one (Some j) = j.unmarked

      fresh : (n == m) ≡ true → ⊥
      fresh on = let e : false ≡ true = ap left_one (sym (ap (λ (b : Bool). if b then Some (new_job n begun) else job_of m lane.jobs) on) ∙ put) ∙ spoilt in absurd (cc)

  -- A request

  sent_left : (first : First) (lane : Lane) (delivery : ℕ) → AreLeft files first lane → AreLeft files first (sent delivery lane)
  sent_left first lane delivery h = by (lowest lane.slots) (next lane) refl refl where
    by : (o : Option ℕ) (a : Option Attempt) → lowest lane.slots ≡ o → next lane ≡ a → AreLeft files first (sent_in o a delivery lane)
    by None a low there = h
    by (Some slot) None low there = h
    by (Some slot) (Some a) low there = same_jobs first first lane (sent_in (Some slot) (Some a) delivery lane) refl hands h where
      least : IsLeastFree lane.slots (Some slot)
      least = subst (IsLeastFree lane.slots) low (lowest_is_least lane.slots)

      hands : (n place : ℕ) → in_hand first n place (sent_in (Some slot) (Some a) delivery lane) ≤ in_hand first n place lane
      hands n place =
          let left = counted_first (is_at n place) lane.left a there in
          let slots = counted_set (is_slot_at n place) lane.slots slot (Some (numbered delivery a)) None least.0 in
          let none : ◌≡◌ {A = ℕ} (HereIf (is_slot_at n place (attempt_in lane.slots slot))) 0 = ap (λ s. HereIf (is_slot_at n place s)) least.1 in
          omega (arith, left, slots, none)

  -- A report

  free_hands : (slot : ℕ) (a : Attempt) (lane : Lane) → attempt_in lane.slots slot ≡ Some a
      → (n place : ℕ) → count_by (is_slot_at n place) (set lane.slots slot None) + HereIf (is_at n place a) ≡ count_by (is_slot_at n place) lane.slots
  free_hands slot a lane there n place =
      let slots = counted_set (is_slot_at n place) lane.slots slot None None (inside lane.slots slot a there) in
      let one : ◌≡◌ {A = ℕ} (HereIf (is_slot_at n place (attempt_in lane.slots slot))) (HereIf (is_at n place a)) = ap (λ s. HereIf (is_slot_at n place s)) there in
      omega (arith, slots, one)

  owed_left : (lane : Lane) (slot : ℕ) (a : Attempt) (m : Mark) → attempt_in lane.slots slot ≡ Some a → m.attempt ≡ a → AreLeft files Unwritten lane → AreLeft files Unwritten (owes m (reported slot lane))
  owed_left lane slot a m there same h = same_jobs Unwritten Unwritten lane (owes m (reported slot lane)) refl
      (λ n place.
      let slots = free_hands slot a lane there n place in
      let marks = counted_push (is_mark_at n place) lane.marks m in
      let one : ◌≡◌ {A = ℕ} (HereIf (is_mark_at n place m)) (HereIf (is_at n place a)) = ap (λ x. HereIf (is_at n place x)) same in
      omega (arith, slots, marks, one)) h

  -- An attempt at a record that reads `T` isn't in hand any more, and its message's job left that.
  spoilt_left : (lane after : Lane) (a : Attempt) → after.jobs ≡ unmark a.n lane.jobs → IsOpen files a → in_hand Unwritten a.n a.place after ≡ 0
      → ((n place : ℕ) → in_hand Unwritten n place after ≤ in_hand Unwritten n place lane) → AreLeft files Unwritten lane → AreLeft files Unwritten after
  spoilt_left lane after a jobs reads free fewer h n job there spoilt = ⊎_elim
      (λ (on : (a.n == n) ≡ true). let same : a.n ≡ n = eqb-true a.n n on in
      record { spot = a; of = same; reads = reads; free = subst (λ (k : ℕ). in_hand Unwritten k a.place after ≡ 0) same free })
      (λ (off : (a.n == n) ≡ false). fewer_left Unwritten Unwritten lane after n (fewer n)
      (h n job (sym (ap (λ (b : Bool). if b then option_map (unmarked_if a.n) (job_of n lane.jobs) else job_of n lane.jobs) off) ∙ sym (job_unmarked a.n n lane.jobs) ∙ sym (ap (job_of n) jobs) ∙ there) spoilt))
      (cases_Bool (a.n == n))

  deferred_left : (lane : Lane) (slot : ℕ) (a : Attempt) → IsTied files Unwritten lane → attempt_in lane.slots slot ≡ Some a → AreLeft files Unwritten lane
      → AreLeft files Unwritten (left_unmarked a.n (reported slot lane))
  deferred_left lane slot a tied there h = spoilt_left lane (left_unmarked a.n (reported slot lane)) a refl
      (subst (λ (s : Option Attempt). IfSome s (IsOpen files)) there (tied.in_flight slot None (inside lane.slots slot a there)))
      (let slots = free_hands slot a lane there a.n a.place in
      let once = tied.once a.n a.place in
      let one : ◌≡◌ {A = ℕ} (HereIf (is_at a.n a.place a)) 1 = ap HereIf (at_itself a) in
      omega (arith, slots, once, one))
      (λ n place. let slots = free_hands slot a lane there n place in omega (arith, slots)) h

  -- A mark

  written_left : (lane : Lane) (m : Mark) → slice_get lane.marks 0 ≡ Some m → AreLeft files Unwritten lane → AreLeft (with_mark m.attempt files) Written lane
  written_left lane m first h n job there spoilt = record { spot = it.spot; of = it.of; reads = still_open files m it.spot apart it.reads; free = free } where
    it : HasLeft files Unwritten lane n
    it = h n job there spoilt

    apart : it.spot.n ≡ m.attempt.n → it.spot.place ≡ m.attempt.place → ⊥
    apart number place =
        let none = it.free in
        let sum = counted_first (is_mark_at n it.spot.place) lane.marks m first in
        let one : ◌≡◌ {A = ℕ} (HereIf (is_mark_at n it.spot.place m)) 1 =
        ap HereIf (subst (λ (k : ℕ). is_at k it.spot.place m.attempt ≡ true) it.of (at_same it.spot m.attempt (sym number) (sym place))) in
        absurd (omega (arith, none, sum, one))

    free : in_hand Written n it.spot.place lane ≡ 0
    free = let none = it.free in let less = counted_drop (is_mark_at n it.spot.place) lane.marks in omega (arith, none, less)

  made_left : (lane : Lane) → AreLeft files Written lane → AreLeft files Unwritten (mark_settled lane)
  made_left lane h = same_jobs Written Unwritten lane (mark_settled lane) refl (λ n place. omega arith) h

  given_up_left : (lane : Lane) (m : Mark) → IsTied files Unwritten lane → slice_get lane.marks 0 ≡ Some m → AreLeft files Unwritten lane
      → AreLeft files Unwritten (left_unmarked m.attempt.n (mark_settled lane))
  given_up_left lane m tied first h = spoilt_left lane (left_unmarked m.attempt.n (mark_settled lane)) m.attempt refl
      (first_mark lane.marks first tied.to_mark)
      (let sum = counted_first (is_mark_at m.attempt.n m.attempt.place) lane.marks m first in
      let once = tied.once m.attempt.n m.attempt.place in
      let one : ◌≡◌ {A = ℕ} (HereIf (is_at m.attempt.n m.attempt.place m.attempt)) 1 = ap HereIf (at_itself m.attempt) in
      omega (arith, sum, once, one))
      (λ n place. let less = counted_drop (is_mark_at n place) lane.marks in omega (arith, less)) h
    where
      first_mark : (marks : List Mark) → slice_get marks 0 ≡ Some m → All (λ (k : Mark). IsOpen files k.attempt) marks → IsOpen files m.attempt
      first_mark [] e all = absurd (cc)
      first_mark (k ∷ marks) e all = let same : k ≡ m = cc in subst (λ (x : Mark). IsOpen files x.attempt) same (all 0 k (omega arith))

  -- The end of a job, and other files

  over_left : (first : First) (lane : Lane) (n : ℕ) → AreLeft files first lane → AreLeft files first (ended n lane)
  over_left first lane n h m job there spoilt = ⊎_elim
      (λ (on : (n == m) ≡ true). absurd (cc (sym (ap (λ (b : Bool). if b then None else job_of m lane.jobs) on) ∙ gone)))
      (λ (off : (n == m) ≡ false). fewer_left first first lane (ended n lane) m (λ place. omega arith) (h m job (sym (ap (λ (b : Bool). if b then None else job_of m lane.jobs) off) ∙ gone) spoilt))
      (cases_Bool (n == m))
    where
      gone : (if n == m then None else job_of m lane.jobs) ≡ Some job
      gone = sym (job_without n m lane.jobs) ∙ there

  others_left : (after : Files) (first : First) (lane : Lane) → ((n : ℕ) → IsSome (job_of n lane.jobs) → after n ≡ files n) → AreLeft files first lane → AreLeft after first lane
  others_left after first lane same h n job there spoilt =
      let it : HasLeft files first lane n = h n job there spoilt in
      record {
        spot = it.spot;
        of = it.of;
        reads = record {
          records = it.reads.records;
          there = subst (λ (k : ℕ). after k ≡ files k) (sym it.of) (same n (ap (λ (o : Option Job). is_some o) there)) ∙ it.reads.there;
          reads = it.reads.reads;
        };
        free = it.free;
      }

pub lefts_keep : LeftsKeep
lefts_keep = record {
  starts = λ files limit n job there spoilt. absurd (cc);
  begun = begun_left;
  sent = sent_left;
  owed = owed_left;
  deferred = deferred_left;
  written = written_left;
  made = made_left;
  given_up = given_up_left;
  over = over_left;
  others = λ files after first lane same h. others_left files after first lane same h;
}
