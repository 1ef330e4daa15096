-- What each event of a channel keeps.
use Rattle.std.proofs.Common.{◌≡◌, ℕ, ◌+◌, ◌≤◌, ◌<◌, List, [], ◌∷◌, length, get_or, set, drop, Bool, true, false, cond, Option, Some, None, refl, sym, ap, ◌∙◌, subst, ⊎_elim, arith, count_by}
use Rattle.std.specs.Prelude.{◌&&◌, ◌==◌, if◌then◌else◌, All, Contains, IfSome, IsSome, is_some, slice_get}
use Rattle.std.specs.Option.{option_map}
use Rattle.std.proofs.lemmas.Bool.{and_from, and_parts, cases_Bool, cases_lt, eq-eqb, eqb-true, ne_eqb}
use Rattle.std.proofs.lemmas.List.{get_or_default, get_or_past}
use Rattle.std.proofs.lemmas.List.Elements.{All-contains, All-drop, All-push, All-set, All-tail, All-weaker}
use Rattle.envelope_records.specs.declared.channel.Record.{Record}
use Rattle.send_jobs.specs.declared.attempts.Attempt.{Attempt}
use Rattle.send_jobs.specs.declared.attempts.Mark.{Mark}
use Rattle.send_jobs.specs.declared.jobs.Job.{Job}
use Rattle.send_jobs.specs.declared.lane.Lane.{Lane}
use Rattle.send_jobs.specs.Jobs.{is_job_of, job_of, unmark, unmarked_if}
use Rattle.send_jobs.specs.Lanes.{left_unmarked, mark_settled, next, numbered, owes, reported, sent, sent_in}
use Rattle.send_jobs.specs.Slots.{IsLeastFree, attempt_in, lowest}
use Rattle.send_jobs.proofs.JobLemmas.{job_unmarked}
use Rattle.send_jobs.proofs.SlotLemmas.{lowest_is_least}
use Rattle.program_law.specs.Channel.Files.{Files, IsOpen}
use Rattle.program_law.specs.Channel.Tied.{First, IsAccounted, IsSettled, IsTied, in_hand, is_at, is_mark_at, is_slot_at, unwritten, waiting}
use Rattle.program_law.specs.Channel.Tied.First.{Unwritten, Unsure, Written}
use Rattle.program_law.specs.Channel.Tied.IsSettled.{IsDone, IsSpoilt, IsHeld}
use Rattle.program_law.specs.Channel.Laws.{IsAlone}
use Rattle.program_law.proofs.Channel.Counts.{all_where, at_head, contained_counts, counted_drop, counted_first, counted_push, counted_set, in_drop}

-- Places

pub at_itself : (a : Attempt) → is_at a.n a.place a ≡ true
at_itself a = and_from (a.n == a.n) (a.place == a.place) (eq-eqb a.n a.n refl) (eq-eqb a.place a.place refl)

pub at_same : (a b : Attempt) → b.n ≡ a.n → b.place ≡ a.place → is_at a.n a.place b ≡ true
at_same a b e f = and_from (b.n == a.n) (b.place == a.place) (eq-eqb b.n a.n e) (eq-eqb b.place a.place f)

pub at_number : (n place : ℕ) (a : Attempt) → is_at n place a ≡ true → a.n ≡ n
at_number n place a h = eqb-true a.n n (and_parts (a.n == n) (a.place == place) h).0

pub at_place : (n place : ℕ) (a : Attempt) → is_at n place a ≡ true → a.place ≡ place
at_place n place a h = eqb-true a.place place (and_parts (a.n == n) (a.place == place) h).1

pub off_number : (n place : ℕ) (a : Attempt) → (a.n ≡ n → ⊥) → is_at n place a ≡ false
off_number n place a ne = ap (λ b. b && (a.place == place)) (ne_eqb a.n n ne)

pub off_place : (n place : ℕ) (a : Attempt) → (a.place ≡ place → ⊥) → is_at n place a ≡ false
off_place n place a ne = ⊎_elim
    (λ yes. absurd (ne (at_place n place a yes)))
    (λ no. no)
    (cases_Bool (is_at n place a))

pub some_is : {A : Type 0} (x y : A) → ◌≡◌ {A = Option A} (Some x) (Some y) → x ≡ y
some_is x y e = cc

abbrev pub HereIf : Bool → ℕ
HereIf b = cond b 1 0

-- Slots

inside : (slots : List (Option Attempt)) (slot : ℕ) (a : Attempt) → attempt_in slots slot ≡ Some a → slot < length slots
inside slots slot a there = ⊎_elim
    (λ lt. lt)
    (λ ge. let free : attempt_in slots slot ≡ None = get_or_past slots slot None ge in absurd (cc))
    (cases_lt slot (length slots))

-- an attempt in flight counts
flying : (n place slot : ℕ) (slots : List (Option Attempt)) (a : Attempt) → attempt_in slots slot ≡ Some a → is_at n place a ≡ true → 1 ≤ count_by (is_slot_at n place) slots
flying n place slot slots a there e =
    contained_counts (is_slot_at n place) slots (Some a) (slot, inside slots slot a there, reads) e
  where
    reads : get_or slots slot (Some a) ≡ Some a
    reads = get_or_default slots slot (Some a) None (inside slots slot a there) ∙ there

-- What stays as it is, when as many are in hand

module _ (files : Files) where
  abbrev Open : Attempt → Type 0
  Open a = IsOpen files a

  abbrev OpenIn : Option Attempt → Type 0
  OpenIn s = IfSome s (IsOpen files)

  abbrev OpenMark : Mark → Type 0
  OpenMark m = IsOpen files m.attempt

  settled_as : (job : Job) (h k : ℕ) (r : Record) → (1 ≤ h → 1 ≤ k) → IsSettled job h r → IsSettled job k r
  settled_as job h k r f (IsDone e) = IsDone e
  settled_as job h k r f (IsSpoilt e) = IsSpoilt e
  settled_as job h k r f (IsHeld le) = IsHeld (f le)

  -- the file is accounted for by other hands
  abbrev accounted_as : (first then_first : First) (lane after : Lane) (n : ℕ) (job : Job) → ((place : ℕ) → 1 ≤ in_hand first n place lane → 1 ≤ in_hand then_first n place after)
      → IsAccounted files first lane n job → IsAccounted files then_first after n job
  accounted_as first then_first lane after n job f it = record {
    records = it.records;
    there = it.there;
    each = All-weaker (λ r. IsSettled job (in_hand first n r.place lane) r) (λ r. IsSettled job (in_hand then_first n r.place after) r)
        (λ r s. settled_as job (in_hand first n r.place lane) (in_hand then_first n r.place after) r (f r.place) s) it.records it.each;
  }

  -- the jobs stay, and as many are in hand
  pub same_hands : (first then_first : First) (lane after : Lane) → All Open after.left → All OpenIn after.slots → All OpenMark (unwritten then_first after.marks)
      → ((a : Attempt) → next after ≡ Some a → All (λ b. b.n ≡ a.n) after.left) → after.jobs ≡ lane.jobs
      → ((n place : ℕ) → in_hand then_first n place after ≡ in_hand first n place lane) → IsTied files first lane → IsTied files then_first after
  same_hands first then_first lane after to_come in_flight to_mark of_one jobs same t = record {
    to_come = to_come;
    in_flight = in_flight;
    to_mark = to_mark;
    of_one = of_one;
    once = λ n place. let e = same n place in let le = t.once n place in omega (arith, e, le);
    owned = λ n place le. ap (λ j. is_some (job_of n j)) jobs ∙ t.owned n place (let e = same n place in omega (arith, e, le));
    accounted = λ n job e. accounted_as first then_first lane after n job (λ place le. let e = same n place in omega (arith, e, le)) (t.accounted n job (sym (ap (job_of n) jobs) ∙ e));
  }

  -- An attempt isn't in hand any more, and its record stays `T`

  pub job_number : (n : ℕ) (jobs : List Job) (job : Job) → job_of n jobs ≡ Some job → job.n ≡ n
  job_number n [] job e = absurd (cc)
  job_number n (j ∷ jobs) job e = ⊎_elim
      (λ yes. let same : j ≡ job = some_is j job (sym (ap (λ t. cond t (Some j) (job_of n jobs)) yes) ∙ e) in sym (ap (λ (x : Job). x.n) same) ∙ eqb-true j.n n yes)
      (λ no. job_number n jobs job (sym (ap (λ t. cond t (Some j) (job_of n jobs)) no) ∙ e))
      (cases_Bool (is_job_of n j))

  spoilt_is : (m : ℕ) (job : Job) → job.n ≡ m → (unmarked_if m job).unmarked ≡ true
  spoilt_is m job e = ap (λ t. (cond t (record job { unmarked = true }) job).unmarked) (eq-eqb job.n m e)

  mapped_some : (f : Job → Job) (o : Option Job) (job : Job) → option_map f o ≡ Some job → (j : Job) × (o ≡ Some j) × (f j ≡ job)
  mapped_some f None job e = absurd (cc)
  mapped_some f (Some j) job e = (j, refl, some_is (f j) job e)

  still_some : (f : Job → Job) (o : Option Job) → IsSome o → IsSome (option_map f o)
  still_some f None h = absurd (cc)
  still_some f (Some j) h = refl

  if_taken : {A : Type 0} (b : Bool) (x y z : A) → b ≡ true → cond b x y ≡ z → x ≡ z
  if_taken b x y z is e = sym (ap (λ t. cond t x y) is) ∙ e

  if_passed : {A : Type 0} (b : Bool) (x y z : A) → b ≡ false → cond b x y ≡ z → y ≡ z
  if_passed b x y z is e = sym (ap (λ t. cond t x y) is) ∙ e

  still_owned : (m n : ℕ) (jobs : List Job) → IsSome (job_of n jobs) → IsSome (job_of n (unmark m jobs))
  still_owned m n jobs h = ap (λ o. is_some o) (job_unmarked m n jobs) ∙ ⊎_elim
      (λ yes. ap (λ t. is_some (cond t (option_map (unmarked_if m) (job_of n jobs)) (job_of n jobs))) yes ∙ still_some (unmarked_if m) (job_of n jobs) h)
      (λ no. ap (λ t. is_some (cond t (option_map (unmarked_if m) (job_of n jobs)) (job_of n jobs))) no ∙ h)
      (cases_Bool (m == n))

  apart_of : (m n : ℕ) → (m == n) ≡ false → m ≡ n → ⊥
  apart_of m n off same = let on : (m == n) ≡ true = eq-eqb m n same in absurd (cc)

  -- of another message, and of that one
  abbrev other_message : (first then_first : First) (lane after : Lane) (a : Attempt) → ((n place : ℕ) → in_hand first n place lane ≤ in_hand then_first n place after + HereIf (is_at n place a))
      → (n : ℕ) (job : Job) → (a.n ≡ n → ⊥) → IsAccounted files first lane n job → IsAccounted files then_first after n job
  other_message first then_first lane after a less n job apart it = accounted_as first then_first lane after n job
      (λ place le. let low = less n place in let none : ◌≡◌ {A = ℕ} (HereIf (is_at n place a)) 0 = ap HereIf (off_number n place a apart) in omega (arith, low, none, le)) it

  abbrev that_message : (first then_first : First) (lane after : Lane) (m n : ℕ) (job was : Job) → was.n ≡ m → unmarked_if m was ≡ job
      → IsAccounted files first lane n was → IsAccounted files then_first after n job
  that_message first then_first lane after m n job was on e it = record {
    records = it.records;
    there = it.there;
    each = All-weaker (λ r. IsSettled was (in_hand first n r.place lane) r) (λ r. IsSettled job (in_hand then_first n r.place after) r)
        (λ r s. IsSpoilt (sym (ap (λ (x : Job). x.unmarked) e) ∙ spoilt_is m was on)) it.records it.each;
  }

  abbrev by_message : (first then_first : First) (lane after : Lane) (a : Attempt) → ((n place : ℕ) → in_hand first n place lane ≤ in_hand then_first n place after + HereIf (is_at n place a))
      → IsTied files first lane → (n : ℕ) (job : Job) → (if a.n == n then option_map (unmarked_if a.n) (job_of n lane.jobs) else job_of n lane.jobs) ≡ Some job → IsAccounted files then_first after n job
  by_message first then_first lane after a less t n job e = ⊎_elim
      (λ yes.
      let it : (j : Job) × (job_of n lane.jobs ≡ Some j) × (unmarked_if a.n j ≡ job) =
      mapped_some (unmarked_if a.n) (job_of n lane.jobs) job (if_taken (a.n == n) (option_map (unmarked_if a.n) (job_of n lane.jobs)) (job_of n lane.jobs) (Some job) yes e) in
      that_message first then_first lane after a.n n job it.0 (job_number n lane.jobs it.0 it.1 ∙ sym (eqb-true a.n n yes)) it.2 (t.accounted n it.0 it.1))
      (λ no.
      other_message first then_first lane after a less n job (apart_of a.n n no)
      (t.accounted n job (if_passed (a.n == n) (option_map (unmarked_if a.n) (job_of n lane.jobs)) (job_of n lane.jobs) (Some job) no e)))
      (cases_Bool (a.n == n))

  pub fewer_hands : (first then_first : First) (lane after : Lane) (a : Attempt) → All Open after.left → All OpenIn after.slots → All OpenMark (unwritten then_first after.marks)
      → ((b : Attempt) → next after ≡ Some b → All (λ c. c.n ≡ b.n) after.left) → after.jobs ≡ unmark a.n lane.jobs
      → ((n place : ℕ) → in_hand then_first n place after ≤ in_hand first n place lane)
      → ((n place : ℕ) → in_hand first n place lane ≤ in_hand then_first n place after + HereIf (is_at n place a))
      → IsTied files first lane → IsTied files then_first after
  fewer_hands first then_first lane after a to_come in_flight to_mark of_one jobs fewer less t = record {
    to_come = to_come;
    in_flight = in_flight;
    to_mark = to_mark;
    of_one = of_one;
    once = λ n place. let e = fewer n place in let le = t.once n place in omega (arith, e, le);
    owned = λ n place le. ap (λ j. is_some (job_of n j)) jobs ∙ still_owned a.n n lane.jobs (t.owned n place (let e = fewer n place in omega (arith, e, le)));
    accounted = λ n job e. by_message first then_first lane after a less t n job (sym (job_unmarked a.n n lane.jobs) ∙ sym (ap (job_of n) jobs) ∙ e);
  }

  -- What is left of a list

  first_of : {A : Type 0} (xs : List A) (x : A) → slice_get xs 0 ≡ Some x → Contains xs x
  first_of [] x e = absurd (cc)
  first_of (y ∷ xs) x e = subst (λ z. Contains (y ∷ xs) z) (some_is y x e) (at_head y xs)

  -- the rest of a pass is of the same message
  rest_of_one : (left : List Attempt) → ((a : Attempt) → slice_get left 0 ≡ Some a → All (λ b. b.n ≡ a.n) left) → (a : Attempt) → slice_get (drop 1 left) 0 ≡ Some a → All (λ b. b.n ≡ a.n) (drop 1 left)
  rest_of_one [] h a e = absurd (cc)
  rest_of_one (x ∷ left) h a e =
      let all : All (λ b. b.n ≡ x.n) left = All-tail (λ b. b.n ≡ x.n) x left (h x refl) in
      let second : a.n ≡ x.n = All-contains (λ b. b.n ≡ x.n) left a all (first_of left a e) in
      All-weaker (λ b. b.n ≡ x.n) (λ b. b.n ≡ a.n) (λ b same. same ∙ sym second) left all

  -- A request

  abbrev out : ℕ → ℕ → Attempt → Lane → Lane
  out delivery slot a lane = record lane { left = drop 1 lane.left; slots = set lane.slots slot (Some (numbered delivery a)) }

  sent_is : (delivery slot : ℕ) (a : Attempt) (lane : Lane) → next lane ≡ Some a → lowest lane.slots ≡ Some slot → sent delivery lane ≡ out delivery slot a lane
  sent_is delivery slot a lane first low = ap (λ o. sent_in o (next lane) delivery lane) low ∙ ap (λ o. sent_in (Some slot) o delivery lane) first

  low_is : (slots : List (Option Attempt)) (slot : ℕ) → lowest slots ≡ Some slot → (slot < length slots) × (attempt_in slots slot ≡ None)
  low_is slots slot low = let it = subst (IsLeastFree slots) low (lowest_is_least slots) in (it.0, it.1)

  out_hands : (first : First) (delivery slot : ℕ) (a : Attempt) (lane : Lane) → next lane ≡ Some a → slot < length lane.slots → attempt_in lane.slots slot ≡ None
      → (n place : ℕ) → in_hand first n place (out delivery slot a lane) ≡ in_hand first n place lane
  out_hands first delivery slot a lane there lt free n place =
      let left = counted_first (is_at n place) lane.left a there in
      let slots = counted_set (is_slot_at n place) lane.slots slot (Some (numbered delivery a)) None lt in
      let none : ◌≡◌ {A = ℕ} (HereIf (is_slot_at n place (attempt_in lane.slots slot))) 0 = ap (λ s. HereIf (is_slot_at n place s)) free in
      omega (arith, left, slots, none)

  pub request_kept : (first : First) (lane : Lane) (delivery slot : ℕ) (a : Attempt) → IsTied files first lane → next lane ≡ Some a → lowest lane.slots ≡ Some slot
      → IsOpen files a × IsAlone a lane × IsTied files first (sent delivery lane)
  request_kept first lane delivery slot a t there low =
      let free : (slot < length lane.slots) × (attempt_in lane.slots slot ≡ None) = low_is lane.slots slot low in
      let unmade : IsOpen files a = All-contains Open lane.left a t.to_come (first_of lane.left a there) in (
        unmade,
        (λ k b at e f.
            let left = contained_counts (is_at a.n a.place) lane.left a (first_of lane.left a there) (at_itself a) in
            let slots = flying a.n a.place k lane.slots b at (at_same a b e f) in
            let le = t.once a.n a.place in
            absurd (omega (arith, left, slots, le))),
        subst (IsTied files first) (sym (sent_is delivery slot a lane there low))
            (same_hands first first lane (out delivery slot a lane) (All-drop Open 1 lane.left t.to_come) (All-set OpenIn lane.slots slot (Some (numbered delivery a)) (numbered_open delivery unmade) t.in_flight) t.to_mark
            (rest_of_one lane.left t.of_one) refl (out_hands first delivery slot a lane there free.0 free.1) t),
      )
    where
      numbered_open : (delivery : ℕ) → IsOpen files a → IsOpen files (numbered delivery a)
      numbered_open delivery o = record { records = o.records; there = o.there; reads = o.reads }

  -- A report

  free_hands : (slot : ℕ) (a : Attempt) (lane : Lane) → attempt_in lane.slots slot ≡ Some a
      → (n place : ℕ) → count_by (is_slot_at n place) (set lane.slots slot None) + HereIf (is_at n place a) ≡ count_by (is_slot_at n place) lane.slots
  free_hands slot a lane there n place =
      let slots = counted_set (is_slot_at n place) lane.slots slot None None (inside lane.slots slot a there) in
      let one : ◌≡◌ {A = ℕ} (HereIf (is_slot_at n place (attempt_in lane.slots slot))) (HereIf (is_at n place a)) = ap (λ s. HereIf (is_slot_at n place s)) there in
      omega (arith, slots, one)

  freed_open : (slot : ℕ) (slots : List (Option Attempt)) → All OpenIn slots → All OpenIn (set slots slot None)
  freed_open slot slots h = All-set OpenIn slots slot None tt h

  in_slot_open : (slots : List (Option Attempt)) (slot : ℕ) (a : Attempt) → attempt_in slots slot ≡ Some a → All OpenIn slots → IsOpen files a
  in_slot_open slots slot a there h = subst OpenIn there (h slot None (inside slots slot a there))

  pub report_kept : (lane : Lane) (slot : ℕ) (a : Attempt) (m : Mark) → IsTied files Unwritten lane → attempt_in lane.slots slot ≡ Some a → m.attempt ≡ a
      → IsTied files Unwritten (owes m (reported slot lane)) × IsTied files Unwritten (left_unmarked a.n (reported slot lane))
  report_kept lane slot a m t there same = (
    same_hands Unwritten Unwritten lane (owes m (reported slot lane)) t.to_come (freed_open slot lane.slots t.in_flight)
        (All-push OpenMark lane.marks m t.to_mark (subst (IsOpen files) (sym same) (in_slot_open lane.slots slot a there t.in_flight))) t.of_one refl
        (λ n place.
        let slots = free_hands slot a lane there n place in
        let marks = counted_push (is_mark_at n place) lane.marks m in
        let one : ◌≡◌ {A = ℕ} (HereIf (is_mark_at n place m)) (HereIf (is_at n place a)) = ap (λ x. HereIf (is_at n place x)) same in
        omega (arith, slots, marks, one)) t,
    fewer_hands Unwritten Unwritten lane (left_unmarked a.n (reported slot lane)) a t.to_come (freed_open slot lane.slots t.in_flight) t.to_mark t.of_one refl
        (λ n place. let slots = free_hands slot a lane there n place in omega (arith, slots))
        (λ n place. let slots = free_hands slot a lane there n place in omega (arith, slots)) t,
  )

  -- A mark that is over

  pub made_kept : (lane : Lane) → IsTied files Written lane → IsTied files Unwritten (mark_settled lane)
  made_kept lane t = same_hands Written Unwritten lane (mark_settled lane) t.to_come t.in_flight t.to_mark t.of_one refl (λ n place. refl) t

  pub unsure_kept : (lane : Lane) → IsTied files Unwritten lane → IsTied files Unsure lane
  unsure_kept lane t = same_hands Unwritten Unsure lane lane t.to_come t.in_flight (All-drop OpenMark 1 lane.marks t.to_mark) t.of_one refl (λ n place. refl) t

  later_open : (first : First) (lane : Lane) → All OpenMark (unwritten first lane.marks) → All OpenMark (drop 1 lane.marks)
  later_open Unwritten lane h = All-drop OpenMark 1 lane.marks h
  later_open Unsure lane h = h
  later_open Written lane h = h

  given_up_fewer : (first : First) (lane : Lane) (n place : ℕ) → in_hand Unwritten n place (mark_settled lane) ≤ in_hand first n place lane
  given_up_fewer Unwritten lane n place = let e = counted_drop (is_mark_at n place) lane.marks in omega (arith, e)
  given_up_fewer Unsure lane n place = let e = counted_drop (is_mark_at n place) lane.marks in omega (arith, e)
  given_up_fewer Written lane n place = omega arith

  given_up_less : (first : First) (lane : Lane) (m : Mark) → slice_get lane.marks 0 ≡ Some m → (n place : ℕ) → in_hand first n place lane ≤ in_hand Unwritten n place (mark_settled lane) + HereIf (is_at n place m.attempt)
  given_up_less Unwritten lane m there n place = let e = counted_first (is_mark_at n place) lane.marks m there in omega (arith, e)
  given_up_less Unsure lane m there n place = let e = counted_first (is_mark_at n place) lane.marks m there in omega (arith, e)
  given_up_less Written lane m there n place = omega arith

  pub given_up_kept : (first : First) (lane : Lane) (m : Mark) → IsTied files first lane → slice_get lane.marks 0 ≡ Some m → IsTied files Unwritten (left_unmarked m.attempt.n (mark_settled lane))
  given_up_kept first lane m t there = fewer_hands first Unwritten lane (left_unmarked m.attempt.n (mark_settled lane)) m.attempt t.to_come t.in_flight (later_open first lane t.to_mark) t.of_one refl
      (given_up_fewer first lane) (given_up_less first lane m there) t

  -- Other files

  in_waiting : (first : First) (marks : List Mark) (m : Mark) → Contains (unwritten first marks) m → Contains (waiting first marks) m
  in_waiting Unwritten marks m h = h
  in_waiting Unsure marks m h = in_drop marks m h
  in_waiting Written marks m h = h

  held_left : (first : First) (lane : Lane) (b : Attempt) → Contains lane.left b → 1 ≤ in_hand first b.n b.place lane
  held_left first lane b w = let one = contained_counts (is_at b.n b.place) lane.left b w (at_itself b) in omega (arith, one)

  held_slot : (first : First) (lane : Lane) (b : Attempt) → Contains lane.slots (Some b) → 1 ≤ in_hand first b.n b.place lane
  held_slot first lane b w = let one = contained_counts (is_slot_at b.n b.place) lane.slots (Some b) w (at_itself b) in omega (arith, one)

  held_mark : (first : First) (lane : Lane) (m : Mark) → Contains (unwritten first lane.marks) m → 1 ≤ in_hand first m.attempt.n m.attempt.place lane
  held_mark first lane m w =
      let one = contained_counts (is_mark_at m.attempt.n m.attempt.place) (waiting first lane.marks) m (in_waiting first lane.marks m w) (at_itself m.attempt) in
      omega (arith, one)

pub others_kept : (files after : Files) (first : First) (lane : Lane) → IsTied files first lane → ((n : ℕ) → IsSome (job_of n lane.jobs) → after n ≡ files n) → IsTied after first lane
others_kept files after first lane t same = record {
  to_come = all_where (IsOpen files) (IsOpen after) lane.left (λ b w o. still b (held_left files first lane b w) o) t.to_come;
  in_flight = all_where (λ s. IfSome s (IsOpen files)) (λ s. IfSome s (IsOpen after)) lane.slots in_slot t.in_flight;
  to_mark = all_where (λ m. IsOpen files m.attempt) (λ m. IsOpen after m.attempt) (unwritten first lane.marks) (λ m w o. still m.attempt (held_mark files first lane m w) o) t.to_mark;
  of_one = t.of_one;
  once = t.once;
  owned = t.owned;
  accounted = λ n job e. let it = t.accounted n job e in record { records = it.records; there = same n (ap (λ o. is_some o) e) ∙ it.there; each = it.each };
}
  where
    still : (b : Attempt) → 1 ≤ in_hand first b.n b.place lane → IsOpen files b → IsOpen after b
    still b le o = record { records = o.records; there = same b.n (t.owned b.n b.place le) ∙ o.there; reads = o.reads }

    in_slot : (s : Option Attempt) → Contains lane.slots s → IfSome s (IsOpen files) → IfSome s (IsOpen after)
    in_slot None w o = tt
    in_slot (Some b) w o = still b (held_slot files first lane b w) o
