-- A mark that is written.
use Rattle.std.proofs.Common.{◌≡◌, ◌≢◌, ◌⊎◌, inl, inr, ℕ, ◌+◌, ◌≤◌, List, drop, true, false, cond, Option, Some, None, refl, sym, ap, ◌∙◌, subst, ⊎_elim, arith, count_by}
use Rattle.std.specs.Prelude.{◌==◌, if◌then◌else◌, All, Contains, IfSome, slice_get}
use Rattle.std.specs.Option.{option_map}
use Rattle.std.proofs.lemmas.Bool.{cases_Bool, eq-eqb, ne_eqb}
use Rattle.std.proofs.lemmas.List.Elements.{All-drop, All-map, All-weaker}
use Rattle.call_fs.proofs.Maps.{put_cases}
use Rattle.envelope_records.specs.declared.channel.Record.{Record}
use Rattle.send_jobs.specs.declared.attempts.Attempt.{Attempt}
use Rattle.send_jobs.specs.declared.attempts.Mark.{Mark}
use Rattle.send_jobs.specs.declared.jobs.Job.{Job}
use Rattle.send_jobs.specs.declared.lane.Lane.{Lane}
use Rattle.program_law.specs.Channel.Files.{Files, IsOpen, marked, marked_if, with_mark}
use Rattle.program_law.specs.Channel.Tied.{First, IsAccounted, IsSettled, IsTied, in_hand, is_at, is_mark_at, is_slot_at, unwritten}
use Rattle.program_law.specs.Channel.Tied.First.{Unwritten, Unsure, Written}
use Rattle.program_law.specs.Channel.Tied.IsSettled.{IsDone, IsSpoilt, IsHeld}
use Rattle.program_law.proofs.Channel.Counts.{all_where, contained_counts, contained_map, counted_first}
use Rattle.program_law.proofs.Channel.Ties.{HereIf, at_itself, at_same, off_number, off_place}

-- The records of a file with a mark

pub marked_far : (place : ℕ) (r : Record) → (r.place ≡ place → ⊥) → marked_if place r ≡ r
marked_far place r ne = ap (λ t. if t then record r { done = true } else r) (ne_eqb r.place place ne)

far_contained : (place : ℕ) (rs : List Record) (r : Record) → (r.place ≡ place → ⊥) → Contains rs r → Contains (marked place rs) r
far_contained place rs r ne h = subst (Contains (marked place rs)) (marked_far place r ne) (contained_map (marked_if place) rs r h)

module _ (files : Files) (m : Mark) where
  abbrev a : Attempt
  a = m.attempt

  -- what the file of that message has then, and what others have
  file_cases : (n : ℕ) → ((n ≡ a.n) × (with_mark a files n ≡ option_map (marked a.place) (files n))) ⊎ ((n ≢ a.n) × (with_mark a files n ≡ files n))
  file_cases n = ⊎_elim
      (λ h. inl (h.0, h.1 ∙ ap (λ k. option_map (marked a.place) (files k)) (sym h.0)))
      (λ h. inr h)
      (put_cases files a.n (option_map (marked a.place) (files a.n)) n)

  -- another record that reads `T` reads it still
  pub still_open : (b : Attempt) → (b.n ≡ a.n → b.place ≢ a.place) → IsOpen files b → IsOpen (with_mark a files) b
  still_open b apart o = ⊎_elim
      (λ h. record {
        records = marked a.place o.records;
        there = h.1 ∙ ap (option_map (marked a.place)) o.there;
        reads = far_contained a.place o.records (record { done = false; place = b.place; address = b.address }) (apart h.0) o.reads;
      })
      (λ h. record { records = o.records; there = h.1 ∙ o.there; reads = o.reads })
      (file_cases b.n)

  -- a record is done then, or is settled as before
  settled_then : (first : First) (lane : Lane) (n : ℕ) (job : Job) (r : Record) → ((place : ℕ) → is_at n place a ≡ false → in_hand Unwritten n place lane ≤ in_hand first n place lane) → n ≡ a.n
      → IsSettled job (in_hand Unwritten n r.place lane) r → IsSettled job (in_hand first n (marked_if a.place r).place lane) (marked_if a.place r)
  settled_then first lane n job r same on s = ⊎_elim
      (λ yes. IsDone (ap (λ t. (cond t (record r { done = true }) r).done) yes))
      (λ no.
      let ne : a.place ≡ r.place → ⊥ = λ e. let on : (r.place == a.place) ≡ true = ap (λ k. k == a.place) (sym e) ∙ at_self a.place in absurd (cc) in
      subst (λ x. IsSettled job (in_hand first n x.place lane) x) (sym (ap (λ t. if t then record r { done = true } else r) no))
      (as_before s (same r.place (off_place n r.place a ne))))
      (cases_Bool (r.place == a.place))
    where
      at_self : (k : ℕ) → (k == k) ≡ true
      at_self k = eq-eqb k k refl

      as_before : IsSettled job (in_hand Unwritten n r.place lane) r → in_hand Unwritten n r.place lane ≤ in_hand first n r.place lane → IsSettled job (in_hand first n r.place lane) r
      as_before (IsDone e) le = IsDone e
      as_before (IsSpoilt e) le = IsSpoilt e
      as_before (IsHeld one) le = IsHeld (omega (arith, one, le))

  settled_there : (first : First) (lane : Lane) (n : ℕ) (job : Job) (r : Record) → ((place : ℕ) → is_at n place a ≡ false → in_hand Unwritten n place lane ≤ in_hand first n place lane) → n ≢ a.n
      → IsSettled job (in_hand Unwritten n r.place lane) r → IsSettled job (in_hand first n r.place lane) r
  settled_there first lane n job r same off (IsDone e) = IsDone e
  settled_there first lane n job r same off (IsSpoilt e) = IsSpoilt e
  settled_there first lane n job r same off (IsHeld one) = let le = same r.place (off_number n r.place a (λ e. off (sym e))) in IsHeld (omega (arith, one, le))

  abbrev accounted_then : (first : First) (lane : Lane) (n : ℕ) (job : Job) → ((place : ℕ) → is_at n place a ≡ false → in_hand Unwritten n place lane ≤ in_hand first n place lane)
      → IsAccounted files Unwritten lane n job → IsAccounted (with_mark a files) first lane n job
  accounted_then first lane n job same it = ⊎_elim
      (λ h. record {
        records = marked a.place it.records;
        there = h.1 ∙ ap (option_map (marked a.place)) it.there;
        each = All-map (λ r. IsSettled job (in_hand first n r.place lane) r) (marked_if a.place) it.records
            (All-weaker (λ r. IsSettled job (in_hand Unwritten n r.place lane) r) (λ r. IsSettled job (in_hand first n (marked_if a.place r).place lane) (marked_if a.place r))
            (λ r s. settled_then first lane n job r same h.0 s) it.records it.each);
      })
      (λ h. record {
        records = it.records;
        there = h.1 ∙ it.there;
        each = All-weaker (λ r. IsSettled job (in_hand Unwritten n r.place lane) r) (λ r. IsSettled job (in_hand first n r.place lane) r) (λ r s. settled_there first lane n job r same h.0 s) it.records it.each;
      })
      (file_cases n)

  module _ (lane : Lane) (t : IsTied files Unwritten lane) (there : slice_get lane.marks 0 ≡ Some m) where
    -- the first mark counts
    counted : (n place : ℕ) → count_by (is_mark_at n place) lane.marks ≡ HereIf (is_at n place a) + count_by (is_mark_at n place) (drop 1 lane.marks)
    counted n place = counted_first (is_mark_at n place) lane.marks m there

    here : count_by (is_mark_at a.n a.place) lane.marks ≡ 1 + count_by (is_mark_at a.n a.place) (drop 1 lane.marks)
    here = let e = counted a.n a.place in let one : ◌≡◌ {A = ℕ} (HereIf (is_at a.n a.place a)) 1 = ap HereIf (at_itself a) in omega (arith, e, one)

    left_apart : (b : Attempt) → Contains lane.left b → b.n ≡ a.n → b.place ≢ a.place
    left_apart b w e f =
        let one = contained_counts (is_at a.n a.place) lane.left b w (at_same a b e f) in
        let le = t.once a.n a.place in
        let first = here in
        absurd (omega (arith, one, le, first))

    slot_apart : (b : Attempt) → Contains lane.slots (Some b) → b.n ≡ a.n → b.place ≢ a.place
    slot_apart b w e f =
        let one = contained_counts (is_slot_at a.n a.place) lane.slots (Some b) w (at_same a b e f) in
        let le = t.once a.n a.place in
        let first = here in
        absurd (omega (arith, one, le, first))

    mark_apart : (k : Mark) → Contains (drop 1 lane.marks) k → k.attempt.n ≡ a.n → k.attempt.place ≢ a.place
    mark_apart k w e f =
        let one = contained_counts (is_mark_at a.n a.place) (drop 1 lane.marks) k w (at_same a k.attempt e f) in
        let le = t.once a.n a.place in
        let first = here in
        absurd (omega (arith, one, le, first))

    in_slot : (s : Option Attempt) → Contains lane.slots s → IfSome s (IsOpen files) → IfSome s (IsOpen (with_mark a files))
    in_slot None w o = tt
    in_slot (Some b) w o = still_open b (slot_apart b w) o

    later_marks : All (λ k. IsOpen (with_mark a files) k.attempt) (drop 1 lane.marks)
    later_marks = all_where (λ k. IsOpen files k.attempt) (λ k. IsOpen (with_mark a files) k.attempt) (drop 1 lane.marks) (λ k w o. still_open k.attempt (mark_apart k w) o)
        (All-drop (λ k. IsOpen files k.attempt) 1 lane.marks t.to_mark)

    wrote : (first : First) → All (λ k. IsOpen (with_mark a files) k.attempt) (unwritten first lane.marks) → ((n place : ℕ) → in_hand first n place lane ≤ in_hand Unwritten n place lane)
        → ((n place : ℕ) → is_at n place a ≡ false → in_hand Unwritten n place lane ≤ in_hand first n place lane) → IsTied (with_mark a files) first lane
    wrote first marks fewer same = record {
      to_come = all_where (IsOpen files) (IsOpen (with_mark a files)) lane.left (λ b w o. still_open b (left_apart b w) o) t.to_come;
      in_flight = all_where (λ s. IfSome s (IsOpen files)) (λ s. IfSome s (IsOpen (with_mark a files))) lane.slots in_slot t.in_flight;
      to_mark = marks;
      of_one = t.of_one;
      once = λ n place. let le = t.once n place in let less = fewer n place in omega (arith, le, less);
      owned = λ n place one. t.owned n place (let less = fewer n place in omega (arith, one, less));
      accounted = λ n job e. accounted_then first lane n job (same n) (t.accounted n job e);
    }

    pub written_kept : IsTied (with_mark a files) Written lane
    written_kept = wrote Written later_marks
        (λ n place. let e = counted n place in omega (arith, e))
        (λ n place off. let e = counted n place in let none : ◌≡◌ {A = ℕ} (HereIf (is_at n place a)) 0 = ap HereIf off in omega (arith, e, none))

    pub failed_kept : IsTied (with_mark a files) Unsure lane
    failed_kept = wrote Unsure later_marks (λ n place. omega arith) (λ n place off. omega arith)
