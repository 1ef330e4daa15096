-- What reports do to the sender's slots, by its desk: each frees its own.
use Rattle.std.proofs.Common.{◌≡◌, ◌≢◌, ℕ, ◌≤◌, List, [], ◌∷◌, length, set, Bool, true, false, if◌then◌else◌, Option, Some, None, refl, sym, ap, ◌∙◌, subst, ⊎_elim}
use Rattle.std.specs.Prelude.{◌&&◌, nat_lt}
use Rattle.std.proofs.lemmas.Bool.{cases_eq, cases_lt}
use Rattle.std.proofs.lemmas.List.{get_or_past, get_or-set_other, get_or-set_same, length-set}
use Rattle.send_core.specs.declared.desk.Desk.{Desk}
use Rattle.send_core.specs.Desk.{deferred, failure_in, heard, is_final, link, retried_if, told, told_all, told_by, waits, with_reader}
use Rattle.send_jobs.specs.declared.attempts.Attempt.{Attempt}
use Rattle.send_jobs.specs.declared.attempts.Failure.{Failure}
use Rattle.send_known.specs.declared.channel.Channel.{Channel}
use Rattle.send_known.specs.declared.channel.Channel.TheVariants.{Local, Remote}
use Rattle.send_jobs.specs.declared.jobs.Job.{Job}
use Rattle.send_jobs.specs.declared.lane.Lane.{Lane}
use Rattle.send_jobs.specs.Lanes.{job_over, left_unmarked, reported}
use Rattle.send_jobs.specs.Sending.{at_lane, lane}
use Rattle.send_jobs.specs.Slots.{attempt_in}
use Rattle.send_links.specs.declared.link.Link.{Link}
use Rattle.spawn_protocol.specs.declared.report.Report.{Report}
use Rattle.spawn_protocol.specs.Report.{Reader, counted, read_on}
use Rattle.program_law.specs.Post.Laws.{DesksTell}
use Rattle.program_law.specs.Post.Posts.{freed, freed_all, freed_by}

-- A slot

past_all : (slots : List (Option Attempt)) (slot : ℕ) → length slots ≤ slot → attempt_in (set slots slot None) slot ≡ None
past_all slots slot past = get_or_past (set slots slot None) slot None (subst (λ n. n ≤ slot) (sym (length-set slots slot None)) past)

pub free_now : (slots : List (Option Attempt)) (slot : ℕ) → attempt_in (set slots slot None) slot ≡ None
free_now slots slot = ⊎_elim
    (λ lt. get_or-set_same slots slot None None lt)
    (λ past. past_all slots slot past)
    (cases_lt slot (length slots))

pub free_by : (o : Option Attempt) (slots : List (Option Attempt)) (slot : ℕ) → attempt_in slots slot ≡ o → attempt_in (freed_by o slot slots) slot ≡ None
free_by None slots slot is = is
free_by (Some a) slots slot is = free_now slots slot

other_by : (o : Option Attempt) (slots : List (Option Attempt)) (slot k : ℕ) → k ≢ slot → attempt_in (freed_by o slot slots) k ≡ attempt_in slots k
other_by None slots slot k apart = refl
other_by (Some a) slots slot k apart = get_or-set_other slots slot k None None apart

pub is_freed : (slots : List (Option Attempt)) (r : Report) → attempt_in (freed r slots) r.slot ≡ None
is_freed slots r = free_by (attempt_in slots r.slot) slots r.slot refl

pub not_freed : (slots : List (Option Attempt)) (r : Report) (k : ℕ) → k ≢ r.slot → attempt_in (freed r slots) k ≡ attempt_in slots k
not_freed slots r k apart = other_by (attempt_in slots r.slot) slots r.slot k apart

-- what is in flight after it was so before
pub was_in : (slots : List (Option Attempt)) (r : Report) (k : ℕ) (a : Attempt) → attempt_in (freed r slots) k ≡ Some a → attempt_in slots k ≡ Some a
was_in slots r k a is = ⊎_elim
    (λ (e : k ≡ r.slot).
    let none : attempt_in (freed r slots) k ≡ None = ap (attempt_in (freed r slots)) e ∙ is_freed slots r in
    absurd (cc))
    (λ (apart : k ≢ r.slot). sym (not_freed slots r k apart) ∙ is)
    (cases_eq k r.slot)

-- The desk

abbrev slots_on : Channel → Desk → List (Option Attempt)
slots_on c d = (lane c d.slots).slots

retried_slots : (o : Option Job) (c : Channel) (n : ℕ) (d : Desk) → slots_on c (retried_if o c n d) ≡ slots_on c d
retried_slots None c n d = refl
retried_slots (Some job) Local n d = refl
retried_slots (Some job) Remote n d = refl

deferred_slots : (c : Channel) (n : ℕ) (d : Desk) → slots_on c (deferred c n d) ≡ slots_on c d
deferred_slots Local n d =
    let after : Desk = record d { slots = at_lane Local (left_unmarked n) d.slots } in
    retried_slots (job_over n (lane Local after.slots)) Local n after
deferred_slots Remote n d =
    let after : Desk = record d { slots = at_lane Remote (left_unmarked n) d.slots } in
    retried_slots (job_over n (lane Remote after.slots)) Remote n after

settled_slots : (b : Bool) (c : Channel) (a : Attempt) (noted : Option Failure) (d : Desk) → slots_on c (if b then waits c a noted d else deferred c a.n d) ≡ slots_on c d
settled_slots true Local a noted d = refl
settled_slots true Remote a noted d = refl
settled_slots false c a noted d = deferred_slots c a.n d

told_by_slots : (o : Option Attempt) (c : Channel) (r : Report) (d : Desk) → slots_on c (told_by o c r d) ≡ freed_by o r.slot (slots_on c d)
told_by_slots None c r d = refl
told_by_slots (Some a) Local r d =
    let next : Desk = record d { slots = at_lane Local (reported r.slot) d.slots } in
    settled_slots (is_final (counted r.letter) a.dying && nat_lt (length (lane Local next.slots).marks) 120) Local a (failure_in r) next
told_by_slots (Some a) Remote r d =
    let next : Desk = record d { slots = at_lane Remote (reported r.slot) d.slots } in
    settled_slots (is_final (counted r.letter) a.dying && nat_lt (length (lane Remote next.slots).marks) 120) Remote a (failure_in r) next

-- a report that was taken frees its slot
told_slots : (c : Channel) (r : Report) (d : Desk) → slots_on c (told c r d) ≡ freed r (slots_on c d)
told_slots c r d = told_by_slots (attempt_in (slots_on c d) r.slot) c r d

told_all_slots : (c : Channel) (rs : List Report) (d : Desk) → slots_on c (told_all c rs d) ≡ freed_all rs (slots_on c d)
told_all_slots c [] d = refl
told_all_slots c (r ∷ rs) d = told_all_slots c rs (told c r d) ∙ ap (freed_all rs) (told_slots c r d)

reader_slots : (c : Channel) (reader : Reader) (d : Desk) → slots_on c (with_reader c reader d) ≡ slots_on c d
reader_slots Local reader d = refl
reader_slots Remote reader d = refl

heard_slots : (c : Channel) (bytes : List ℕ) (d : Desk) → slots_on c (heard c bytes d) ≡ freed_all (read_on (link c d).reader bytes).0 (slots_on c d)
heard_slots c bytes d =
    let it = read_on (link c d).reader bytes in
    told_all_slots c it.0 (with_reader c it.1 d) ∙ ap (freed_all it.0) (reader_slots c it.1 d)

-- The links

retried_link : (k c : Channel) (o : Option Job) (n : ℕ) (d : Desk) → link k (retried_if o c n d) ≡ link k d
retried_link k c None n d = refl
retried_link Local c (Some job) n d = refl
retried_link Remote c (Some job) n d = refl

deferred_link : (k c : Channel) (n : ℕ) (d : Desk) → link k (deferred c n d) ≡ link k d
deferred_link Local c n d =
    let after : Desk = record d { slots = at_lane c (left_unmarked n) d.slots } in
    retried_link Local c (job_over n (lane c after.slots)) n after
deferred_link Remote c n d =
    let after : Desk = record d { slots = at_lane c (left_unmarked n) d.slots } in
    retried_link Remote c (job_over n (lane c after.slots)) n after

settled_link : (k c : Channel) (b : Bool) (a : Attempt) (noted : Option Failure) (d : Desk) → link k (if b then waits c a noted d else deferred c a.n d) ≡ link k d
settled_link Local c true a noted d = refl
settled_link Remote c true a noted d = refl
settled_link k c false a noted d = deferred_link k c a.n d

told_by_link : (k c : Channel) (o : Option Attempt) (r : Report) (d : Desk) → link k (told_by o c r d) ≡ link k d
told_by_link k c None r d = refl
told_by_link Local c (Some a) r d =
    let next : Desk = record d { slots = at_lane c (reported r.slot) d.slots } in
    settled_link Local c (is_final (counted r.letter) a.dying && nat_lt (length (lane c next.slots).marks) 120) a (failure_in r) next
told_by_link Remote c (Some a) r d =
    let next : Desk = record d { slots = at_lane c (reported r.slot) d.slots } in
    settled_link Remote c (is_final (counted r.letter) a.dying && nat_lt (length (lane c next.slots).marks) 120) a (failure_in r) next

told_all_link : (k c : Channel) (rs : List Report) (d : Desk) → link k (told_all c rs d) ≡ link k d
told_all_link k c [] d = refl
told_all_link k c (r ∷ rs) d = told_all_link k c rs (told c r d) ∙ told_by_link k c (attempt_in (lane c d.slots).slots r.slot) r d

-- the reader goes on
heard_reader : (c : Channel) (bytes : List ℕ) (d : Desk) → (link c (heard c bytes d)).reader ≡ (read_on (link c d).reader bytes).1
heard_reader Local bytes d =
    let it = read_on d.local.reader bytes in
    ap (λ (l : Link). l.reader) (told_all_link Local Local it.0 (with_reader Local it.1 d))
heard_reader Remote bytes d =
    let it = read_on d.remote.reader bytes in
    ap (λ (l : Link). l.reader) (told_all_link Remote Remote it.0 (with_reader Remote it.1 d))

-- The other channel

abbrev other : Channel → Channel
other Local = Remote
other Remote = Local

retried_other : (o : Option Job) (c : Channel) (n : ℕ) (d : Desk) → lane (other c) (retried_if o c n d).slots ≡ lane (other c) d.slots
retried_other None c n d = refl
retried_other (Some job) Local n d = refl
retried_other (Some job) Remote n d = refl

deferred_other : (c : Channel) (n : ℕ) (d : Desk) → lane (other c) (deferred c n d).slots ≡ lane (other c) d.slots
deferred_other Local n d =
    let after : Desk = record d { slots = at_lane Local (left_unmarked n) d.slots } in
    retried_other (job_over n (lane Local after.slots)) Local n after
deferred_other Remote n d =
    let after : Desk = record d { slots = at_lane Remote (left_unmarked n) d.slots } in
    retried_other (job_over n (lane Remote after.slots)) Remote n after

settled_other : (b : Bool) (c : Channel) (a : Attempt) (noted : Option Failure) (d : Desk) → lane (other c) (if b then waits c a noted d else deferred c a.n d).slots ≡ lane (other c) d.slots
settled_other true Local a noted d = refl
settled_other true Remote a noted d = refl
settled_other false c a noted d = deferred_other c a.n d

told_by_other : (o : Option Attempt) (c : Channel) (r : Report) (d : Desk) → lane (other c) (told_by o c r d).slots ≡ lane (other c) d.slots
told_by_other None c r d = refl
told_by_other (Some a) Local r d =
    let next : Desk = record d { slots = at_lane Local (reported r.slot) d.slots } in
    settled_other (is_final (counted r.letter) a.dying && nat_lt (length (lane Local next.slots).marks) 120) Local a (failure_in r) next
told_by_other (Some a) Remote r d =
    let next : Desk = record d { slots = at_lane Remote (reported r.slot) d.slots } in
    settled_other (is_final (counted r.letter) a.dying && nat_lt (length (lane Remote next.slots).marks) 120) Remote a (failure_in r) next

told_all_other : (c : Channel) (rs : List Report) (d : Desk) → lane (other c) (told_all c rs d).slots ≡ lane (other c) d.slots
told_all_other c [] d = refl
told_all_other c (r ∷ rs) d = told_all_other c rs (told c r d) ∙ told_by_other (attempt_in (lane c d.slots).slots r.slot) c r d

heard_others : (c e : Channel) (bytes : List ℕ) (d : Desk) → e ≢ c
    → ((lane e (heard c bytes d).slots).slots ≡ (lane e d.slots).slots) × ((link e (heard c bytes d)).reader ≡ (link e d).reader)
heard_others Local Local bytes d apart = absurd (apart refl)
heard_others Remote Remote bytes d apart = absurd (apart refl)
heard_others Local Remote bytes d apart =
    let it = read_on d.local.reader bytes in (
      ap (λ (l : Lane). l.slots) (told_all_other Local it.0 (with_reader Local it.1 d)),
      ap (λ (l : Link). l.reader) (told_all_link Remote Local it.0 (with_reader Local it.1 d)),
    )
heard_others Remote Local bytes d apart =
    let it = read_on d.remote.reader bytes in (
      ap (λ (l : Lane). l.slots) (told_all_other Remote it.0 (with_reader Remote it.1 d)),
      ap (λ (l : Link). l.reader) (told_all_link Local Remote it.0 (with_reader Remote it.1 d)),
    )

pub desks_tell : DesksTell
desks_tell = record { one = told_slots; all = heard_slots; reader = heard_reader; others = heard_others }
