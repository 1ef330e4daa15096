-- How takings, requests and passes change what a channel keeps, and its account.
use Rattle.std.proofs.Common.{◌≡◌, ◌⊎◌, ℕ, ◌<◌, List, [], ◌∷◌, ◌++◌, length, drop, Bool, true, false, if◌then◌else◌, nat_lt, Option, Some, None, refl, sym, ap, ◌∙◌, subst, inl, inr, ⊎_elim}
use Rattle.std.specs.Prelude.{◌&&◌, is_some, map, slice_get}
use Rattle.std.specs.Option.{option_map}
use Rattle.std.proofs.lemmas.Bool.{lt-ltb}
use Rattle.call_fs.specs.Maps.{put}
use Rattle.envelope_records.specs.declared.channel.Record.{Record}
use Rattle.send_core.specs.declared.desk.Desk.{Desk}
use Rattle.send_core.specs.Desk.{deferred, has_begun, heard, is_dying, ready, request_sent, retried_if, settle, told, told_all, told_by, waits, with_reader, with_requests}
use Rattle.send_jobs.specs.declared.attempts.Attempt.{Attempt}
use Rattle.send_jobs.specs.declared.attempts.Failure.{Failure}
use Rattle.send_jobs.specs.declared.attempts.Mark.{Mark}
use Rattle.send_known.specs.declared.channel.Channel.{Channel}
use Rattle.send_known.specs.declared.channel.Channel.TheVariants.{Local, Remote}
use Rattle.send_jobs.specs.declared.jobs.Job.{Job}
use Rattle.send_jobs.specs.declared.lane.Lane.{Lane}
use Rattle.send_jobs.specs.declared.slots.Slots.{Slots}
use Rattle.send_jobs.specs.Failures.{failure_in, is_final}
use Rattle.send_jobs.specs.Lanes.{is_in_flight, job_over, left_unmarked, next, numbered, reported, sent, sent_in}
use Rattle.send_jobs.specs.Sending.{at_lane, lane, next_delivery, sent_as, sent_on}
use Rattle.send_jobs.specs.Slots.{IsLeastFree, attempt_in, lowest}
use Rattle.send_jobs.proofs.SlotLemmas.{lowest_is_least}
use Rattle.send_known.specs.Known.{sender_of}
use Rattle.send_links.specs.declared.link.Link.{Link}
use Rattle.send_links.specs.Records.{records_of}
use Rattle.send_links.specs.Requests.{addressed}
use Rattle.spawn_protocol.specs.declared.report.Report.{Report}
use Rattle.spawn_protocol.specs.Report.{Reader, counted, read_on}
use Rattle.spawn_protocol.specs.Report.Reader.{AtBegin}
use Rattle.send_core.specs.Past.{Account, Owed, Task, account_by, mark_if, news, owed_by, settle as settle_in, settle_all, settle_by, tasks_by}
use Rattle.send_core.specs.Past.Happening.{Gives}
use Rattle.send_core.proofs.Lists.{in_range, map_drop, map_length, map_more, news_are, read_holds, slots_put}
use Rattle.send_core.proofs.Lanes.{Holds, begun_holds, freed_holds, has_room, owed_holds, sent_holds}
use Rattle.send_core.specs.Agrees.{owed_at, task_of}
use Rattle.send_core.proofs.Fits.{Fits, for_addressed, for_drop, for_records, so_far, tasks_are}

-- the spawner has said how many deliveries it runs
abbrev pub Heard : Option (List ℕ) → Type 0
Heard None = ⊥
Heard (Some bytes) = Unit {0}

abbrev pub Both : Bool → Bool → Account → Account → Slots → Link → Link → Type 0
Both first second al ar s l r = Fits first al s.local l × Fits second ar s.remote r × Heard al.heard × Heard ar.heard

abbrev pub DeskFits : Account → Account → Desk → Type 0
DeskFits al ar d = Both false false al ar d.slots d.local d.remote

-- the next request's slot doesn't matter
pub fits_ready : (at_work : Bool) (a : Account) (lane : Lane) (link : Link) → Fits at_work a lane link → Fits at_work a lane (record link { requests = addressed (lowest lane.slots) link.requests })
fits_ready at_work a lane link h = (h.0, h.1, for_addressed (lowest lane.slots) link.requests lane.left h.2, h.3, h.4, h.5)

pub both_ready : (first second : Bool) (al ar : Account) (d : Desk) → Both first second al ar d.slots d.local d.remote → Both first second al ar (ready d).slots (ready d).local (ready d).remote
both_ready first second al ar d h = (fits_ready first al d.slots.local d.local h.0, fits_ready second ar d.slots.remote d.remote h.1, h.2, h.3)

retried_fits : (al ar : Account) (o : Option Job) (c : Channel) (n : ℕ) (d : Desk) → DeskFits al ar d → DeskFits al ar (retried_if o c n d)
retried_fits al ar None c n d h = h
retried_fits al ar (Some job) Local n d h = h
retried_fits al ar (Some job) Remote n d h = h

deferred_fits : (al ar : Account) (c : Channel) (n : ℕ) (d : Desk) → DeskFits al ar d → DeskFits al ar (deferred c n d)
deferred_fits al ar Local n d h =
    let after : Desk = record d { slots = at_lane Local (left_unmarked n) d.slots } in
    retried_fits al ar (job_over n (lane Local after.slots)) Local n after h
deferred_fits al ar Remote n d h =
    let after : Desk = record d { slots = at_lane Remote (left_unmarked n) d.slots } in
    retried_fits al ar (job_over n (lane Remote after.slots)) Remote n after h

-- the first attempt is at the first record
first_is : (a : Attempt) (left : List Attempt) (tasks : List Task) → map task_of left ≡ tasks → slice_get left 0 ≡ Some a → option_map task_of (Some a) ≡ slice_get tasks 0
first_is a [] tasks e there = absurd (cc)
first_is a (b ∷ left) tasks e there = ap (option_map task_of) (sym there) ∙ ap (λ t. slice_get t 0) e

first_task : (a : Attempt) (left : List Attempt) (tasks : List Task) → (left ≡ []) ⊎ (map task_of left ≡ tasks) → slice_get left 0 ≡ Some a → option_map task_of (Some a) ≡ slice_get tasks 0
first_task a left tasks h there = ⊎_elim
    (λ none. let gone : slice_get left 0 ≡ None = ap (λ t. slice_get t 0) none in absurd (cc))
    (λ e. first_is a left tasks e there)
    h

left_drop : (left : List Attempt) (tasks : List Task) → (left ≡ []) ⊎ (map task_of left ≡ tasks) → (drop 1 left ≡ []) ⊎ (map task_of (drop 1 left) ≡ drop 1 tasks)
left_drop left tasks h = ⊎_elim (λ none. inl (ap (λ t. drop 1 t) none)) (λ e. inr (map_drop task_of left tasks e)) h

low_in_range : (slots : List (Option Attempt)) (slot : ℕ) → lowest slots ≡ Some slot → slot < length slots
low_in_range slots slot e = let least : IsLeastFree slots (Some slot) = subst (IsLeastFree slots) e (lowest_is_least slots) in least.0

-- The local channel

abbrev after_report_local : Account → ℕ → List Owed → Account
after_report_local a slot owed = record a { in_flight = put a.in_flight slot None; to_mark = owed }

marked_local : (al ar : Account) (a : Attempt) (note : Option Failure) (slot : ℕ) (d : Desk) → Holds al.limit (al.to_mark ++ (let o : Owed = record { task = task_of a; note = note } in o) ∷ []) d.slots.local.slots d.slots.local.left → DeskFits (after_report_local al slot al.to_mark) ar d
    → DeskFits (after_report_local al slot (al.to_mark ++ (let o : Owed = record { task = task_of a; note = note } in o) ∷ [])) ar (waits Local a note d)
marked_local al ar a note slot d owed h =
    ((h.0.0, h.0.1, h.0.2, h.0.3, map_more owed_at d.slots.local.marks (let m : Mark = record { attempt = a; note = note } in m) ∙ ap (λ (t : List Owed). t ++ (let o : Owed = record { task = task_of a; note = note } in o) ∷ []) h.0.4, owed), h.1, h.2, h.3)

abbrev reported_local : ℕ → Desk → Desk
reported_local slot d = record d { slots = at_lane Local (reported slot) d.slots }

settled_local : (al ar : Account) (r : Report) (a : Attempt) (d : Desk) → attempt_in d.slots.local.slots r.slot ≡ Some a → DeskFits al ar d
    → DeskFits (after_report_local al r.slot (mark_if (is_final (counted r.letter) a.dying) (owed_by (task_of a) r) al.to_mark)) ar (settle r Local a (record d { slots = at_lane Local (reported r.slot) d.slots }))
settled_local al ar r a d there h = by_letter (is_final (counted r.letter) a.dying) where
  lt : r.slot < length d.slots.local.slots
  lt = in_range d.slots.local.slots r.slot a there

  base : DeskFits (after_report_local al r.slot al.to_mark) ar (reported_local r.slot d)
  base = ((slots_put task_of d.slots.local.slots al.in_flight r.slot None None lt refl h.0.0, h.0.1, h.0.2, h.0.3, h.0.4, freed_holds al.limit r.slot al.to_mark d.slots.local.slots d.slots.local.left lt h.0.5), h.1, h.2, h.3)

  room : nat_lt (length d.slots.local.marks) 120 ≡ true
  room = ap (λ (k : ℕ). nat_lt k 120) (sym (map_length owed_at d.slots.local.marks) ∙ ap (λ (t : List Owed). length t) h.0.4)
      ∙ lt-ltb (length al.to_mark) 120 (has_room al.limit r.slot al.to_mark d.slots.local.slots d.slots.local.left a lt there h.0.5)

  by_letter : (k : Bool) → DeskFits (after_report_local al r.slot (mark_if k (owed_by (task_of a) r) al.to_mark)) ar
      (if k && nat_lt (length d.slots.local.marks) 120 then waits Local a (failure_in r) (reported_local r.slot d) else deferred Local a.n (reported_local r.slot d))
  by_letter true = subst
      (λ (x : Bool). DeskFits (after_report_local al r.slot (al.to_mark ++ owed_by (task_of a) r ∷ [])) ar (if x then waits Local a (failure_in r) (reported_local r.slot d) else deferred Local a.n (reported_local r.slot d)))
      (sym room) (marked_local al ar a (failure_in r) r.slot (reported_local r.slot d) (owed_holds al.limit r.slot al.to_mark d.slots.local.slots d.slots.local.left a (owed_by (task_of a) r) lt there h.0.5) base)
  by_letter false = deferred_fits (after_report_local al r.slot al.to_mark) ar Local a.n (reported_local r.slot d) base

one_local : (al ar : Account) (r : Report) (d : Desk) (o : Option Attempt) → attempt_in d.slots.local.slots r.slot ≡ o → DeskFits al ar d
    → DeskFits (settle_by (option_map task_of o) r al) ar (told_by o Local r d)
one_local al ar r d None there h = h
one_local al ar r d (Some a) there h = settled_local al ar r a d there h

told_local : (al ar : Account) (r : Report) (d : Desk) → DeskFits al ar d → DeskFits (settle_in r al) ar (told Local r d)
told_local al ar r d h = subst (λ t. DeskFits (settle_by t r al) ar (told Local r d)) (h.0.0 r.slot) (one_local al ar r d (attempt_in d.slots.local.slots r.slot) refl h)

all_told_local : (al ar : Account) (rs : List Report) (d : Desk) → DeskFits al ar d → DeskFits (settle_all rs al) ar (told_all Local rs d)
all_told_local al ar [] d h = h
all_told_local al ar (r ∷ rs) d h = all_told_local (settle_in r al) ar rs (told Local r d) (told_local al ar r d h)

pub heard_local : (al ar : Account) (before bytes : List ℕ) (d : Desk) → al.heard ≡ Some before → DeskFits al ar d
    → DeskFits (settle_all (news before bytes) (record al { heard = Some (before ++ bytes) })) ar (heard Local bytes d)
heard_local al ar before bytes d e h =
    let at : d.local.reader ≡ (read_on AtBegin before).1 = h.0.3 ∙ ap (λ (o : Option (List ℕ)). (read_on AtBegin (so_far o)).1) e in
    let given : news before bytes ≡ (read_on d.local.reader bytes).0 = news_are before bytes ∙ ap (λ (x : Reader). (read_on x bytes).0) (sym at) in
    let later_reader : (read_on d.local.reader bytes).1 ≡ (read_on AtBegin (before ++ bytes)).1 = ap (λ (x : Reader). (read_on x bytes).1) at ∙ sym (read_holds AtBegin before bytes) in
    let after : Desk = with_reader Local (read_on d.local.reader bytes).1 d in
    let a : Account = record al { heard = Some (before ++ bytes) } in
    subst (λ (rs : List Report). DeskFits (settle_all rs a) ar (heard Local bytes d)) (sym given)
    (all_told_local a ar (read_on d.local.reader bytes).0 after ((h.0.0, h.0.1, h.0.2, later_reader, h.0.4, h.0.5), h.1, tt, h.3))

abbrev sent_lane_local : ℕ → Attempt → Desk → Lane
sent_lane_local slot a d = sent_in (Some slot) (Some a) (next_delivery d.slots) d.slots.local

abbrev with_sent_local : Lane → Desk → Desk
with_sent_local x d = with_requests Local (drop 1 d.local.requests) (record d { slots = record (at_lane Local (λ _. x) d.slots) { given = next_delivery d.slots } })

pub given_local : (al ar : Account) (slot : ℕ) (a : Attempt) (d : Desk) → lowest d.slots.local.slots ≡ Some slot → next d.slots.local ≡ Some a → al.to_mark ≡ [] → DeskFits al ar d
    → DeskFits (account_by (Gives slot) al) ar (request_sent Local d)
given_local al ar slot a d low first bare h = subst
    (λ (b : Bool). DeskFits (account_by (Gives slot) al) ar (if b then with_requests Local (drop 1 d.local.requests) (record d { slots = sent_on Local d.slots }) else d))
    (sym (ap (λ (o : Option Attempt). is_some o) first))
    (subst (λ (o : Option ℕ). DeskFits (account_by (Gives slot) al) ar (with_requests Local (drop 1 d.local.requests) (record d { slots = sent_as o Local (next_delivery d.slots) d.slots })))
    (sym low)
    (subst (λ (x : Lane). DeskFits (account_by (Gives slot) al) ar (with_sent_local x d)) (sym sent_is) base))
  where
    sent_is : sent (next_delivery d.slots) d.slots.local ≡ sent_lane_local slot a d
    sent_is = ap (λ (o : Option ℕ). sent_in o (next d.slots.local) (next_delivery d.slots) d.slots.local) low
        ∙ ap (λ (o : Option Attempt). sent_in (Some slot) o (next_delivery d.slots) d.slots.local) first

    flight : (k : ℕ) → option_map task_of (attempt_in (sent_lane_local slot a d).slots k) ≡ put al.in_flight slot (slice_get al.to_give 0) k
    flight = slots_put task_of d.slots.local.slots al.in_flight slot (Some (numbered (next_delivery d.slots) a)) (slice_get al.to_give 0) (low_in_range d.slots.local.slots slot low)
        (first_task a d.slots.local.left al.to_give h.0.1 first) h.0.0

    holds : Holds al.limit al.to_mark (sent_lane_local slot a d).slots (sent_lane_local slot a d).left
    holds = subst (λ (t : List Owed). Holds al.limit t (sent_lane_local slot a d).slots (sent_lane_local slot a d).left) (sym bare)
        (sent_holds al.limit slot (next_delivery d.slots) d.slots.local.slots d.slots.local.left a (low_in_range d.slots.local.slots slot low) first
        (subst (λ (t : List Owed). Holds al.limit t d.slots.local.slots d.slots.local.left) bare h.0.5))

    base : DeskFits (account_by (Gives slot) al) ar (with_sent_local (sent_lane_local slot a d) d)
    base = ((flight, left_drop d.slots.local.left al.to_give h.0.1, for_drop d.local.requests d.slots.local.left h.0.2, h.0.3, h.0.4, holds), h.1, h.2, h.3)

pub begun_local : (al ar : Account) (n begun : ℕ) (bytes : List ℕ) (records : List Record) (d : Desk) → is_in_flight n d.slots.local ≡ false → records_of bytes ≡ Some records → DeskFits al ar d
    → DeskFits (record al { to_give = tasks_by n (is_dying n begun d) (Some records) }) ar (has_begun Local n begun records d)
begun_local al ar n begun bytes records d free read h = ((h.0.0, inr (tasks_are n (is_dying n begun d) records), for_records n (sender_of n d.book.messages.known) (is_dying n begun d) records, h.0.3, h.0.4, begun_holds al.limit n (is_dying n begun d) al.to_mark d.slots.local.slots d.slots.local.left bytes records free read h.0.5), h.1, h.2, h.3)

-- The remote channel

abbrev after_report_remote : Account → ℕ → List Owed → Account
after_report_remote a slot owed = record a { in_flight = put a.in_flight slot None; to_mark = owed }

marked_remote : (al ar : Account) (a : Attempt) (note : Option Failure) (slot : ℕ) (d : Desk) → Holds ar.limit (ar.to_mark ++ (let o : Owed = record { task = task_of a; note = note } in o) ∷ []) d.slots.remote.slots d.slots.remote.left → DeskFits al (after_report_remote ar slot ar.to_mark) d
    → DeskFits al (after_report_remote ar slot (ar.to_mark ++ (let o : Owed = record { task = task_of a; note = note } in o) ∷ [])) (waits Remote a note d)
marked_remote al ar a note slot d owed h =
    (h.0, (h.1.0, h.1.1, h.1.2, h.1.3, map_more owed_at d.slots.remote.marks (let m : Mark = record { attempt = a; note = note } in m) ∙ ap (λ (t : List Owed). t ++ (let o : Owed = record { task = task_of a; note = note } in o) ∷ []) h.1.4, owed), h.2, h.3)

abbrev reported_remote : ℕ → Desk → Desk
reported_remote slot d = record d { slots = at_lane Remote (reported slot) d.slots }

settled_remote : (al ar : Account) (r : Report) (a : Attempt) (d : Desk) → attempt_in d.slots.remote.slots r.slot ≡ Some a → DeskFits al ar d
    → DeskFits al (after_report_remote ar r.slot (mark_if (is_final (counted r.letter) a.dying) (owed_by (task_of a) r) ar.to_mark)) (settle r Remote a (record d { slots = at_lane Remote (reported r.slot) d.slots }))
settled_remote al ar r a d there h = by_letter (is_final (counted r.letter) a.dying) where
  lt : r.slot < length d.slots.remote.slots
  lt = in_range d.slots.remote.slots r.slot a there

  base : DeskFits al (after_report_remote ar r.slot ar.to_mark) (reported_remote r.slot d)
  base = (h.0, (slots_put task_of d.slots.remote.slots ar.in_flight r.slot None None lt refl h.1.0, h.1.1, h.1.2, h.1.3, h.1.4, freed_holds ar.limit r.slot ar.to_mark d.slots.remote.slots d.slots.remote.left lt h.1.5), h.2, h.3)

  room : nat_lt (length d.slots.remote.marks) 120 ≡ true
  room = ap (λ (k : ℕ). nat_lt k 120) (sym (map_length owed_at d.slots.remote.marks) ∙ ap (λ (t : List Owed). length t) h.1.4)
      ∙ lt-ltb (length ar.to_mark) 120 (has_room ar.limit r.slot ar.to_mark d.slots.remote.slots d.slots.remote.left a lt there h.1.5)

  by_letter : (k : Bool) → DeskFits al (after_report_remote ar r.slot (mark_if k (owed_by (task_of a) r) ar.to_mark))
      (if k && nat_lt (length d.slots.remote.marks) 120 then waits Remote a (failure_in r) (reported_remote r.slot d) else deferred Remote a.n (reported_remote r.slot d))
  by_letter true = subst
      (λ (x : Bool). DeskFits al (after_report_remote ar r.slot (ar.to_mark ++ owed_by (task_of a) r ∷ [])) (if x then waits Remote a (failure_in r) (reported_remote r.slot d) else deferred Remote a.n (reported_remote r.slot d)))
      (sym room) (marked_remote al ar a (failure_in r) r.slot (reported_remote r.slot d) (owed_holds ar.limit r.slot ar.to_mark d.slots.remote.slots d.slots.remote.left a (owed_by (task_of a) r) lt there h.1.5) base)
  by_letter false = deferred_fits al (after_report_remote ar r.slot ar.to_mark) Remote a.n (reported_remote r.slot d) base

one_remote : (al ar : Account) (r : Report) (d : Desk) (o : Option Attempt) → attempt_in d.slots.remote.slots r.slot ≡ o → DeskFits al ar d
    → DeskFits al (settle_by (option_map task_of o) r ar) (told_by o Remote r d)
one_remote al ar r d None there h = h
one_remote al ar r d (Some a) there h = settled_remote al ar r a d there h

told_remote : (al ar : Account) (r : Report) (d : Desk) → DeskFits al ar d → DeskFits al (settle_in r ar) (told Remote r d)
told_remote al ar r d h = subst (λ t. DeskFits al (settle_by t r ar) (told Remote r d)) (h.1.0 r.slot) (one_remote al ar r d (attempt_in d.slots.remote.slots r.slot) refl h)

all_told_remote : (al ar : Account) (rs : List Report) (d : Desk) → DeskFits al ar d → DeskFits al (settle_all rs ar) (told_all Remote rs d)
all_told_remote al ar [] d h = h
all_told_remote al ar (r ∷ rs) d h = all_told_remote al (settle_in r ar) rs (told Remote r d) (told_remote al ar r d h)

pub heard_remote : (al ar : Account) (before bytes : List ℕ) (d : Desk) → ar.heard ≡ Some before → DeskFits al ar d
    → DeskFits al (settle_all (news before bytes) (record ar { heard = Some (before ++ bytes) })) (heard Remote bytes d)
heard_remote al ar before bytes d e h =
    let at : d.remote.reader ≡ (read_on AtBegin before).1 = h.1.3 ∙ ap (λ (o : Option (List ℕ)). (read_on AtBegin (so_far o)).1) e in
    let given : news before bytes ≡ (read_on d.remote.reader bytes).0 = news_are before bytes ∙ ap (λ (x : Reader). (read_on x bytes).0) (sym at) in
    let later_reader : (read_on d.remote.reader bytes).1 ≡ (read_on AtBegin (before ++ bytes)).1 = ap (λ (x : Reader). (read_on x bytes).1) at ∙ sym (read_holds AtBegin before bytes) in
    let after : Desk = with_reader Remote (read_on d.remote.reader bytes).1 d in
    let a : Account = record ar { heard = Some (before ++ bytes) } in
    subst (λ (rs : List Report). DeskFits al (settle_all rs a) (heard Remote bytes d)) (sym given)
    (all_told_remote al a (read_on d.remote.reader bytes).0 after (h.0, (h.1.0, h.1.1, h.1.2, later_reader, h.1.4, h.1.5), h.2, tt))

abbrev sent_lane_remote : ℕ → Attempt → Desk → Lane
sent_lane_remote slot a d = sent_in (Some slot) (Some a) (next_delivery d.slots) d.slots.remote

abbrev with_sent_remote : Lane → Desk → Desk
with_sent_remote x d = with_requests Remote (drop 1 d.remote.requests) (record d { slots = record (at_lane Remote (λ _. x) d.slots) { given = next_delivery d.slots } })

pub given_remote : (al ar : Account) (slot : ℕ) (a : Attempt) (d : Desk) → lowest d.slots.remote.slots ≡ Some slot → next d.slots.remote ≡ Some a → ar.to_mark ≡ [] → DeskFits al ar d
    → DeskFits al (account_by (Gives slot) ar) (request_sent Remote d)
given_remote al ar slot a d low first bare h = subst
    (λ (b : Bool). DeskFits al (account_by (Gives slot) ar) (if b then with_requests Remote (drop 1 d.remote.requests) (record d { slots = sent_on Remote d.slots }) else d))
    (sym (ap (λ (o : Option Attempt). is_some o) first))
    (subst (λ (o : Option ℕ). DeskFits al (account_by (Gives slot) ar) (with_requests Remote (drop 1 d.remote.requests) (record d { slots = sent_as o Remote (next_delivery d.slots) d.slots })))
    (sym low)
    (subst (λ (x : Lane). DeskFits al (account_by (Gives slot) ar) (with_sent_remote x d)) (sym sent_is) base))
  where
    sent_is : sent (next_delivery d.slots) d.slots.remote ≡ sent_lane_remote slot a d
    sent_is = ap (λ (o : Option ℕ). sent_in o (next d.slots.remote) (next_delivery d.slots) d.slots.remote) low
        ∙ ap (λ (o : Option Attempt). sent_in (Some slot) o (next_delivery d.slots) d.slots.remote) first

    flight : (k : ℕ) → option_map task_of (attempt_in (sent_lane_remote slot a d).slots k) ≡ put ar.in_flight slot (slice_get ar.to_give 0) k
    flight = slots_put task_of d.slots.remote.slots ar.in_flight slot (Some (numbered (next_delivery d.slots) a)) (slice_get ar.to_give 0) (low_in_range d.slots.remote.slots slot low)
        (first_task a d.slots.remote.left ar.to_give h.1.1 first) h.1.0

    holds : Holds ar.limit ar.to_mark (sent_lane_remote slot a d).slots (sent_lane_remote slot a d).left
    holds = subst (λ (t : List Owed). Holds ar.limit t (sent_lane_remote slot a d).slots (sent_lane_remote slot a d).left) (sym bare)
        (sent_holds ar.limit slot (next_delivery d.slots) d.slots.remote.slots d.slots.remote.left a (low_in_range d.slots.remote.slots slot low) first
        (subst (λ (t : List Owed). Holds ar.limit t d.slots.remote.slots d.slots.remote.left) bare h.1.5))

    base : DeskFits al (account_by (Gives slot) ar) (with_sent_remote (sent_lane_remote slot a d) d)
    base = (h.0, (flight, left_drop d.slots.remote.left ar.to_give h.1.1, for_drop d.remote.requests d.slots.remote.left h.1.2, h.1.3, h.1.4, holds), h.2, h.3)

pub begun_remote : (al ar : Account) (n begun : ℕ) (bytes : List ℕ) (records : List Record) (d : Desk) → is_in_flight n d.slots.remote ≡ false → records_of bytes ≡ Some records → DeskFits al ar d
    → DeskFits al (record ar { to_give = tasks_by n (is_dying n begun d) (Some records) }) (has_begun Remote n begun records d)
begun_remote al ar n begun bytes records d free read h = (h.0, (h.1.0, inr (tasks_are n (is_dying n begun d) records), for_records n (sender_of n d.book.messages.known) (is_dying n begun d) records, h.1.3, h.1.4, begun_holds ar.limit n (is_dying n begun d) ar.to_mark d.slots.remote.slots d.slots.remote.left bytes records free read h.1.5), h.2, h.3)
