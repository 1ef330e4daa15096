-- What became of the requests of a past.
use Rattle.std.proofs.Common.{◌≡◌, ℕ, ◌+◌, ◌≤◌, List, [], ◌∷◌, ◌++◌, Bool, true, false, ◌&&◌, if◌then◌else◌, Option, Some, None, refl, sym, ap, ◌∙◌, subst, arith}
use Rattle.std.specs.Prelude.{slice_index_or}
use Rattle.std.proofs.lemmas.Bool.{false≢true, true≢false, not-true}
use Rattle.std.proofs.lemmas.List.{append-nil, append_assoc}
use Rattle.call_fs.specs.declared.past.ChildData.{ChildData}
use Rattle.call_fs.specs.declared.past.NeedData.TheVariants as needs
use Rattle.call_fs.specs.declared.past.Own.{Own}
use Rattle.call_fs.specs.declared.program.Ready.{Ready}
use Rattle.spawn_protocol.proofs.Cuts.{cut_is}
use Rattle.spawn_protocol.proofs.Requests.{one_reading, some_reading}
use Rattle.spawn_protocol.specs.Cut.{cut}
use Rattle.spawn_protocol.specs.Cut.Cut.{More}
use Rattle.spawn_protocol.specs.Request.{HasRead, Reader}
use Rattle.spawn_protocol.specs.Request.Reader.{Reading, Refused}
use Rattle.spawn_protocol.specs.declared.inbox.Intake.{Intake}
use Rattle.spawn_protocol.specs.declared.inbox.Intake.TheVariants as intake
use Rattle.spawn_protocol.specs.declared.request.Request.{Request}
use Rattle.spawner_parts.specs.declared.place.Place.{Place}
use Rattle.spawner_parts.specs.declared.row.Row.{Row}
use Rattle.spawner_parts.specs.declared.row.Row.TheVariants as at
use Rattle.spawner_parts.specs.Asked.{is_bad, runs_in}
use Rattle.spawner_parts.specs.Known.{At, AtWork, Counts, Kept, Reads, Rests, Tells}
use Rattle.spawner_parts.specs.Causes.{slot_of, IsOver, has_end, programs}
use Rattle.call_fs.specs.Past.{taken}
use Rattle.spawner_parts.specs.Causes.IsOver.{RequestsEnded, FieldTooLong}
use Rattle.spawner_parts.specs.Counts.{IsAtRest, IsSettled, IsStart, asked, dealt_with, one, reported, runs, times}
use Rattle.spawner_parts.specs.Table.{any_runs, arrive, due_at, ended_by, is_asked, is_open, none_runs, resting, row_now, turning}
use Rattle.spawner_parts.proofs.Balance.{comes_at}
use Rattle.spawner_parts.proofs.Tallies.{asked_append, asked_push, idle_slot, read_both, same_one, times_more}

-- the requests that were pulled out come first
prefix : (state : Intake) (ahead bytes : List ℕ) (ended : Bool) (dealt requests : List Request) (reader : Reader) → Reads state ahead bytes ended dealt → HasRead bytes requests reader
    → (others : List Request) × (requests ≡ dealt ++ others)
prefix intake.Open ahead bytes ended dealt requests reader h read =
    let s = some_reading ahead in
    (s.0, sym (one_reading bytes (dealt ++ s.0) requests s.1 reader (read_both dealt s.0 bytes ahead s.1 h.0 h.1 s.2) read).0)
prefix intake.Ended ahead bytes ended dealt requests reader h read =
    ([], sym (one_reading bytes dealt requests (Reading h.2.0) reader h.2.1 read).0 ∙ sym (append-nil dealt))
prefix intake.TooLong ahead bytes ended dealt requests reader h read =
    ([], sym (one_reading bytes dealt requests Refused reader h.2 read).0 ∙ sym (append-nil dealt))

-- at rest they are all
all_rest : (dealt : List Request) (ahead bytes : List ℕ) (ended : Bool) → Reads intake.Open ahead bytes ended dealt → cut ahead ≡ More → (reader : Reader) × HasRead bytes dealt reader × (¬ (reader ≡ Refused))
all_rest dealt ahead bytes ended h is =
    let s = (cut_is ahead More).0 is in
    (Reading s.0, subst (λ rs. HasRead bytes rs (Reading s.0)) (append-nil dealt) (read_both dealt [] bytes ahead (Reading s.0) h.0 h.1 s.1), λ e. cc)

whole : (state : Intake) (ahead bytes : List ℕ) (ended : Bool) (dealt requests : List Request) (reader : Reader) → Reads state ahead bytes ended dealt → Rests state ahead → HasRead bytes requests reader
    → requests ≡ dealt
whole intake.Open ahead bytes ended dealt requests reader h rests read =
    let s = all_rest dealt ahead bytes ended h rests in sym (one_reading bytes dealt requests s.0 reader s.1 read).0
whole intake.Ended ahead bytes ended dealt requests reader h rests read = sym (one_reading bytes dealt requests (Reading h.2.0) reader h.2.1 read).0
whole intake.TooLong ahead bytes ended dealt requests reader h rests read = sym (one_reading bytes dealt requests Refused reader h.2 read).0

least : (all first others given more busy : ℕ) → all ≡ first + others → first ≡ more + busy → given ≤ more → given + busy ≤ all
least all first others given more busy e f le = omega arith

pub most : (past : List Own) (p : Place) (requests : List Request) (reader : Reader) (slot : ℕ) → Tells past p → HasRead (taken past) requests reader
    → dealt_with slot past ≤ asked slot requests
most past p requests reader slot tells read =
    let k = tells.counts in
    let o = prefix p.inbox.intake p.inbox.ahead (taken past) (has_end past) k.dealt requests reader k.reads read in
    let all : asked slot requests ≡ asked slot k.dealt + asked slot o.0 = ap (λ rs. asked slot rs) o.1 ∙ asked_append slot k.dealt o.0 in
    least (asked slot requests) (asked slot k.dealt) (asked slot o.0) (times slot (reported past)) (times slot (k.owed ++ reported past)) (runs slot (programs past))
    all (k.sums slot) (times_more slot k.owed (reported past))

module _ (program : ChildData) (past : List Own) (p : Place) (ready : Ready) (owed : List ℕ) (dealt : List Request) where
  pub at_rest : (row : Row) → At row p owed dealt → Kept past row → IsAtRest past (due_at program (arrive row p ready) p) → (owed ≡ []) × Rests p.inbox.intake p.inbox.ahead
  at_rest at.Idle a kept rest = a
  at_rest at.Greet a kept rest = absurd rest
  at_rest at.TakeInput a kept rest = absurd kept
  at_rest at.OpenMess a kept rest = absurd rest
  at_rest (at.ReadMess fd) a kept rest = absurd rest
  at_rest (at.CloseMess fd whole) a kept rest = absurd rest
  at_rest at.Start a kept rest = absurd rest
  at_rest at.Feed a kept rest = absurd rest
  at_rest (at.TakeOutput slot) a kept rest = absurd rest
  at_rest (at.TakeStatus slot) a kept rest = absurd rest
  at_rest at.Report a kept rest = absurd rest
  at_rest (at.Ended code) a kept rest = absurd (rest kept)

pub each : (program : ChildData) (past : List Own) (p : Place) (ready : Ready) (requests : List Request) (reader : Reader) (slot : ℕ) → Tells past p → HasRead (taken past) requests reader
    → IsAtRest past (due_at program (row_now p ready) p) → asked slot requests ≡ dealt_with slot past
each program past p ready requests reader slot tells read rest =
    let k = tells.counts in
    let r = at_rest program past p ready k.owed k.dealt p.row k.at tells.knows.kept rest in
    let same = whole p.inbox.intake p.inbox.ahead (taken past) (has_end past) k.dealt requests reader k.reads r.1 read in
    ap (λ rs. asked slot rs) same ∙ subst (λ o. asked slot k.dealt ≡ times slot (o ++ reported past) + runs slot (programs past)) r.0 (k.sums slot)

-- Starts

-- a program is started at its row alone
pub at_start : (program started : ChildData) (p : Place) (owed : List ℕ) (dealt : List Request) (row : Row) → At row p owed dealt → due_at program row p ≡ needs.Start started
    → AtWork p owed dealt × (program ≡ started)
at_start program started p owed dealt at.Start a is = (a, cc)
at_start program started p owed dealt at.Greet a is = absurd (cc)
at_start program started p owed dealt at.Idle a is = absurd (cc)
at_start program started p owed dealt at.TakeInput a is = absurd (cc)
at_start program started p owed dealt at.OpenMess a is = absurd (cc)
at_start program started p owed dealt (at.ReadMess fd) a is = absurd (cc)
at_start program started p owed dealt (at.CloseMess fd whole) a is = absurd (cc)
at_start program started p owed dealt at.Feed a is = absurd (cc)
at_start program started p owed dealt (at.TakeOutput slot) a is = absurd (cc)
at_start program started p owed dealt (at.TakeStatus slot) a is = absurd (cc)
at_start program started p owed dealt at.Report a is = absurd (cc)
at_start program started p owed dealt (at.Ended code) a is = absurd (cc)

earlier : (all first others given busy : ℕ) → all ≡ first + others → all ≡ (first + given) + busy → others ≡ given + busy
earlier all first others given busy e f = omega arith

pub starts : (program started : ChildData) (past : List Own) (p : Place) (ready : Ready) (requests : List Request) (reader : Reader) → slot_of program ≡ p.request.slot → Tells past p
    → HasRead (taken past) requests reader → due_at program (row_now p ready) p ≡ needs.Start started → IsStart past requests p.request started
starts program started past p ready requests reader here tells read due =
    let k = tells.counts in
    let a = at_start program started p k.owed k.dealt (row_now p ready) (comes_at p k.owed k.dealt p.row ready k.at) due in
    let w = a.0 in
    let o = prefix p.inbox.intake p.inbox.ahead (taken past) (has_end past) k.dealt requests reader k.reads read in
    record {
      before = w.before;
      after = o.0;
      split = o.1 ∙ ap (λ rs. rs ++ o.0) w.last ∙ append_assoc w.before (p.request ∷ []) o.0;
      runs = ap slot_of (sym a.1) ∙ here;
      good = subst (λ r. is_bad r p.request ≡ false) k.same w.good;
      others = λ slot.
          let all : asked slot k.dealt ≡ one slot p.request.slot + asked slot w.before = ap (λ rs. asked slot rs) w.last ∙ asked_push slot w.before p.request in
          let sum : asked slot k.dealt ≡ (one slot p.request.slot + times slot (reported past)) + runs slot (programs past)
          = subst (λ t. asked slot k.dealt ≡ times slot (t ++ reported past) + runs slot (programs past)) w.owes (k.sums slot) in
          earlier (asked slot k.dealt) (one slot p.request.slot) (asked slot w.before) (times slot (reported past)) (runs slot (programs past)) all sum;
    }

-- Ends

over_state : (past : List Own) (state : Intake) (ahead : List ℕ) (dealt : List Request) (status : ℕ) → Reads state ahead (taken past) (has_end past) dealt → Rests state ahead → IsOver past status
    → ended_by state ≡ at.Ended status
over_state past intake.Open ahead dealt status h rests (RequestsEnded end none) = absurd (false≢true (sym h.2 ∙ end))
over_state past intake.Open ahead dealt status h rests (FieldTooLong requests long none) =
    let s = all_rest dealt ahead (taken past) (has_end past) h rests in
    absurd (s.2 (one_reading (taken past) dealt requests s.0 Refused s.1 long).1)
over_state past intake.Ended ahead dealt status h rests (RequestsEnded end none) = refl
over_state past intake.Ended ahead dealt status h rests (FieldTooLong requests long none) =
    let e : Reading h.2.0 ≡ Refused = (one_reading (taken past) dealt requests (Reading h.2.0) Refused h.2.1 long).1 in absurd (cc)
over_state past intake.TooLong ahead dealt status h rests (RequestsEnded end none) = absurd (false≢true (sym h.1 ∙ end))
over_state past intake.TooLong ahead dealt status h rests (FieldTooLong requests long none) = refl

none_left : (past : List Own) (status : ℕ) → IsOver past status → none_runs (programs past) ≡ true
none_left past status (RequestsEnded end none) = none
none_left past status (FieldTooLong requests long none) = none

module _ (p : Place) (ready : Ready) (status : ℕ) (none : none_runs p.running ≡ true) where
  idle : (slot : ℕ) → runs_in p.running slot ≡ false
  idle slot = idle_slot p.running slot (not-true (any_runs p.running) none)

  rest_ends : (state : Intake) → ended_by state ≡ at.Ended status → (b : Bool) → b ≡ true → (if b then ended_by state else at.Idle) ≡ at.Ended status
  rest_ends state is true e = is
  rest_ends state is false e = absurd (false≢true e)

  turn_ends : resting p ≡ at.Ended status → (ended : Option ℕ) → turning p ended ≡ at.Ended status
  turn_ends is None = is
  turn_ends is (Some slot) = by (runs_in p.running slot) (idle slot) where
    by : (b : Bool) → b ≡ false → (if b then at.TakeOutput slot else resting p) ≡ at.Ended status
    by true e = absurd (true≢false e)
    by false e = is

  closed_by : (state : Intake) (links : Bool) → ended_by state ≡ at.Ended status → is_open state && links ≡ false
  closed_by intake.Open links is = absurd (cc)
  closed_by intake.Ended links is = refl
  closed_by intake.TooLong links is = refl

  idle_ends : ended_by p.inbox.intake ≡ at.Ended status → arrive at.Idle p ready ≡ at.Ended status
  idle_ends is = by (is_asked p ready) (closed_by p.inbox.intake (slice_index_or ready.links 0 false) is) where
    by : (b : Bool) → b ≡ false → (if b then at.TakeInput else turning p ready.child) ≡ at.Ended status
    by true e = absurd (true≢false e)
    by false e = turn_ends (rest_ends p.inbox.intake is (none_runs p.running) none) ready.child

owing : (all first others given busy : ℕ) → all ≡ first + others → first ≡ (1 + given) + busy → all ≡ given → ⊥
owing all first others given busy e f g = omega arith

module _ (past : List Own) (p : Place) (ready : Ready) (status : ℕ) (k : Counts (reported past) (programs past) (taken past) (has_end past) p) (s : IsSettled past) (over : IsOver past status) where
  -- no report is owed
  owes_none : (slot : ℕ) → k.owed ≡ slot ∷ [] → ⊥
  owes_none slot is =
      let o = prefix p.inbox.intake p.inbox.ahead (taken past) (has_end past) k.dealt s.requests s.reader k.reads s.read in
      let all : asked slot s.requests ≡ asked slot k.dealt + asked slot o.0 = ap (λ rs. asked slot rs) o.1 ∙ asked_append slot k.dealt o.0 in
      let sum : asked slot k.dealt ≡ (one slot slot + times slot (reported past)) + runs slot (programs past)
      = subst (λ t. asked slot k.dealt ≡ times slot (t ++ reported past) + runs slot (programs past)) is (k.sums slot) in
      owing (asked slot s.requests) (asked slot k.dealt) (asked slot o.0) (times slot (reported past)) (runs slot (programs past)) all
      (subst (λ n. asked slot k.dealt ≡ (n + times slot (reported past)) + runs slot (programs past)) (same_one slot) sum) (s.each slot)

  none : none_runs p.running ≡ true
  none = ap none_runs k.same ∙ none_left past status over

  idle_all : (slot : ℕ) → runs_in p.running slot ≡ true → ⊥
  idle_all slot busy = true≢false (sym busy ∙ idle p ready status none slot)

  pub over_ends : (row : Row) → At row p k.owed k.dealt → Kept past row → arrive row p ready ≡ at.Ended status
  over_ends at.Idle a kept = idle_ends p ready status none (over_state past p.inbox.intake p.inbox.ahead k.dealt status k.reads a.1 over)
  over_ends at.Greet a kept =
      let e : ended_by p.inbox.intake ≡ at.Ended status
      = over_state past p.inbox.intake p.inbox.ahead k.dealt status k.reads (subst (λ i. Rests i p.inbox.ahead) (sym a.1) a.2) over in
      absurd (open_going p.inbox.intake a.1 e)
    where
      open_going : (state : Intake) → state ≡ intake.Open → ended_by state ≡ at.Ended status → ⊥
      open_going intake.Open is e = cc
      open_going intake.Ended is e = cc
      open_going intake.TooLong is e = cc
  over_ends at.TakeInput a kept = absurd kept
  over_ends at.OpenMess a kept = absurd (owes_none p.request.slot a.owes)
  over_ends (at.ReadMess fd) a kept = absurd (owes_none p.request.slot a.owes)
  over_ends (at.CloseMess fd whole) a kept = absurd (owes_none p.request.slot a.owes)
  over_ends at.Start a kept = absurd (owes_none p.request.slot a.owes)
  over_ends at.Feed a kept = absurd (idle_all p.request.slot a.1)
  over_ends (at.TakeOutput slot) a kept = absurd (idle_all slot a.1)
  over_ends (at.TakeStatus slot) a kept = absurd (idle_all slot a.1)
  over_ends at.Report a kept = absurd (owes_none a.slot a.owes)
  over_ends (at.Ended code) a kept = absurd (s.well code kept)

pub settles : (past : List Own) (p : Place) (ready : Ready) (status : ℕ) → Tells past p → IsOver past status → IsSettled past → row_now p ready ≡ at.Ended status
settles past p ready status tells over s = over_ends past p ready status tells.counts s over p.row tells.counts.at tells.knows.kept
