-- The end of an idle turn of a sender, by its table.
use Rattle.std.proofs.Common.{◌≡◌, ◌≢◌, ℕ, zero, suc, ◌<◌, List, [], ◌∷◌, ◌++◌, inl, inr, Bool, true, false, not, ◌&&◌, ◌||◌, if◌then◌else◌, Option, Some, None, refl, sym, ap, ◌∙◌, subst, arith}
use Rattle.std.specs.Prelude.{All, slice_index_or, nat_le, is_some, slice_get}
use Rattle.std.proofs.lemmas.Bool.{and_parts, leb-false}
use Rattle.call_fs.specs.declared.past.GotData.{GotData}
use Rattle.call_fs.specs.declared.past.Own.{Own}
use Rattle.call_fs.specs.declared.program.Ready.{Ready}
use Rattle.retry_schedule.proofs.Entries.{AllPairs-head}
use Rattle.retry_schedule.specs.Due.{IsBefore, IsInOrder, first_due}
use Rattle.send_core.specs.declared.desk.Desk.{Desk}
use Rattle.send_parts.specs.declared.row.Point.TheVariants as point
use Rattle.send_parts.specs.declared.row.Row.{Row}
use Rattle.send_parts.specs.declared.row.Row.TheVariants as at
use Rattle.send_core.specs.Desk.{due_on, next_idle, past_todo, stands_at, sweep_due, turn_over}
use Rattle.send_core.specs.Stands.{ends_idle, is_between, is_search}
use Rattle.send_core.specs.Table.{arrive, beginning, finishing_by, from_begin, from_local, from_remote, from_reports, from_sweep, from_take, going_on, holds, link_of, marking, marking_by, moved, moved_by, or_else, passing, row_now, sweeping, taking}
use Rattle.send_core.specs.Turn.{todo_found, todo_named, todo_none}
use Rattle.send_jobs.specs.declared.attempts.Mark.{Mark}
use Rattle.send_known.specs.declared.channel.Channel.{Channel}
use Rattle.send_known.specs.declared.channel.Channel.TheVariants.{Local, Remote}
use Rattle.send_known.specs.declared.messages.Messages.{Messages}
use Rattle.send_known.specs.Known.{first_idle}
use Rattle.send_jobs.specs.Lanes.{next}
use Rattle.send_jobs.specs.Sending.{lane}
use Rattle.send_jobs.specs.Slots.{lowest}
use Rattle.send_parts.specs.declared.reply.Way.{Way}
use Rattle.send_parts.specs.declared.reply.Way.TheVariants as way
use Rattle.send_parts.specs.declared.rows.Search.{Search}
use Rattle.send_parts.specs.declared.rows.Search.TheVariants as search
use Rattle.send_parts.specs.declared.rows.SweepRow.TheVariants as sweep
use Rattle.send_parts.specs.Files.{message_number}
use Rattle.send_parts.specs.Replies.{said}
use Rattle.send_parts.specs.Rows.{is_again}
use Rattle.scenario.specs.Chains.{EachFollows}
use Rattle.settle_law.specs.inside.Rests.{IdleTurnsRest, SearchesOn, ends_turn, newest_of}
use Rattle.settle_law.specs.Rests.{BeginsTurn, PassRests}
use Rattle.settle_law.specs.Suffices.{desk_of}
use Rattle.settle_law.proofs.Searching.{all_keep, search_keeps}

-- What comes before a search wasn't there.

abbrev pub Leads : Row → Type 0
Leads row = is_search row ≡ true

skip_taking : (c : Channel) (ready : Ready) (row : Row) → Leads (or_else (taking c ready) row) → (holds (slice_get ready.links (link_of c)) ≡ false) × Leads row
skip_taking c ready row e = by_test (holds (slice_get ready.links (link_of c))) refl e
  where
    by_test : (b : Bool) → holds (slice_get ready.links (link_of c)) ≡ b → Leads (or_else (if b then Some (at.TakeLink c) else None) row)
        → (holds (slice_get ready.links (link_of c)) ≡ false) × Leads row
    by_test true t eq = absurd (cc)
    by_test false t eq = (t, eq)

skip_marking : (c : Channel) (ms : List Mark) (row : Row) → Leads (or_else (marking_by c (slice_get ms 0)) row) → (ms ≡ []) × Leads row
skip_marking c [] row e = (refl, e)
skip_marking c (m ∷ ms) row e = absurd (cc)

-- what is first in order is due later than now, and so is each other
later_first : (now : ℕ) (x : ℕ × ℕ) (b : Bool) → nat_le x.0 now ≡ b → ◌≡◌ {A = Option (ℕ × ℕ)} (if b then Some x else None) None → now < x.0
later_first now x true t e = absurd (cc)
later_first now x false t e = let late = leb-false x.0 now t in omega (arith, late)

later_next : {now : ℕ} (x : ℕ × ℕ) → now < x.0 → (e : ℕ × ℕ) → IsBefore x e → now < e.0
later_next x late e (inl before) = omega (arith, late, before)
later_next x late e (inr same) = let it = same.0 in omega (arith, late, it)

none_due : (now : ℕ) (es : List (ℕ × ℕ)) → IsInOrder es → first_due now es ≡ None → All (λ e. now < e.0) es
none_due now [] order e k d lt = absurd (omega (arith, lt))
none_due now (x ∷ xs) order e zero d lt = later_first now x (nat_le x.0 now) refl e
none_due now (x ∷ xs) order e (suc k) d lt =
    later_next x (later_first now x (nat_le x.0 now) refl e) (slice_index_or xs k d) (AllPairs-head IsBefore x xs order k d (omega (arith, lt)))

skip_passing : (c : Channel) (d : Desk) (now : ℕ) (row : Row) → Leads (or_else (passing c true d now) row)
    → PassRests now (lane c d.slots) (due_on c d.book.messages) × Leads row
skip_passing c d now row e = by_next (is_some (next (lane c d.slots))) refl e
  where
    by_slot : is_some (next (lane c d.slots)) ≡ true → (o : Option ℕ) → lowest (lane c d.slots).slots ≡ o → Leads (or_else (going_on c o) row)
        → PassRests now (lane c d.slots) (due_on c d.book.messages) × Leads row
    by_slot t None s eq = (inl (t, s), eq)
    by_slot t (Some slot) s eq = absurd (cc)

    by_due : is_some (next (lane c d.slots)) ≡ false → (o : Option (ℕ × ℕ)) → first_due now (due_on c d.book.messages) ≡ o → Leads (or_else (beginning c true o) row)
        → PassRests now (lane c d.slots) (due_on c d.book.messages) × Leads row
    by_due t None s eq = (inr (t, λ order. none_due now (due_on c d.book.messages) order s), eq)
    by_due t (Some entry) s eq = absurd (cc)

    by_next : (b : Bool) → is_some (next (lane c d.slots)) ≡ b
        → Leads (or_else (if b then going_on c (lowest (lane c d.slots).slots) else beginning c true (first_due now (due_on c d.book.messages))) row)
        → PassRests now (lane c d.slots) (due_on c d.book.messages) × Leads row
    by_next true t eq = by_slot t (lowest (lane c d.slots).slots) refl eq
    by_next false t eq = by_due t (first_due now (due_on c d.book.messages)) refl eq

skip_sweeping : (d : Desk) (now : ℕ) (row : Row) → Leads (or_else (sweeping d now) row) → Leads row
skip_sweeping d now row e = by_test (sweep_due now d.swept) e
  where
    by_test : (b : Bool) → Leads (or_else (if b then Some (at.Sweep sweep.First) else None) row) → Leads row
    by_test true eq = absurd (cc)
    by_test false eq = eq

skip_finishing : (o : Option ℕ) (row : Row) → Leads (or_else (finishing_by o) row) → Leads row
skip_finishing None row e = e
skip_finishing (Some n) row e = absurd (cc)

record Before (d : Desk) (now : ℕ) (ready : Ready) : Type 0 where
  links : (c : Channel) → holds (slice_get ready.links (link_of c)) ≡ false
  marks : (c : Channel) → (lane c d.slots).marks ≡ []
  passes : (c : Channel) → PassRests now (lane c d.slots) (due_on c d.book.messages)

both : (P : Channel → Type 0) → P Local → P Remote → (c : Channel) → P c
both P l r Local = l
both P l r Remote = r

before_search : (d : Desk) (now : ℕ) (ready : Ready) → Leads (from_begin d now ready) → Before d now ready
before_search d now ready e =
    let l = skip_taking Local ready (from_take d now ready) e in
    let r = skip_taking Remote ready (from_reports d now) l.1 in
    let ml = skip_marking Local (lane Local d.slots).marks (or_else (marking Remote d) (from_local true d now)) r.1 in
    let mr = skip_marking Remote (lane Remote d.slots).marks (from_local true d now) ml.1 in
    let pl = skip_passing Local d now (from_remote true d now) mr.1 in
    let pr = skip_passing Remote d now (at.FindTodo search.AfterLeft) pl.1 in
    record {
      links = both (λ c. holds (slice_get ready.links (link_of c)) ≡ false) l.0 r.0;
      marks = both (λ c. (lane c d.slots).marks ≡ []) ml.0 mr.0;
      passes = both (λ c. PassRests now (lane c d.slots) (due_on c d.book.messages)) pl.0 pr.0;
    }

before_row : (d : Desk) (row : Row) (now : ℕ) (ready : Ready) → BeginsTurn row → Leads (arrive row d now ready) → Before d now ready
before_row d (at.Turn point.TakeLocal) now ready h e = before_search d now ready e
before_row d (at.Turn point.Finish) now ready h e =
    before_search d now ready (skip_sweeping d now (from_begin d now ready) (skip_finishing (next_idle now d) (from_sweep d now ready) e))
before_row d (at.Turn point.Sweep) now ready h e = before_search d now ready (skip_sweeping d now (from_begin d now ready) e)
before_row d (at.Turn point.TakeRemote) now ready h e = absurd h
before_row d (at.Turn point.Reports) now ready h e = absurd h
before_row d (at.Turn (point.Pass c may)) now ready h e = absurd h
before_row d (at.Start row) now ready h e = absurd h
before_row d (at.TakeLink c) now ready h e = absurd h
before_row d (at.Mark row m) now ready h e = absurd h
before_row d (at.UnlinkFile c n p) now ready h e = absurd h
before_row d (at.ReadFile c n begun reading) now ready h e = absurd h
before_row d (at.Request c) now ready h e = absurd h
before_row d (at.FindTodo s) now ready h e = absurd h
before_row d at.InTodo now ready h e = absurd h
before_row d (at.Finish row n) now ready h e = absurd h
before_row d (at.Sweep row) now ready h e = absurd h
before_row d (at.Ended status) now ready h e = absurd h

-- After it the turn was over.

record After (d : Desk) (now : ℕ) (came : GotData) : Type 0 where
  finished : next_idle now d ≡ None
  swept : sweep_due now d.swept ≡ false
  no_name : (said came).way ≢ way.Fine

pub is_none : {A : Type 0} (o : Option A) → is_some o ≡ false → o ≡ None
is_none None e = refl
is_none (Some x) e = absurd (cc)

over_by : (d : Desk) (now : ℕ) (a b : Bool) → is_some (next_idle now d) ≡ a → sweep_due now d.swept ≡ b
    → is_between (if a || b then stands_at d point.Finish else turn_over d).row ≡ true → (next_idle now d ≡ None) × (sweep_due now d.swept ≡ false)
over_by d now true b ta tb e = absurd (cc)
over_by d now false true ta tb e = absurd (cc)
over_by d now false false ta tb e = (is_none (next_idle now d) ta, tb)

over : (d : Desk) (now : ℕ) → is_between (past_todo now d).row ≡ true → (next_idle now d ≡ None) × (sweep_due now d.swept ≡ false)
over d now e = over_by d now (is_some (next_idle now d)) (sweep_due now d.swept) refl refl e

none_over : (again : Bool) (left : List ℕ) (d : Desk) (now : ℕ) → is_between (todo_none again left now d).row ≡ true
    → (next_idle now d ≡ None) × (sweep_due now d.swept ≡ false)
none_over true left d now e = over d now e
none_over false [] d now e = over d now e
none_over false (b ∷ bs) d now e = absurd (cc)

found_not : (o : Option ℕ) (text : List ℕ) (s : Search) (d : Desk) → is_between (todo_found o text s d).row ≡ true → ⊥
found_not None text s d e = absurd (cc)
found_not (Some n) text s d e = absurd (cc)

by_way : (w : Way) (text : List ℕ) (s : Search) (now : ℕ) (d : Desk) → is_between (todo_named w text s now d).row ≡ true
    → (w ≢ way.Fine) × ((next_idle now d ≡ None) × (sweep_due now d.swept ≡ false))
by_way way.Fine text s now d e = absurd (found_not (message_number text) text s d e)
by_way way.Over text s now d e = (λ no. absurd (cc), none_over (is_again s) d.last_left d now e)
by_way way.Absent text s now d e = (λ no. absurd (cc), none_over (is_again s) d.last_left d now e)
by_way way.Broken text s now d e = (λ no. absurd (cc), none_over (is_again s) d.last_left d now e)
by_way way.NoMemory text s now d e = (λ no. absurd (cc), none_over (is_again s) d.last_left d now e)

after_row : (row : Row) (d : Desk) (now : ℕ) (came : GotData) → Leads row → is_between (moved_by row now came d).row ≡ true → After d now came
after_row (at.FindTodo s) d now came l e =
    let it = by_way (said came).way (said came).bytes s now d e in record { finished = it.1.0; swept = it.1.1; no_name = it.0 }
after_row row d now came l e = absurd (cc)

ends_over : (d : Desk) (event : Own) → ends_idle d event ≡ true → After d event.read event.came
ends_over d event e =
    let row = row_now d event.read event.ready in
    let parts = and_parts (is_search row) (not d.busy && is_between (moved d event).row) e in
    let ends = and_parts (not d.busy) (is_between (moved d event).row) parts.1 in
    after_row row d event.read event.came parts.0 ends.1

-- by what it kept before the turn, at the moment of the first search
turn_after : (past : List Own) (first : Own) (later : List Own) → EachFollows (SearchesOn (first ∷ past) first.read) later → is_search (row_now (desk_of past) first.read first.ready) ≡ true
    → ends_turn past first later ≡ true → After (desk_of past) first.read (newest_of first later).came
turn_after past first [] all search e = ends_over (desk_of past) first e
turn_after past first (newest ∷ older) all search e =
    let a = ends_over (desk_of (older ++ first ∷ past)) newest e in
    let one = search_keeps (desk_of past) first search in
    let more = all_keep (first ∷ past) first.read older all.0 in
    record {
      finished = subst (λ (now : ℕ). next_idle now (desk_of past) ≡ None) all.1.1
          (ap (λ (m : Messages). first_idle newest.read m.known) (sym (more.messages ∙ one.messages)) ∙ a.finished);
      swept = subst (λ (now : ℕ). sweep_due now (desk_of past).swept ≡ false) all.1.1
          (ap (λ (o : Option ℕ). sweep_due newest.read o) (sym (more.swept ∙ one.swept)) ∙ a.swept);
      no_name = a.no_name;
    }

pub idle : IdleTurnsRest
idle past first later turn =
    let b = before_row (desk_of past) (desk_of past).row first.read first.ready turn.begins turn.searches in
    let a = turn_after past first later turn.goes_on turn.searches turn.ends in
    record {
      rests = record { links = b.links; marks = b.marks; passes = b.passes; finished = a.finished; swept = a.swept };
      no_name = a.no_name;
    }
