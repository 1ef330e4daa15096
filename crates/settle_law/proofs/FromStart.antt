-- The first search of an idle turn goes from the start of `todo`.
use Rattle.std.proofs.Common.{◌≡◌, ℕ, List, [], ◌∷◌, Bool, true, false, if◌then◌else◌, Option, Some, None, refl, ap, ◌∙◌, subst, codes}
use Rattle.std.specs.Prelude.{is_some, slice_get}
use Rattle.call_fs.specs.declared.calls.CallData.TheVariants.{NextName}
use Rattle.call_fs.specs.declared.past.NeedData.TheVariants as needs
use Rattle.call_fs.specs.declared.past.Own.{Own}
use Rattle.call_fs.specs.declared.program.Ready.{Ready}
use Rattle.retry_schedule.specs.Due.{first_due}
use Rattle.send_core.specs.declared.desk.Desk.{Desk}
use Rattle.send_parts.specs.declared.row.Point.TheVariants as point
use Rattle.send_parts.specs.declared.row.Row.{Row}
use Rattle.send_parts.specs.declared.row.Row.TheVariants as at
use Rattle.send_core.specs.Desk.{due_on, next_idle, sweep_due}
use Rattle.send_core.specs.Stands.{is_search}
use Rattle.send_core.specs.Table.{arrive, beginning, due_at, finishing_by, from_begin, from_local, from_remote, from_reports, from_sweep, from_take, going_on, holds, link_of, marking, marking_by, or_else, passing, row_now, sweeping, taking}
use Rattle.send_jobs.specs.declared.attempts.Mark.{Mark}
use Rattle.send_known.specs.declared.channel.Channel.{Channel}
use Rattle.send_known.specs.declared.channel.Channel.TheVariants.{Local, Remote}
use Rattle.send_jobs.specs.Lanes.{next}
use Rattle.send_jobs.specs.Sending.{lane}
use Rattle.send_jobs.specs.Slots.{lowest}
use Rattle.send_parts.specs.declared.rows.Search.TheVariants as search
use Rattle.send_parts.specs.declared.rows.SweepRow.TheVariants as sweep
use Rattle.settle_law.specs.Rests.{BeginsTurn}
use Rattle.settle_law.proofs.IdleTurns.{Leads}

-- Where nothing else is to be done the turn comes to its search.

taking_left : (c : Channel) (ready : Ready) (row : Row) → Leads (or_else (taking c ready) row) → or_else (taking c ready) row ≡ row
taking_left c ready row e = by (holds (slice_get ready.links (link_of c))) e
  where
    by : (b : Bool) → Leads (or_else (if b then Some (at.TakeLink c) else None) row) → or_else (if b then Some (at.TakeLink c) else None) row ≡ row
    by true e = absurd (cc)
    by false e = refl

marking_left : (c : Channel) (ms : List Mark) (row : Row) → Leads (or_else (marking_by c (slice_get ms 0)) row) → or_else (marking_by c (slice_get ms 0)) row ≡ row
marking_left c [] row e = refl
marking_left c (m ∷ ms) row e = absurd (cc)

passing_left : (c : Channel) (d : Desk) (now : ℕ) (row : Row) → Leads (or_else (passing c true d now) row) → or_else (passing c true d now) row ≡ row
passing_left c d now row e = by_next (is_some (next (lane c d.slots))) e
  where
    by_slot : (o : Option ℕ) → Leads (or_else (going_on c o) row) → or_else (going_on c o) row ≡ row
    by_slot None e = refl
    by_slot (Some slot) e = absurd (cc)

    by_due : (o : Option (ℕ × ℕ)) → Leads (or_else (beginning c true o) row) → or_else (beginning c true o) row ≡ row
    by_due None e = refl
    by_due (Some entry) e = absurd (cc)

    by_next : (b : Bool) → Leads (or_else (if b then going_on c (lowest (lane c d.slots).slots) else beginning c true (first_due now (due_on c d.book.messages))) row)
        → or_else (if b then going_on c (lowest (lane c d.slots).slots) else beginning c true (first_due now (due_on c d.book.messages))) row ≡ row
    by_next true e = by_slot (lowest (lane c d.slots).slots) e
    by_next false e = by_due (first_due now (due_on c d.book.messages)) e

sweeping_left : (d : Desk) (now : ℕ) (row : Row) → Leads (or_else (sweeping d now) row) → or_else (sweeping d now) row ≡ row
sweeping_left d now row e = by (sweep_due now d.swept) e
  where
    by : (b : Bool) → Leads (or_else (if b then Some (at.Sweep sweep.First) else None) row) → or_else (if b then Some (at.Sweep sweep.First) else None) row ≡ row
    by true e = absurd (cc)
    by false e = refl

finishing_left : (o : Option ℕ) (row : Row) → Leads (or_else (finishing_by o) row) → or_else (finishing_by o) row ≡ row
finishing_left None row e = refl
finishing_left (Some n) row e = absurd (cc)

begin_left : (d : Desk) (now : ℕ) (ready : Ready) → Leads (from_begin d now ready) → from_begin d now ready ≡ at.FindTodo search.AfterLeft
begin_left d now ready e =
    let l = taking_left Local ready (from_take d now ready) e in
    let el : Leads (from_take d now ready) = subst Leads l e in
    let r = taking_left Remote ready (from_reports d now) el in
    let er : Leads (from_reports d now) = subst Leads r el in
    let ml = marking_left Local (lane Local d.slots).marks (or_else (marking Remote d) (from_local true d now)) er in
    let eml : Leads (or_else (marking Remote d) (from_local true d now)) = subst Leads ml er in
    let mr = marking_left Remote (lane Remote d.slots).marks (from_local true d now) eml in
    let emr : Leads (from_local true d now) = subst Leads mr eml in
    let pl = passing_left Local d now (from_remote true d now) emr in
    let epl : Leads (from_remote true d now) = subst Leads pl emr in
    l ∙ r ∙ ml ∙ mr ∙ pl ∙ passing_left Remote d now (at.FindTodo search.AfterLeft) epl

sweep_left : (d : Desk) (now : ℕ) (ready : Ready) → Leads (from_sweep d now ready) → from_sweep d now ready ≡ at.FindTodo search.AfterLeft
sweep_left d now ready e =
    let s = sweeping_left d now (from_begin d now ready) e in
    s ∙ begin_left d now ready (subst Leads s e)

row_left : (d : Desk) (row : Row) (now : ℕ) (ready : Ready) → BeginsTurn row → Leads (arrive row d now ready) → arrive row d now ready ≡ at.FindTodo search.AfterLeft
row_left d (at.Turn point.TakeLocal) now ready h e = begin_left d now ready e
row_left d (at.Turn point.Finish) now ready h e =
    let f = finishing_left (next_idle now d) (from_sweep d now ready) e in
    f ∙ sweep_left d now ready (subst Leads f e)
row_left d (at.Turn point.Sweep) now ready h e = sweep_left d now ready e
row_left d (at.Turn point.TakeRemote) now ready h e = absurd h
row_left d (at.Turn point.Reports) now ready h e = absurd h
row_left d (at.Turn (point.Pass c may)) now ready h e = absurd h
row_left d (at.Start row) now ready h e = absurd h
row_left d (at.TakeLink c) now ready h e = absurd h
row_left d (at.Mark row m) now ready h e = absurd h
row_left d (at.UnlinkFile c n p) now ready h e = absurd h
row_left d (at.ReadFile c n begun reading) now ready h e = absurd h
row_left d (at.Request c) now ready h e = absurd h
row_left d (at.FindTodo s) now ready h e = absurd h
row_left d at.InTodo now ready h e = absurd h
row_left d (at.Finish row n) now ready h e = absurd h
row_left d (at.Sweep row) now ready h e = absurd h
row_left d (at.Ended status) now ready h e = absurd h

-- So it goes from the start, if no number was left.

pub begins_search : (d : Desk) (event : Own) → BeginsTurn d.row → is_search (row_now d event.read event.ready) ≡ true → row_now d event.read event.ready ≡ at.FindTodo search.AfterLeft
begins_search d event begins leads = row_left d d.row event.read event.ready begins leads

pub from_start : (d : Desk) (event : Own) → BeginsTurn d.row → is_search (row_now d event.read event.ready) ≡ true → d.last_left ≡ []
    → due_at (row_now d event.read event.ready) d ≡ needs.File (NextName (codes "todo") [])
from_start d event begins leads left =
    ap (λ (r : Row). due_at r d) (begins_search d event begins leads) ∙ ap (λ (l : List ℕ). needs.File (NextName (codes "todo") l)) left
