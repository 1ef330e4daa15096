-- What a sender gives its cleaner and takes from it, row by row.
use Rattle.std.proofs.Common.{◌≡◌, ℕ, List, Bool, true, false, Option, Some, None, refl, sym, ◌∙◌, ◌⊎◌, subst, ⊎_elim}
use Rattle.std.specs.Prelude.{if◌then◌else◌, is_some, slice_get}
use Rattle.call_fs.specs.declared.past.NeedData.TheVariants as needs
use Rattle.call_fs.specs.declared.program.Port.{Port}
use Rattle.call_fs.specs.declared.program.Port.TheVariants as port
use Rattle.call_fs.specs.declared.program.Ready.{Ready}
use Rattle.queue_clean.specs.declared.command.Command.{Command}
use Rattle.queue_clean.specs.declared.command.Command.TheVariants.{Foop, Todo}
use Rattle.queue_clean.specs.Commands.{text_of, ended}
use Rattle.retry_schedule.specs.Due.{first_due}
use Rattle.send_jobs.specs.declared.attempts.Mark.{Mark}
use Rattle.send_known.specs.declared.channel.Channel.{Channel}
use Rattle.send_known.specs.declared.channel.Channel.TheVariants as channel
use Rattle.send_jobs.specs.Lanes.{next}
use Rattle.send_jobs.specs.Sending.{lane}
use Rattle.send_jobs.specs.Slots.{lowest}
use Rattle.send_parts.specs.declared.reading.Reading.TheVariants as reading
use Rattle.send_parts.specs.declared.rows.FinishRow.TheVariants as finish
use Rattle.send_parts.specs.declared.rows.StartRow.TheVariants as start
use Rattle.send_parts.specs.declared.rows.SweepRow.TheVariants as sweep
use Rattle.send_parts.specs.Steps.{remove_text}
use Rattle.todo_pass.specs.declared.row.Row.{Row as PassRow}
use Rattle.todo_pass.specs.declared.row.Row.TheVariants as todo
use Rattle.todo_pass.specs.Table.{Pass, command_text}
use Rattle.send_core.specs.declared.desk.Desk.{Desk}
use Rattle.send_parts.specs.declared.row.MarkRow.TheVariants as mark
use Rattle.send_parts.specs.declared.row.Point.{Point}
use Rattle.send_parts.specs.declared.row.Point.TheVariants as point
use Rattle.send_parts.specs.declared.row.Row.{Row}
use Rattle.send_parts.specs.declared.row.Row.TheVariants as at
use Rattle.send_core.specs.Desk.{due_on, sweep_due, next_idle}
use Rattle.send_core.specs.Table.{arrive, beginning, due_at, finishing, finishing_by, from_begin, from_local, from_point, from_remote, from_reports, from_sweep, from_take, going_on, holds, link_of, marking, marking_by, moved_by, or_else, passing, sweeping, taking}
use Rattle.program_law.specs.Errand.Errands.Awaits.{Nothing, Answer, Over}
use Rattle.program_law.proofs.Sender.NoteDue.{note_gives, note_takes, return_gives, return_takes}
use Rattle.program_law.specs.Sender.Waits.{awaits_at, GivesAt, awaits}
use Rattle.call_fs.specs.declared.past.GotData.{GotData}
use Rattle.call_fs.specs.declared.past.GotData.TheVariants as came

-- Texts

given_text : (p o : Port) (own text other : List ℕ) → needs.Give p own ≡ needs.Give o text → own ≡ other → text ≡ other
given_text p o own text other due is = (let same : own ≡ text = cc in sym same ∙ is)

-- Givings

-- the desk with its pass at this row
abbrev pub passing_at : Desk → PassRow → Desk
passing_at d r = record d { pass = record d.pass { row = r } }

pass_gives : (d : Desk) (r : PassRow) (text : List ℕ) → due_at at.InTodo (passing_at d r) ≡ needs.Give port.Clean text → GivesAt at.InTodo (passing_at d r) text
pass_gives d todo.Give text due = record {
  command = Todo d.pass.n;
  is = refl;
  text_is = given_text port.Clean port.Clean (command_text d.pass.n) text (ended (text_of (Todo d.pass.n))) due refl;
  idle = refl;
  given = λ now. refl;
  failed = λ now. refl;
}
pass_gives d row text due = absurd (cc)

pub gives : (d : Desk) (row : Row) (text : List ℕ) → due_at row d ≡ needs.Give port.Clean text → GivesAt row d text
gives d (at.Start (start.Control f reading.Opening)) text due = absurd (cc)
gives d (at.Start (start.ReadInfo split n reading.Opening)) text due = absurd (cc)
gives d (at.Mark mark.Noting m) text due = absurd (note_gives d.note.row d.note port.Clean text due)
gives d (at.ReadFile c n begun reading.Opening) text due = absurd (cc)
gives d (at.Request channel.Local) text due = absurd (cc)
gives d at.InTodo text due = pass_gives d d.pass.row text due
gives d (at.Finish finish.Give n) text due = record {
  command = Foop n;
  is = refl;
  text_is = given_text port.Clean port.Clean (remove_text n) text (ended (text_of (Foop n))) due refl;
  idle = refl;
  given = λ now. refl;
  failed = λ now. refl;
}
gives d (at.Finish finish.Return n) text due = absurd (return_gives d.bounce.row d.bounce text due)
gives d (at.Sweep (sweep.Give split n)) text due = record {
  command = Foop n;
  is = refl;
  text_is = given_text port.Clean port.Clean (remove_text n) text (ended (text_of (Foop n))) due refl;
  idle = refl;
  given = λ now. refl;
  failed = λ now. refl;
}
gives d row text due = absurd (cc)

-- Takings

abbrev Taken : Row → Desk → Type 0
Taken row d = (command : Command) × (awaits_at row d.pass ≡ Answer command)

pass_takes : (d : Desk) (r : PassRow) → due_at at.InTodo (passing_at d r) ≡ needs.Take port.Clean → Taken at.InTodo (passing_at d r)
pass_takes d todo.Answer due = (Todo d.pass.n, refl)
pass_takes d row due = absurd (cc)

pub takes : (d : Desk) (row : Row) → due_at row d ≡ needs.Take port.Clean → Taken row d
takes d (at.Start (start.Control f reading.Opening)) due = absurd (cc)
takes d (at.Start (start.ReadInfo split n reading.Opening)) due = absurd (cc)
takes d (at.TakeLink channel.Local) due = absurd (cc)
takes d (at.Mark mark.Noting m) due = absurd (note_takes d.note.row d.note port.Clean due)
takes d (at.ReadFile c n begun reading.Opening) due = absurd (cc)
takes d at.InTodo due = pass_takes d d.pass.row due
takes d (at.Finish finish.Take n) due = (Foop n, refl)
takes d (at.Finish finish.Return n) due = absurd (return_takes d.bounce.row d.bounce due)
takes d (at.Sweep (sweep.Take split n)) due = (Foop n, refl)
takes d row due = absurd (cc)

pass_waits : (d : Desk) (r : PassRow) (c : Command) → awaits_at at.InTodo (record d.pass { row = r }) ≡ Answer c → due_at at.InTodo (passing_at d r) ≡ needs.Take port.Clean
pass_waits d todo.Answer c is = refl
pass_waits d row c is = absurd (cc)

pub waits : (d : Desk) (row : Row) (c : Command) → awaits_at row d.pass ≡ Answer c → due_at row d ≡ needs.Take port.Clean
waits d at.InTodo c is = pass_waits d d.pass.row c is
waits d (at.Finish finish.Take n) c is = refl
waits d (at.Sweep (sweep.Take split n)) c is = refl
waits d row c is = absurd (cc)

-- A taking that brought nothing

abbrev Loses : Row → Desk → Type 0
Loses row d = (now : ℕ) (got : GotData) → (got ≡ came.End) ⊎ (got ≡ came.Failed) → awaits (moved_by row now got d) ≡ Over

loses_by : (row : Row) (d : Desk) → ((now : ℕ) → awaits (moved_by row now came.End d) ≡ Over) → ((now : ℕ) → awaits (moved_by row now came.Failed d) ≡ Over) → Loses row d
loses_by row d one two now got is = ⊎_elim
    (λ (same : got ≡ came.End). subst (λ g. awaits (moved_by row now g d) ≡ Over) (sym same) (one now))
    (λ (same : got ≡ came.Failed). subst (λ g. awaits (moved_by row now g d) ≡ Over) (sym same) (two now))
    is

pass_loses : (d : Desk) (r : PassRow) (c : Command) → awaits_at at.InTodo (record d.pass { row = r }) ≡ Answer c → Loses at.InTodo (passing_at d r)
pass_loses d todo.Answer c is = loses_by at.InTodo (passing_at d todo.Answer) (λ now. refl) (λ now. refl)
pass_loses d row c is = absurd (cc)

loses : (d : Desk) (row : Row) (c : Command) → awaits_at row d.pass ≡ Answer c → Loses row d
loses d at.InTodo c is = pass_loses d d.pass.row c is
loses d (at.Finish finish.Take n) c is = loses_by (at.Finish finish.Take n) d (λ now. refl) (λ now. refl)
loses d (at.Sweep (sweep.Take split n)) c is = loses_by (at.Sweep (sweep.Take split n)) d (λ now. refl) (λ now. refl)
loses d row c is = absurd (cc)

pub lost : (d : Desk) (row : Row) (now : ℕ) (got : GotData) → due_at row d ≡ needs.Take port.Clean → (got ≡ came.End) ⊎ (got ≡ came.Failed)
    → awaits (moved_by row now got d) ≡ Over
lost d row now got due is = let w = takes d row due in loses d row w.0 w.1 now got is

-- Where a turn goes on

-- a row at which a point of a turn begins something
abbrev pub Begins : Row → Type 0
Begins (at.TakeLink c) = Unit {0}
Begins (at.Mark row m) = Unit {0}
Begins (at.ReadFile c n begun r) = Unit {0}
Begins (at.Request c) = Unit {0}
Begins (at.FindTodo search) = Unit {0}
Begins (at.Finish finish.OpenBounce n) = Unit {0}
Begins (at.Sweep sweep.First) = Unit {0}
Begins row = ⊥

begins_free : (row : Row) (p : Pass) → Begins row → awaits_at row p ≡ Nothing
begins_free (at.TakeLink c) p h = refl
begins_free (at.Mark row m) p h = refl
begins_free (at.ReadFile c n begun r) p h = refl
begins_free (at.Request c) p h = refl
begins_free (at.FindTodo search) p h = refl
begins_free (at.Finish finish.OpenBounce n) p h = refl
begins_free (at.Sweep sweep.First) p h = refl
begins_free row p h = absurd h

abbrev May : Option Row → Type 0
May None = Unit {0}
May (Some row) = Begins row

either : (o : Option Row) (row : Row) → May o → Begins row → Begins (or_else o row)
either None row may rest = rest
either (Some first) row may rest = may

may_take : (c : Channel) (full : Bool) → May (if full then Some (at.TakeLink c) else None)
may_take c true = tt
may_take c false = tt

may_mark : (c : Channel) (o : Option Mark) → May (marking_by c o)
may_mark c None = tt
may_mark c (Some m) = tt

may_go : (c : Channel) (o : Option ℕ) → May (going_on c o)
may_go c None = tt
may_go c (Some slot) = tt

may_begin : (c : Channel) (may : Bool) (o : Option (ℕ × ℕ)) → May (beginning c may o)
may_begin c false o = tt
may_begin c true None = tt
may_begin c true (Some e) = tt

may_pass_by : (c : Channel) (open_pass may : Bool) (slot : Option ℕ) (due : Option (ℕ × ℕ)) → May (if open_pass then going_on c slot else beginning c may due)
may_pass_by c true may slot due = may_go c slot
may_pass_by c false may slot due = may_begin c may due

may_pass : (c : Channel) (may : Bool) (d : Desk) (now : ℕ) → May (passing c may d now)
may_pass c may d now = may_pass_by c (is_some (next (lane c d.slots))) may (lowest (lane c d.slots).slots) (first_due now (due_on c d.book.messages))

may_finish : (o : Option ℕ) → May (finishing_by o)
may_finish None = tt
may_finish (Some n) = tt

may_sweep : (due : Bool) → May (if due then Some (at.Sweep sweep.First) else None)
may_sweep true = tt
may_sweep false = tt

module _ (d : Desk) (now : ℕ) (ready : Ready) where
  remote_begins : (may : Bool) → Begins (from_remote may d now)
  remote_begins may = either (passing channel.Remote may d now) _ (may_pass channel.Remote may d now) tt

  local_begins : (may : Bool) → Begins (from_local may d now)
  local_begins may = either (passing channel.Local may d now) _ (may_pass channel.Local may d now) (remote_begins true)

  reports_begin : Begins (from_reports d now)
  reports_begin =
      either (marking channel.Local d) _ (may_mark channel.Local (slice_get (lane channel.Local d.slots).marks 0))
      (either (marking channel.Remote d) _ (may_mark channel.Remote (slice_get (lane channel.Remote d.slots).marks 0)) (local_begins true))

  take_begins : Begins (from_take d now ready)
  take_begins = either (taking channel.Remote ready) _ (may_take channel.Remote (holds (slice_get ready.links (link_of channel.Remote)))) reports_begin

  begin_begins : Begins (from_begin d now ready)
  begin_begins = either (taking channel.Local ready) _ (may_take channel.Local (holds (slice_get ready.links (link_of channel.Local)))) take_begins

  sweep_begins : Begins (from_sweep d now ready)
  sweep_begins = either (sweeping d now) _ (may_sweep (sweep_due now d.swept)) begin_begins

  pub point_begins : (p : Point) → Begins (from_point p d now ready)
  point_begins point.TakeLocal = begin_begins
  point_begins point.TakeRemote = take_begins
  point_begins point.Reports = reports_begin
  point_begins (point.Pass channel.Local may) = local_begins may
  point_begins (point.Pass channel.Remote may) = remote_begins may
  point_begins point.Finish = either (finishing d now) _ (may_finish (next_idle now d)) sweep_begins
  point_begins point.Sweep = sweep_begins

pub arrives : (row : Row) (d : Desk) (read : ℕ) (ready : Ready) → awaits_at (arrive row d read ready) d.pass ≡ awaits_at row d.pass
arrives (at.Turn p) d read ready = begins_free (from_point p d read ready) d.pass (point_begins d read ready p)
arrives (at.Sweep row) d read ready = refl
arrives (at.Start row) d read ready = refl
arrives (at.TakeLink c) d read ready = refl
arrives (at.Mark row m) d read ready = refl
arrives (at.UnlinkFile c n p) d read ready = refl
arrives (at.ReadFile c n begun r) d read ready = refl
arrives (at.Request c) d read ready = refl
arrives (at.FindTodo search) d read ready = refl
arrives at.InTodo d read ready = refl
arrives (at.Finish row n) d read ready = refl
arrives (at.Ended status) d read ready = refl
