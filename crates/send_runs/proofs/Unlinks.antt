-- Which channel file is unlinked next, and what a request that goes out leaves of passes.
use Rattle.std.proofs.Common.{◌≡◌, ◌⊎◌, ℕ, zero, suc, ◌<◌, List, [], ◌∷◌, set, length, arith, Bool, true, false, not, Option, Some, None, refl, sym, ap, ◌∙◌, subst, inl, inr, ⊎_elim, eqb-true}
use Rattle.std.specs.Prelude.{◌&&◌, ◌||◌, ◌==◌}
use Rattle.std.specs.List.{list_any}
use Rattle.std.proofs.lemmas.Bool.{or_right}
use Rattle.bounce_record.specs.declared.note_row.NoteRow.{NoteRow}
use Rattle.bounce_record.specs.declared.note_row.NoteRow.TheVariants as written
use Rattle.bounce_record.specs.declared.return_row.ReturnRow.{ReturnRow}
use Rattle.bounce_record.specs.declared.return_row.ReturnRow.TheVariants as back
use Rattle.bounce_record.specs.Returning.{Returning, due_at as return_due_at}
use Rattle.bounce_record.specs.Writing.{Writing, due_at as note_due_at}
use Rattle.call_fs.specs.declared.calls.CallData.TheVariants as call
use Rattle.call_fs.specs.declared.calls.How.TheVariants as how
use Rattle.call_fs.specs.declared.past.NeedData.{NeedData}
use Rattle.call_fs.specs.declared.past.NeedData.TheVariants as needs
use Rattle.queue_paths.specs.declared.names.Name.TheVariants as name
use Rattle.queue_paths.specs.Names.{Name, name_of, parse, path}
use Rattle.queue_paths.specs.Names.Name.{Of as NameOf}
use Rattle.queue_paths.specs.Names.Part.{Bounce as BounceFile, Info as InfoFile, Local as LocalFile, Remote as RemoteFile}
use Rattle.queue_paths.proofs.Paths.{parse-path}
use Rattle.send_core.specs.Agrees.{is_same}
use Rattle.send_core.specs.Table.{due_at}
use Rattle.send_core.specs.declared.desk.Desk.{Desk}
use Rattle.send_parts.specs.declared.row.MarkRow.TheVariants as mark
use Rattle.send_parts.specs.declared.row.Row.{Row}
use Rattle.send_parts.specs.declared.row.Row.TheVariants as at
use Rattle.send_jobs.specs.declared.attempts.Attempt.{Attempt}
use Rattle.send_known.specs.declared.channel.Channel.{Channel}
use Rattle.send_known.specs.declared.channel.Channel.TheVariants.{Local, Remote}
use Rattle.send_jobs.specs.declared.lane.Lane.{Lane}
use Rattle.send_jobs.proofs.SlotLemmas.{lowest_is_least}
use Rattle.send_parts.specs.Channels.{file_of}
use Rattle.send_jobs.specs.Lanes.{is_in_flight, is_mark_on, is_open_on, next, numbered, sent_in}
use Rattle.send_jobs.specs.Slots.{IsLeastFree, attempt_in, is_on, lowest}
use Rattle.send_parts.specs.declared.reading.Reading.{Reading as FileReading}
use Rattle.send_parts.specs.declared.reading.Reading.TheVariants.{Closing, Going, Opening, Shutting}
use Rattle.send_parts.specs.declared.rows.FinishRow.TheVariants as finish
use Rattle.send_parts.specs.declared.rows.StartRow.TheVariants as start
use Rattle.send_parts.specs.declared.rows.SweepRow.TheVariants as sweep
use Rattle.send_parts.specs.declared.step.Step.{Step}
use Rattle.send_parts.specs.declared.step.Step.TheVariants as step
use Rattle.send_parts.specs.Readings.{reading_step}
use Rattle.send_parts.specs.Steps.{due_by as due_by_step}
use Rattle.todo_pass.specs.declared.part.Target.TheVariants as target
use Rattle.todo_pass.specs.declared.row.Row.{Row as PassRow}
use Rattle.todo_pass.specs.declared.row.Row.TheVariants as todo
use Rattle.todo_pass.specs.Table.{Pass}
use Rattle.todo_pass.specs.Table as pass_table
use Rattle.send_runs.specs.DueMoments.{is_file}
use Rattle.send_runs.specs.Dues.{unlinks}
use Rattle.send_runs.proofs.Clearing.{ClearedAt, PassCleared}
use Rattle.send_runs.proofs.Fates.{busy, flies_not_over, is_unlinking, over, owing}
use Rattle.send_runs.proofs.Quiet.{no_bounce, no_info}
use Rattle.std.proofs.Math.Bool.{and-false}

-- The row at which the next event begins unlinks the channel file of a message, or not

module _ (c : Channel) (n : ℕ) (clears : Bool) where
  abbrev Unlinks : NeedData → Bool
  Unlinks due = unlinks c n clears due

  no_file : (x : Name) → is_file c n (Some x) ≡ false → Unlinks (needs.File (call.Unlink (path x))) ≡ false
  no_file x none = ap (λ (o : Option Name). not clears && is_file c n o) (parse-path x) ∙ ap (λ (b : Bool). not clears && b) none ∙ and-false (not clears)

  cleared : (text : List ℕ) → clears ≡ true → Unlinks (needs.File (call.Unlink text)) ≡ false
  cleared text e = ap (λ (b : Bool). not b && is_file c n (parse text)) e

  unlinks_file : (e : Channel) (k : ℕ) → clears ≡ false → Unlinks (needs.File (call.Unlink (path (name_of (file_of e k))))) ≡ (is_same c e && (k == n))
  unlinks_file e k own = ap (λ (b : Bool). not b && is_file c n (parse (path (name_of (file_of e k))))) own ∙ by c e where
    by : (c e : Channel) → is_file c n (parse (path (name_of (file_of e k)))) ≡ (is_same c e && (k == n))
    by Local Local = ap (λ (o : Option Name). is_file Local n o) (parse-path (NameOf LocalFile k))
    by Remote Remote = ap (λ (o : Option Name). is_file Remote n o) (parse-path (NameOf RemoteFile k))
    by Local Remote = ap (λ (o : Option Name). is_file Local n o) (parse-path (NameOf RemoteFile k))
    by Remote Local = ap (λ (o : Option Name). is_file Remote n o) (parse-path (NameOf LocalFile k))

  no_reading : (reading : FileReading) (opening : Step) (read : List ℕ) → Unlinks (due_by_step opening []) ≡ false → Unlinks (due_by_step (reading_step reading opening (length read)) []) ≡ false
  no_reading Opening opening read e = e
  no_reading (Going fd) opening read e = refl
  no_reading (Closing fd) opening read e = refl
  no_reading (Shutting fd) opening read e = refl

  no_note : (row : NoteRow) (w : Writing) → Unlinks (note_due_at row w) ≡ false
  no_note written.Written w = refl
  no_note row w = refl

  no_return : (row : ReturnRow) (r : Returning) → Unlinks (return_due_at row r) ≡ false
  no_return back.Unlink r = no_file (NameOf BounceFile r.n) (no_bounce c n r.n)
  no_return back.Discard r = no_file (NameOf BounceFile r.n) (no_bounce c n r.n)
  no_return back.Over r = refl
  no_return row r = refl

  no_pass : (row : PassRow) (p : Pass) → PassCleared row clears → Unlinks (pass_table.due_at row p) ≡ false
  no_pass (todo.Clear target.Info) p e = no_file (NameOf InfoFile p.n) (no_info c n p.n)
  no_pass (todo.Clear target.Local) p e = cleared (path (NameOf LocalFile p.n)) e
  no_pass (todo.Clear target.Remote) p e = cleared (path (NameOf RemoteFile p.n)) e
  no_pass todo.Done p e = refl
  no_pass row p e = refl

  pub unlinks_row : (row : Row) (d : Desk) → ClearedAt row d.pass clears → Unlinks (due_at row d) ≡ is_unlinking c n row
  unlinks_row (at.Start (start.Control file reading)) d e = no_reading reading (step.OpenControl file) d.book.read refl
  unlinks_row (at.Start (start.ReadInfo split k reading)) d e = no_reading reading (step.Open (name.Info k) how.Read) d.book.read refl
  unlinks_row (at.Start start.GreetLocal) d e = refl
  unlinks_row (at.Start row) d e = refl
  unlinks_row (at.Turn p) d e = refl
  unlinks_row (at.TakeLink Local) d e = refl
  unlinks_row (at.TakeLink Remote) d e = refl
  unlinks_row (at.Mark mark.Noting m) d e = no_note d.note.row d.note
  unlinks_row (at.Mark row m) d e = refl
  unlinks_row (at.UnlinkFile x k p) d e = unlinks_file x k e
  unlinks_row (at.ReadFile x k begun reading) d e = no_reading reading (step.Open (file_of x k) how.Read) d.book.read refl
  unlinks_row (at.Request Local) d e = refl
  unlinks_row (at.Request Remote) d e = refl
  unlinks_row (at.FindTodo search) d e = refl
  unlinks_row at.InTodo d e = no_pass d.pass.row d.pass e
  unlinks_row (at.Finish finish.OpenBounce k) d e = refl
  unlinks_row (at.Finish finish.Return k) d e = no_return d.bounce.row d.bounce
  unlinks_row (at.Finish finish.UnlinkInfo k) d e = no_file (NameOf InfoFile k) (no_info c n k)
  unlinks_row (at.Finish row k) d e = refl
  unlinks_row (at.Sweep sweep.First) d e = refl
  unlinks_row (at.Sweep row) d e = refl
  unlinks_row (at.Ended status) d e = refl

-- A request goes out

set_here : (slots : List (Option Attempt)) (slot : ℕ) (y : Option Attempt) → slot < length slots → attempt_in (set slots slot y) slot ≡ y
set_here [] slot y lt = absurd (omega arith)
set_here (s ∷ slots) zero y lt = refl
set_here (s ∷ slots) (suc slot) y lt = set_here slots slot y (omega arith)

set_keeps : (n : ℕ) (slots : List (Option Attempt)) (slot : ℕ) (y : Option Attempt) → attempt_in slots slot ≡ None → list_any (is_on n) slots ≡ true → list_any (is_on n) (set slots slot y) ≡ true
set_keeps n [] slot y free e = e
set_keeps n (s ∷ slots) zero y free e = or_right (is_on n y) (list_any (is_on n) slots) (sym (ap (λ (b : Bool). b || list_any (is_on n) slots) (ap (is_on n) free)) ∙ e)
set_keeps n (s ∷ slots) (suc slot) y free e = by (λ more. set_keeps n slots slot y free more) (is_on n s) e where
  by : (list_any (is_on n) slots ≡ true → list_any (is_on n) (set slots slot y) ≡ true) → (b : Bool) → (b || list_any (is_on n) slots) ≡ true → (b || list_any (is_on n) (set slots slot y)) ≡ true
  by later true e = refl
  by later false e = later e

busy_by : (begun flies marks : Bool) → ((not begun && not flies) && not marks) ≡ false → begun ≡ false → (flies ≡ true) ⊎ (marks ≡ true)
busy_by true flies marks e none = absurd (cc)
busy_by false true marks e none = inl refl
busy_by false false true e none = inr refl
busy_by false false false e none = absurd (cc)

pub sent_busy : (n : ℕ) (o : Option ℕ) (y : Option Attempt) (k : ℕ) (l : Lane) → lowest l.slots ≡ o → next l ≡ y → over n l ≡ false → over n (sent_in o y k l) ≡ false
sent_busy n None y k l low first e = e
sent_busy n (Some slot) None k l low first e = e
sent_busy n (Some slot) (Some x) k l low first e = by (x.n == n) refl where
  least : IsLeastFree l.slots (Some slot)
  least = subst (IsLeastFree l.slots) low (lowest_is_least l.slots)

  after : Lane
  after = sent_in (Some slot) (Some x) k l

  by : (b : Bool) → (x.n == n) ≡ b → over n after ≡ false
  by true is = flies_not_over n after slot (numbered k x) (set_here l.slots slot (Some (numbered k x)) least.0) (eqb-true x.n n is)
  by false is = ⊎_elim
      (λ (flies : is_in_flight n l ≡ true). busy (is_open_on n after) (is_in_flight n after) (list_any (is_mark_on n) l.marks) (set_keeps n l.slots slot (Some (numbered k x)) least.1 flies))
      (λ (marks : list_any (is_mark_on n) l.marks ≡ true). owing (is_open_on n after) (is_in_flight n after) (list_any (is_mark_on n) l.marks) marks)
      (busy_by (is_open_on n l) (is_in_flight n l) (list_any (is_mark_on n) l.marks) e (ap (is_on n) first ∙ is))
