-- The calls of a return use what it holds open.
use Rattle.std.proofs.Common.{◌≡◌, ℕ, List, [], ◌∷◌, length, lit≤, true, false, Option, Some, None, sym, ap, subst}
use Rattle.std.specs.Prelude.{if◌then◌else◌, nat_lt, nat_eq}
use Rattle.std.specs.Option.{IsSome, is_some}
use Rattle.address_rules.specs.declared.controls.Controls.{Controls}
use Rattle.call_fs.specs.declared.calls.Answer.{Answer}
use Rattle.call_fs.specs.declared.calls.Answer.TheVariants as answer
use Rattle.call_fs.specs.declared.calls.CallData.TheVariants as call
use Rattle.call_fs.specs.declared.calls.Fd.{Fd}
use Rattle.call_fs.specs.declared.calls.FsError.TheVariants as error
use Rattle.call_fs.specs.declared.calls.How.TheVariants as how
use Rattle.call_fs.specs.declared.modes.Mode.{Mode}
use Rattle.call_fs.specs.declared.past.GotData.{GotData}
use Rattle.call_fs.specs.declared.past.GotData.TheVariants as came
use Rattle.call_fs.specs.declared.past.Own.{Own}
use Rattle.call_fs.specs.Columns.{IsAnswerTo}
use Rattle.call_fs.specs.Past.{held, held_by, held_after, UsesHeld}
use Rattle.call_fs.specs.Program.{MayCome}
use Rattle.call_fs.proofs.Maps.{put_same}
use Rattle.bounce_record.specs.declared.bounces.Bounce.{Bounce}
use Rattle.bounce_record.specs.declared.return_row.ReturnRow.{ReturnRow}
use Rattle.bounce_record.specs.declared.return_row.ReturnRow.TheVariants as at
use Rattle.bounce_record.specs.Returning.{Returning, awaited_row, bounce_at, given_row, goes, made, message_opened, message_path, message_read, notes_opened, notes_read, due_at, moved_at, started_row, unlinked_row}
use Rattle.bounce_record.specs.Runs.{IsReturn, returned_after}
use Rattle.bounce_record.specs.Writing.{bounce_path}
use Rattle.call_fs.proofs.Coming.{by_fit}

-- what a row holds open
abbrev pub HoldsReturn : (ℕ → Option Mode) → ReturnRow → Type 0
HoldsReturn h (at.ReadNotes fd) = h fd.0 ≡ Some (Mode.Opened how.Read)
HoldsReturn h (at.CloseNotes fd) = h fd.0 ≡ Some (Mode.Opened how.Read)
HoldsReturn h (at.ReadMessage fd) = h fd.0 ≡ Some (Mode.Opened how.Read)
HoldsReturn h (at.CloseMessage fd) = h fd.0 ≡ Some (Mode.Opened how.Read)
HoldsReturn h (at.Shut fd) = h fd.0 ≡ Some (Mode.Opened how.Read)
HoldsReturn h row = Unit {0}

is_held : (o : Option Mode) (mode : Mode) → o ≡ Some mode → IsSome o
is_held o mode e = ap is_some e

made_holds : (h : ℕ → Option Mode) (r : Returning) (o : Option Bounce) → HoldsReturn h (made r o).row
made_holds h r None = tt
made_holds h r (Some b) = tt

module _ (r : Returning) (h : ℕ → Option Mode) where
  opens_notes : (name : List ℕ) (told : Answer) → IsAnswerTo (call.Open name how.Read) told → HoldsReturn (held_after h (call.Open name how.Read) told) (goes r (notes_opened told)).row
  opens_notes name (answer.Opened fd) fit = put_same h fd.0 (Some (Mode.Opened how.Read))
  opens_notes name (answer.Refused error.NotThere) fit = tt
  opens_notes name (answer.Refused error.Fault) fit = tt
  opens_notes name (answer.Refused error.Memory) fit = tt
  opens_notes name told fit = absurd fit

  opens_message : (name : List ℕ) (told : Answer) → IsAnswerTo (call.Open name how.Read) told → HoldsReturn (held_after h (call.Open name how.Read) told) (goes r (message_opened told)).row
  opens_message name (answer.Opened fd) fit = put_same h fd.0 (Some (Mode.Opened how.Read))
  opens_message name (answer.Refused error.NotThere) fit = tt
  opens_message name (answer.Refused error.Fault) fit = tt
  opens_message name (answer.Refused error.Memory) fit = tt
  opens_message name told fit = absurd fit

  reads_notes : (fd : Fd) (from : ℕ) (told : Answer) (bytes : List ℕ) → h fd.0 ≡ Some (Mode.Opened how.Read) → IsAnswerTo (call.ReadAt fd from 8192) told
      → HoldsReturn (held_after h (call.ReadAt fd from 8192) told) (notes_read r fd told bytes).row
  reads_notes fd from (answer.Count count) bytes own fit =
      elim (nat_lt (length bytes) 8192) as (λ t. HoldsReturn h (if t then at.CloseNotes fd else at.ReadNotes fd)) [ true ↦ own | false ↦ own ]
  reads_notes fd from (answer.Refused error.Fault) bytes own fit = own
  reads_notes fd from told bytes own fit = absurd fit

  reads_message : (fd : Fd) (from : ℕ) (told : Answer) (bytes : List ℕ) → h fd.0 ≡ Some (Mode.Opened how.Read) → IsAnswerTo (call.ReadAt fd from 8192) told
      → HoldsReturn (held_after h (call.ReadAt fd from 8192) told) (message_read r fd told bytes).row
  reads_message fd from (answer.Count count) bytes own fit =
      elim (nat_lt (length bytes) 8192) as (λ t. HoldsReturn h (if t then at.CloseMessage fd else at.ReadMessage fd)) [ true ↦ own | false ↦ own ]
  reads_message fd from (answer.Refused error.Fault) bytes own fit = own
  reads_message fd from told bytes own fit = absurd fit

  unlinks : (name : List ℕ) (told : Answer) → HoldsReturn (held_after h (call.Unlink name) told) (goes r (unlinked_row told)).row
  unlinks name answer.Done = tt
  unlinks name (answer.Created fd number) = tt
  unlinks name (answer.Opened fd) = tt
  unlinks name (answer.Count count) = tt
  unlinks name (answer.Stat stat) = tt
  unlinks name (answer.Name found) = tt
  unlinks name answer.NoName = tt
  unlinks name (answer.Refused reason) = tt

  starts : (k : ℕ → Option Mode) (got : GotData) → HoldsReturn k (goes r (started_row got)).row
  starts k (came.Started pid) = tt
  starts k (came.Answered told) = tt
  starts k (came.Took bytes) = tt
  starts k came.End = tt
  starts k (came.Ended status) = tt
  starts k came.Crashed = tt
  starts k came.Gave = tt
  starts k came.Failed = tt
  starts k came.Memory = tt

  gives : (k : ℕ → Option Mode) (pid : ℕ) (got : GotData) → HoldsReturn k (goes r (given_row pid got)).row
  gives k pid came.Gave = tt
  gives k pid (came.Started other) = tt
  gives k pid (came.Answered told) = tt
  gives k pid (came.Took bytes) = tt
  gives k pid came.End = tt
  gives k pid (came.Ended status) = tt
  gives k pid came.Crashed = tt
  gives k pid came.Failed = tt
  gives k pid came.Memory = tt

  awaits : (k : ℕ → Option Mode) (got : GotData) → HoldsReturn k (goes r (awaited_row got)).row
  awaits k (came.Ended status) = elim (nat_eq status 0) as (λ t. HoldsReturn k (goes r (if t then at.Unlink else at.Failed)).row) [ true ↦ tt | false ↦ tt ]
  awaits k (came.Answered told) = tt
  awaits k (came.Took bytes) = tt
  awaits k came.End = tt
  awaits k came.Crashed = tt
  awaits k came.Gave = tt
  awaits k (came.Started pid) = tt
  awaits k came.Failed = tt
  awaits k came.Memory = tt

module _ (controls : Controls) (sender : List ℕ) (r : Returning) (now : ℕ) (h : ℕ → Option Mode) where
  abbrev pub StepOf : ReturnRow → GotData → Type 0
  StepOf row got = HoldsReturn (held_by h (due_at row r) got) (moved_at controls sender row r now got).row

  pub step : (row : ReturnRow) (got : GotData) → HoldsReturn h row → MayCome (due_at row r) got → StepOf row got
  step at.Open got own may = by_fit (call.Open (bounce_path r.n) how.Read) (StepOf at.Open) got may (λ told fit. opens_notes r h (bounce_path r.n) told.answer fit)
  step (at.ReadNotes fd) got own may =
      by_fit (call.ReadAt fd (length r.notes) 8192) (StepOf (at.ReadNotes fd)) got may (λ told fit. reads_notes r h fd (length r.notes) told.answer told.bytes own fit)
  step (at.CloseNotes fd) got own may = by_fit (call.Close fd) (StepOf (at.CloseNotes fd)) got may (λ told fit. tt)
  step at.OpenMessage got own may = by_fit (call.Open (message_path r.n) how.Read) (StepOf at.OpenMessage) got may (λ told fit. opens_message r h (message_path r.n) told.answer fit)
  step (at.ReadMessage fd) got own may =
      by_fit (call.ReadAt fd (length r.message) 8192) (StepOf (at.ReadMessage fd)) got may (λ told fit. reads_message r h fd (length r.message) told.answer told.bytes own fit)
  step (at.CloseMessage fd) got own may =
      by_fit (call.Close fd) (StepOf (at.CloseMessage fd)) got may (λ told fit. made_holds (held_after h (call.Close fd) told.answer) r (bounce_at controls sender r now))
  step (at.Shut fd) got own may = by_fit (call.Close fd) (StepOf (at.Shut fd)) got may (λ told fit. tt)
  step at.Start got own may = starts r h (held_by h (due_at at.Start r) got) got
  step (at.Give pid) got own may = gives r h (held_by h (due_at (at.Give pid) r) got) pid got
  step (at.Await pid) got own may = awaits r h (held_by h (due_at (at.Await pid) r) got) got
  step at.Unlink got own may = by_fit (call.Unlink (bounce_path r.n)) (StepOf at.Unlink) got may (λ told fit. unlinks r h (bounce_path r.n) told.answer)
  step at.Discard got own may = by_fit (call.Unlink (bounce_path r.n)) (StepOf at.Discard) got may (λ told fit. unlinks r h (bounce_path r.n) told.answer)
  step at.Over got own may = absurd may
  step at.Failed got own may = absurd may

pub holds : (controls : Controls) (sender : List ℕ) (n : ℕ) (past : List Own) → IsReturn controls sender n past → HoldsReturn (held past) (returned_after controls sender n past).row
holds controls sender n [] run = tt
holds controls sender n (event ∷ before) run =
    let r : Returning = returned_after controls sender n before in
    let may = subst (λ x. MayCome x event.came) (sym run.1.0) run.1.1 in
    subst (λ x. HoldsReturn (held_by (held before) x event.came) (moved_at controls sender r.row r event.read event.came).row) run.1.0
    (step controls sender r event.read (held before) r.row event.came (holds controls sender n before run.0) may)

pub uses_row : (h : ℕ → Option Mode) (r : Returning) (row : ReturnRow) → HoldsReturn h row → UsesHeld h (due_at row r)
uses_row h r at.Open own = tt
uses_row h r (at.ReadNotes fd) own = (is_held (h fd.0) (Mode.Opened how.Read) own, lit≤ tt)
uses_row h r (at.CloseNotes fd) own = is_held (h fd.0) (Mode.Opened how.Read) own
uses_row h r at.OpenMessage own = tt
uses_row h r (at.ReadMessage fd) own = (is_held (h fd.0) (Mode.Opened how.Read) own, lit≤ tt)
uses_row h r (at.CloseMessage fd) own = is_held (h fd.0) (Mode.Opened how.Read) own
uses_row h r (at.Shut fd) own = is_held (h fd.0) (Mode.Opened how.Read) own
uses_row h r at.Start own = tt
uses_row h r (at.Give pid) own = tt
uses_row h r (at.Await pid) own = tt
uses_row h r at.Unlink own = tt
uses_row h r at.Discard own = tt
uses_row h r at.Over own = tt
uses_row h r at.Failed own = tt

pub uses : (controls : Controls) (sender : List ℕ) (n : ℕ) (past : List Own) → IsReturn controls sender n past
    → UsesHeld (held past) (due_at (returned_after controls sender n past).row (returned_after controls sender n past))
uses controls sender n past run = uses_row (held past) (returned_after controls sender n past) (returned_after controls sender n past).row (holds controls sender n past run)
