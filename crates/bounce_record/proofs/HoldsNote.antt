-- The calls of a note's writing use what it holds open.
use Rattle.std.proofs.Common.{ℕ, ◌+◌, ◌-◌, ◌≤◌, List, [], ◌∷◌, length, min, true, false, Option, Some, None, refl, sym, subst, arith}
use Rattle.std.specs.Prelude.{if◌then◌else◌, nat_lt}
use Rattle.std.specs.Option.{IsSome, IsSomeAnd}
use Rattle.std.proofs.Math.Nat.{min-le_right}
use Rattle.call_fs.specs.declared.calls.Answer.{Answer}
use Rattle.call_fs.specs.declared.calls.Answer.TheVariants as answer
use Rattle.call_fs.specs.declared.calls.CallData.TheVariants as call
use Rattle.call_fs.specs.declared.calls.Fd.{Fd}
use Rattle.call_fs.specs.declared.calls.FsError.TheVariants as error
use Rattle.call_fs.specs.declared.calls.How.TheVariants as how
use Rattle.call_fs.specs.declared.modes.Mode.{Mode}
use Rattle.call_fs.specs.declared.past.GotData.{GotData}
use Rattle.call_fs.specs.declared.past.Own.{Own}
use Rattle.call_fs.specs.Columns.{IsAnswerTo}
use Rattle.call_fs.specs.Disk.{IsForAppend}
use Rattle.call_fs.specs.Past.{held, held_by, held_after, UsesHeld}
use Rattle.call_fs.specs.Program.{MayCome}
use Rattle.call_fs.proofs.Maps.{put_same}
use Rattle.bounce_record.specs.declared.note_row.NoteRow.{NoteRow}
use Rattle.bounce_record.specs.declared.note_row.NoteRow.TheVariants as at
use Rattle.bounce_record.specs.Runs.{NoteOf, IsWriting, begun, written_after}
use Rattle.bounce_record.specs.Writing.{Writing, appended_row, bounce_path, created_row, next_piece, opened_row, piece, stated_row, synced_row, tail_read_row, tail_row, due_at, moved}
use Rattle.call_fs.proofs.Coming.{by_fit}

-- a descriptor by which may be appended
abbrev pub Owns : (ℕ → Option Mode) → Fd → Type 0
Owns h fd = IsSomeAnd (h fd.0) IsForAppend

-- what a row holds open
abbrev pub HoldsNote : (ℕ → Option Mode) → NoteRow → Type 0
HoldsNote h (at.Stat fd) = Owns h fd
HoldsNote h (at.Read fd place len) = Owns h fd × (len ≤ 8192)
HoldsNote h (at.Append fd done) = Owns h fd
HoldsNote h (at.Sync fd) = Owns h fd
HoldsNote h (at.Close fd) = Owns h fd
HoldsNote h (at.Shut fd) = Owns h fd
HoldsNote h row = Unit {0}

is_held : (o : Option Mode) → IsSomeAnd o IsForAppend → IsSome o
is_held (Some mode) own = refl
is_held None own = absurd own

short : (length : ℕ) → min length 2 ≤ 8192
short length = omega (arith, min-le_right length 2)

module _ (h : ℕ → Option Mode) where
  tails : (fd : Fd) (length : ℕ) → Owns h fd → HoldsNote h (tail_row fd length)
  tails fd length own =
      elim (nat_lt 0 length) as (λ t. HoldsNote h (if t then at.Read fd (length - 2) (min length 2) else at.Append fd 2)) [ true ↦ (own, short length) | false ↦ own ]

  goes_on : (fd : Fd) (done : ℕ) (text : List ℕ) → Owns h fd → HoldsNote h (next_piece fd done text)
  goes_on fd done text own = elim (nat_lt done (length text)) as (λ t. HoldsNote h (if t then at.Append fd done else at.Sync fd)) [ true ↦ own | false ↦ own ]

  opens : (name : List ℕ) (told : Answer) → IsAnswerTo (call.Open name how.Append) told → HoldsNote (held_after h (call.Open name how.Append) told) (opened_row told)
  opens name (answer.Opened fd) fit = subst (λ o. IsSomeAnd o IsForAppend) (sym (put_same h fd.0 (Some (Mode.Opened how.Append)))) refl
  opens name (answer.Refused error.NotThere) fit = tt
  opens name (answer.Refused error.Fault) fit = tt
  opens name (answer.Refused error.Memory) fit = tt
  opens name told fit = absurd fit

  creates : (name : List ℕ) (told : Answer) → IsAnswerTo (call.CreateExcl name) told → HoldsNote (held_after h (call.CreateExcl name) told) (created_row told)
  creates name (answer.Created fd number) fit = subst (λ o. IsSomeAnd o IsForAppend) (sym (put_same h fd.0 (Some Mode.Created))) tt
  creates name (answer.Refused reason) fit = tt
  creates name told fit = absurd fit

  states : (fd : Fd) (name : List ℕ) (told : Answer) → Owns h fd → IsAnswerTo (call.Stat name) told → HoldsNote (held_after h (call.Stat name) told) (stated_row fd told)
  states fd name (answer.Stat stat) own fit = tails fd stat.length own
  states fd name (answer.Refused error.NotThere) own fit = own
  states fd name (answer.Refused error.Fault) own fit = own
  states fd name told own fit = absurd fit

  reads : (fd : Fd) (place len : ℕ) (told : Answer) (bytes : List ℕ) → Owns h fd → IsAnswerTo (call.ReadAt fd place len) told
      → HoldsNote (held_after h (call.ReadAt fd place len) told) (tail_read_row fd told bytes)
  reads fd place len (answer.Count count) bytes own fit = own
  reads fd place len (answer.Refused error.Fault) bytes own fit = own
  reads fd place len told bytes own fit = absurd fit

  appends : (fd : Fd) (done : ℕ) (text bytes : List ℕ) (told : Answer) → Owns h fd → IsAnswerTo (call.Append fd bytes) told
      → HoldsNote (held_after h (call.Append fd bytes) told) (appended_row fd done text told)
  appends fd done text bytes answer.Done own fit = goes_on fd (done + 8192) text own
  appends fd done text bytes (answer.Refused error.Fault) own fit = own
  appends fd done text bytes (answer.Refused error.Memory) own fit = own
  appends fd done text bytes told own fit = absurd fit

  syncs : (fd : Fd) (told : Answer) → Owns h fd → IsAnswerTo (call.Sync fd) told → HoldsNote (held_after h (call.Sync fd) told) (synced_row fd told)
  syncs fd answer.Done own fit = own
  syncs fd (answer.Refused error.Fault) own fit = own
  syncs fd told own fit = absurd fit

module _ (n : ℕ) (text : List ℕ) (h : ℕ → Option Mode) where
  abbrev pub in_row : NoteRow → Writing
  in_row row = record { n = n; row = row; text = text }

  abbrev pub StepOf : NoteRow → GotData → Type 0
  StepOf row got = HoldsNote (held_by h (due_at row (in_row row)) got) (moved (in_row row) got).row

  pub step : (row : NoteRow) (got : GotData) → HoldsNote h row → MayCome (due_at row (in_row row)) got → StepOf row got
  step at.Open got own may = by_fit (call.Open (bounce_path n) how.Append) (StepOf at.Open) got may (λ told fit. opens h (bounce_path n) told.answer fit)
  step at.Create got own may = by_fit (call.CreateExcl (bounce_path n)) (StepOf at.Create) got may (λ told fit. creates h (bounce_path n) told.answer fit)
  step (at.Stat fd) got own may = by_fit (call.Stat (bounce_path n)) (StepOf (at.Stat fd)) got may (λ told fit. states h fd (bounce_path n) told.answer own fit)
  step (at.Read fd place len) got own may =
      by_fit (call.ReadAt fd place len) (StepOf (at.Read fd place len)) got may (λ told fit. reads h fd place len told.answer told.bytes own.0 fit)
  step (at.Append fd done) got own may =
      by_fit (call.Append fd (piece text done)) (StepOf (at.Append fd done)) got may (λ told fit. appends h fd done text (piece text done) told.answer own fit)
  step (at.Sync fd) got own may = by_fit (call.Sync fd) (StepOf (at.Sync fd)) got may (λ told fit. syncs h fd told.answer own fit)
  step (at.Close fd) got own may = by_fit (call.Close fd) (StepOf (at.Close fd)) got may (λ told fit. tt)
  step (at.Shut fd) got own may = by_fit (call.Close fd) (StepOf (at.Shut fd)) got may (λ told fit. tt)
  step at.Written got own may = absurd may
  step at.Failed got own may = absurd may

pub holds : (it : NoteOf) (past : List Own) → IsWriting it past → HoldsNote (held past) (written_after (begun it) past).row
holds it [] run = tt
holds it (event ∷ before) run =
    let w : Writing = written_after (begun it) before in
    let may = subst (λ x. MayCome x event.came) (sym run.1.0) run.1.1 in
    subst (λ x. HoldsNote (held_by (held before) x event.came) (moved w event.came).row) run.1.0
    (step w.n w.text (held before) w.row event.came (holds it before run.0) may)

pub uses_row : (h : ℕ → Option Mode) (w : Writing) (row : NoteRow) → HoldsNote h row → UsesHeld h (due_at row w)
uses_row h w at.Open own = tt
uses_row h w at.Create own = tt
uses_row h w (at.Stat fd) own = tt
uses_row h w (at.Read fd place len) own = (is_held (h fd.0) own.0, own.1)
uses_row h w (at.Append fd done) own = own
uses_row h w (at.Sync fd) own = is_held (h fd.0) own
uses_row h w (at.Close fd) own = is_held (h fd.0) own
uses_row h w (at.Shut fd) own = is_held (h fd.0) own
uses_row h w at.Written own = tt
uses_row h w at.Failed own = tt

pub uses : (it : NoteOf) (past : List Own) → IsWriting it past → UsesHeld (held past) (due_at (written_after (begun it) past).row (written_after (begun it) past))
uses it past run = uses_row (held past) (written_after (begun it) past) (written_after (begun it) past).row (holds it past run)
