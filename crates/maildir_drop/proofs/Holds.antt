-- The calls of a drop use what it holds open.
use Rattle.std.proofs.Common.{◌≡◌, ℕ, List, [], ◌∷◌, Bool, true, false, Option, Some, sym, ap, subst, take}
use Rattle.std.specs.Prelude.{if◌then◌else◌}
use Rattle.std.specs.Option.{IsSome, IsSomeAnd, is_some}
use Rattle.call_fs.specs.declared.calls.Answer.{Answer}
use Rattle.call_fs.specs.declared.calls.Answer.TheVariants as answer
use Rattle.call_fs.specs.declared.calls.CallData.TheVariants as call
use Rattle.call_fs.specs.declared.calls.Fd.{Fd}
use Rattle.call_fs.specs.declared.calls.FsError.TheVariants as error
use Rattle.call_fs.specs.declared.modes.Mode.{Mode}
use Rattle.call_fs.specs.declared.past.GotData.{GotData}
use Rattle.call_fs.specs.declared.past.Own.{Own}
use Rattle.call_fs.specs.Columns.{IsAnswerTo}
use Rattle.call_fs.specs.Disk.{IsForAppend}
use Rattle.call_fs.specs.Past.{held, held_by, held_after, UsesHeld}
use Rattle.call_fs.specs.Program.{MayCome}
use Rattle.call_fs.proofs.Maps.{put_same}
use Rattle.maildir_drop.specs.declared.arguments.Arguments.{Arguments}
use Rattle.maildir_drop.specs.declared.names.DropNames.{DropNames}
use Rattle.maildir_drop.specs.declared.row.Attempt.{Attempt}
use Rattle.maildir_drop.specs.declared.row.Attempt.TheVariants.{First, Second, Third}
use Rattle.maildir_drop.specs.declared.row.Row.{Row}
use Rattle.maildir_drop.specs.declared.row.Row.TheVariants as at
use Rattle.maildir_drop.specs.declared.row.Why.TheVariants as why
use Rattle.maildir_drop.specs.Names.{names_of, pair_at, is_name}
use Rattle.maildir_drop.specs.Run.{IsRun}
use Rattle.maildir_drop.specs.Table.{Place, appended, begin_row, create_row, due_at, failed, is_complete, link_row, moved, next_row, place_after, sync_row, taken_row}
use Rattle.call_fs.proofs.Coming.{by_fit}

-- what a row holds open
abbrev pub HoldsRow : (ℕ → Option Mode) → Row → Type 0
HoldsRow h (at.Append attempt fd) = h fd.0 ≡ Some Mode.Created
HoldsRow h (at.Sync attempt fd) = h fd.0 ≡ Some Mode.Created
HoldsRow h (at.Close attempt fd) = h fd.0 ≡ Some Mode.Created
HoldsRow h (at.Shut attempt fd reason) = h fd.0 ≡ Some Mode.Created
HoldsRow h row = Unit {0}

some_held : (o : Option Mode) (mode : Mode) → o ≡ Some mode → IsSome o
some_held o mode e = ap is_some e

module _ (names : DropNames) (h : ℕ → Option Mode) where
  pub begins : (a : Attempt) → HoldsRow h (begin_row names a)
  begins a = elim (is_name (pair_at names a).tmp) as (λ t. HoldsRow h (if t then at.Create a else failed a why.Defer)) [ true ↦ tt | false ↦ tt ]

  takes : (a : Attempt) → HoldsRow h (taken_row names a)
  takes First = begins Second
  takes Second = begins Third
  takes Third = tt

  goes_on : (a : Attempt) (fd : Fd) (complete : Bool) → h fd.0 ≡ Some Mode.Created → HoldsRow h (next_row a fd complete)
  goes_on a fd true own = own
  goes_on a fd false own = own

module _ (names : DropNames) (left : List ℕ) (h : ℕ → Option Mode) where
  creates : (a : Attempt) (name : List ℕ) (told : Answer) → IsAnswerTo (call.CreateExcl name) told
      → HoldsRow (held_after h (call.CreateExcl name) told) (create_row names a (is_complete left) told)
  creates a name (answer.Created fd number) fit = goes_on names (held_after h (call.CreateExcl name) (answer.Created fd number)) a fd (is_complete left) (put_same h fd.0 (Some Mode.Created))
  creates a name (answer.Refused error.Exists) fit = takes names h a
  creates a name (answer.Refused error.NotThere) fit = tt
  creates a name (answer.Refused error.Fault) fit = tt
  creates a name (answer.Refused error.Memory) fit = tt
  creates a name told fit = absurd fit

  appends : (a : Attempt) (fd : Fd) (bytes : List ℕ) (told : Answer) → h fd.0 ≡ Some Mode.Created → IsAnswerTo (call.Append fd bytes) told
      → HoldsRow (held_after h (call.Append fd bytes) told) (appended a fd left told).row
  appends a fd bytes answer.Done own fit = goes_on names h a fd (is_complete (appended a fd left answer.Done).left) own
  appends a fd bytes (answer.Refused reason) own fit = own
  appends a fd bytes told own fit = absurd fit

  syncs : (a : Attempt) (fd : Fd) (told : Answer) → h fd.0 ≡ Some Mode.Created → IsAnswerTo (call.Sync fd) told
      → HoldsRow (held_after h (call.Sync fd) told) (sync_row a fd told)
  syncs a fd answer.Done own fit = own
  syncs a fd (answer.Refused reason) own fit = own
  syncs a fd told own fit = absurd fit

  links : (a : Attempt) (old new : List ℕ) (told : Answer) → IsAnswerTo (call.Link old new) told → HoldsRow (held_after h (call.Link old new) told) (link_row a told)
  links a old new answer.Done fit = tt
  links a old new (answer.Refused reason) fit = tt
  links a old new told fit = absurd fit

  abbrev pub StepOf : Row → GotData → Type 0
  StepOf row got = HoldsRow (held_by h (due_at names row left) got) (moved names (record { row = row; left = left }) got).row

  pub step : (row : Row) (got : GotData) → HoldsRow h row → MayCome (due_at names row left) got → StepOf row got
  step (at.Create a) got own may = by_fit (call.CreateExcl (pair_at names a).tmp) (StepOf (at.Create a)) got may (λ told fit. creates a (pair_at names a).tmp told.answer fit)
  step (at.Append a fd) got own may = by_fit (call.Append fd (take 8192 left)) (StepOf (at.Append a fd)) got may (λ told fit. appends a fd (take 8192 left) told.answer own fit)
  step (at.Sync a fd) got own may = by_fit (call.Sync fd) (StepOf (at.Sync a fd)) got may (λ told fit. syncs a fd told.answer own fit)
  step (at.Close a fd) got own may = by_fit (call.Close fd) (StepOf (at.Close a fd)) got may (λ told fit. tt)
  step (at.Link a) got own may =
      by_fit (call.Link (pair_at names a).tmp (pair_at names a).new) (StepOf (at.Link a)) got may (λ told fit. links a (pair_at names a).tmp (pair_at names a).new told.answer fit)
  step (at.Shut a fd reason) got own may = by_fit (call.Close fd) (StepOf (at.Shut a fd reason)) got may (λ told fit. tt)
  step (at.Unlink a outcome) got own may = by_fit (call.Unlink (pair_at names a).tmp) (StepOf (at.Unlink a outcome)) got may (λ told fit. tt)
  step (at.Ended a outcome) got own may = absurd may

holds : (args : Arguments) (past : List Own) → IsRun args past → HoldsRow (held past) (place_after args past).row
holds args [] run = begins (names_of args) (held []) First
holds args (event ∷ before) run =
    let p : Place = place_after args before in
    let names = names_of args in
    let may = subst (λ x. MayCome x event.came) (sym run.1.0) run.1.1 in
    subst (λ x. HoldsRow (held_by (held before) x event.came) (moved names p event.came).row) run.1.0
    (step names p.left (held before) p.row event.came (holds args before run.0) may)

pub uses_row : (names : DropNames) (left : List ℕ) (h : ℕ → Option Mode) (row : Row) → HoldsRow h row → UsesHeld h (due_at names row left)
uses_row names left h (at.Create a) own = tt
uses_row names left h (at.Append a fd) own = subst (λ o. IsSomeAnd o IsForAppend) (sym own) tt
uses_row names left h (at.Sync a fd) own = some_held (h fd.0) Mode.Created own
uses_row names left h (at.Close a fd) own = some_held (h fd.0) Mode.Created own
uses_row names left h (at.Link a) own = tt
uses_row names left h (at.Shut a fd reason) own = some_held (h fd.0) Mode.Created own
uses_row names left h (at.Unlink a outcome) own = tt
uses_row names left h (at.Ended a outcome) own = tt

pub uses : (args : Arguments) (past : List Own) → IsRun args past → UsesHeld (held past) (due_at (names_of args) (place_after args past).row (place_after args past).left)
uses args past run = uses_row (names_of args) (place_after args past).left (held past) (place_after args past).row (holds args past run)
