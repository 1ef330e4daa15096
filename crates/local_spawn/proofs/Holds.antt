-- The calls of a local spawner use what it holds open.
use Rattle.std.proofs.Common.{◌≡◌, ℕ, List, [], ◌∷◌, length, lit≤, Bool, true, false, if◌then◌else◌, nat_lt, Option, Some, refl, ap, sym, subst}
use Rattle.std.specs.Option.{IsSome, is_some}
use Rattle.call_fs.specs.declared.calls.Answer.{Answer}
use Rattle.call_fs.specs.declared.calls.Answer.TheVariants as answer
use Rattle.call_fs.specs.declared.calls.CallData.TheVariants as call
use Rattle.call_fs.specs.declared.calls.Fd.{Fd}
use Rattle.call_fs.specs.declared.calls.FsError.TheVariants as why
use Rattle.call_fs.specs.declared.calls.How.TheVariants as how
use Rattle.call_fs.specs.declared.past.GotData.{GotData}
use Rattle.call_fs.specs.declared.past.Own.{Own}
use Rattle.call_fs.specs.declared.program.Ready.{Ready}
use Rattle.call_fs.specs.Columns.{IsAnswerTo}
use Rattle.call_fs.specs.declared.modes.Mode.{Mode}
use Rattle.call_fs.specs.Past.{IsRunBy, held, held_by, held_after, UsesHeld}
use Rattle.call_fs.specs.Program.{MayCome}
use Rattle.call_fs.proofs.Maps.{put_same}
use Rattle.call_fs.proofs.Coming.{by_fit}
use Rattle.spawner_parts.proofs.Holds.{uses as uses_at}
use Rattle.local_spawn.specs.declared.place.Place.{Place}
use Rattle.local_spawn.specs.declared.row.Row.{Row}
use Rattle.local_spawn.specs.declared.row.Row.TheVariants as at
use Rattle.local_spawn.specs.Table.{Next, act, due_at, place_after, program_of, users_closed, users_name, users_opened, users_opened_by, users_read, users_read_by}
use Rattle.local_spawn.proofs.Tells.{At, tells}

-- what its start holds open
abbrev HoldsRow : (ℕ → Option Mode) → Row → Type 0
HoldsRow h (at.ReadUsers fd) = h fd.0 ≡ Some (Mode.Opened how.Read)
HoldsRow h (at.CloseUsers fd whole) = h fd.0 ≡ Some (Mode.Opened how.Read)
HoldsRow h row = Unit {0}

some_held : (o : Option Mode) (mode : Mode) → o ≡ Some mode → IsSome o
some_held o mode e = ap is_some e

opening : (h : ℕ → Option Mode) (p : Place) (told : Answer) → IsAnswerTo (call.Open users_name how.Read) told
    → HoldsRow (held_after h (call.Open users_name how.Read) told) (users_opened_by told p).row
opening h p (answer.Opened fd) fit = put_same h fd.0 (Some (Mode.Opened how.Read))
opening h p (answer.Refused why.NotThere) fit = tt
opening h p (answer.Refused why.Exists) fit = tt
opening h p (answer.Refused why.Fault) fit = tt
opening h p (answer.Refused why.Memory) fit = tt
opening h p told fit = absurd fit

reading : (h : ℕ → Option Mode) (p : Place) (fd : Fd) (from : ℕ) (told : Answer) (bytes : List ℕ) → h fd.0 ≡ Some (Mode.Opened how.Read) → IsAnswerTo (call.ReadAt fd from 8192) told
    → HoldsRow (held_after h (call.ReadAt fd from 8192) told) (users_read_by fd told bytes p).row
reading h p fd from (answer.Count count) bytes own fit = by (nat_lt (length bytes) 8192) where
  by : (b : Bool) → HoldsRow h (if b then at.CloseUsers fd true else at.ReadUsers fd)
  by true = own
  by false = own
reading h p fd from (answer.Refused why) bytes own fit = own
reading h p fd from told bytes own fit = absurd fit

closing : (h : ℕ → Option Mode) (p : Place) (whole : Bool) → HoldsRow h (users_closed whole p).row
closing h p true = tt
closing h p false = tt

step : (h : ℕ → Option Mode) (p : Place) (row : Row) (ready : Ready) (got : GotData) → p.row ≡ row → HoldsRow h row → MayCome (due_at row ready p) got
    → HoldsRow (held_by h (due_at row ready p) got) (act row ready got p).row
step h p at.OpenUsers ready got is own may =
    by_fit (call.Open users_name how.Read) (λ g. HoldsRow (held_by h (due_at at.OpenUsers ready p) g) (users_opened g p).row) got may (λ told fit. opening h p told.answer fit)
step h p (at.ReadUsers fd) ready got is own may =
    by_fit (call.ReadAt fd (length p.text) 8192) (λ g. HoldsRow (held_by h (due_at (at.ReadUsers fd) ready p) g) (users_read fd g p).row) got may
    (λ told fit. reading h p fd (length p.text) told.answer told.bytes own fit)
step h p (at.CloseUsers fd whole) ready got is own may = closing (held_by h (due_at (at.CloseUsers fd whole) ready p) got) p whole
step h p at.Serves ready got is own may = subst (HoldsRow (held_by h (due_at at.Serves ready p) got)) (sym is) tt
step h p at.OutOfMemory ready got is own may = absurd may

holds : (args : Unit {0}) (past : List Own) → IsRunBy (Next args) past → HoldsRow (held past) (place_after past).row
holds args [] run = tt
holds args (event ∷ before) run =
    let p : Place = place_after before in
    let may = subst (λ x. MayCome x event.came) (sym run.1.0) run.1.1 in
    subst (λ x. HoldsRow (held_by (held before) x event.came) (act p.row event.ready event.came p).row) run.1.0
    (step (held before) p p.row event.ready event.came refl (holds args before run.0) may)

uses_by : (past : List Own) (p : Place) (ready : Ready) (row : Row) → At past row p → HoldsRow (held past) row → UsesHeld (held past) (due_at row ready p)
uses_by past p ready at.OpenUsers a own = tt
uses_by past p ready (at.ReadUsers fd) a own = (some_held (held past fd.0) (Mode.Opened how.Read) own, lit≤ tt)
uses_by past p ready (at.CloseUsers fd whole) a own = some_held (held past fd.0) (Mode.Opened how.Read) own
uses_by past p ready at.Serves a own = uses_at (program_of p) past p.work ready a.tells.holds
uses_by past p ready at.OutOfMemory a own = tt

pub uses : (args : Unit {0}) (past : List Own) (now : ℕ) (ready : Ready) → IsRunBy (Next args) past → UsesHeld (held past) (Next args past now ready)
uses args past now ready run = let p : Place = place_after past in uses_by past p ready p.row (tells args past run) (holds args past run)
