-- Where a sender stands before the search that ends an idle turn.
use Rattle.std.specs.Prelude.{◌≡◌, ◌≢◌, ◌⊎◌, ℕ, List, [], true, None}
use Rattle.call_fs.specs.Past.{IsRunBy}
use Rattle.call_fs.specs.declared.past.Own.{Own}
use Rattle.send_parts.specs.declared.row.Row.{Row}
use Rattle.send_parts.specs.declared.row.Row.TheVariants as at
use Rattle.send_core.specs.Stands.{ends_idle}
use Rattle.send_core.specs.Table.{Next}
use Rattle.send_parts.specs.declared.rows.Search.TheVariants as search
use Rattle.settle_law.specs.Rests.{BeginsTurn}
use Rattle.settle_law.specs.Suffices.{desk_of}

-- A search of `todo` goes on: from the start, since a number was left before it, or after a name that is no number.
abbrev pub GoesOn : Row → List ℕ → Type 0
GoesOn (at.FindTodo search.FromStart) left = left ≢ []
GoesOn (at.FindTodo (search.AfterStray again)) left = Unit {0}
GoesOn row left = ⊥

-- A turn begins there, or its first search goes on: in a turn that has done anything else the next search ends no idle turn.
abbrev pub SearchesBegin : Type 0
SearchesBegin = (past : List Own) → IsRunBy (Next None) past → (event : Own) → ends_idle (desk_of past) event ≡ true
    → BeginsTurn (desk_of past).row ⊎ GoesOn (desk_of past).row (desk_of past).last_left
