-- What the fields of a pass keep.
use Rattle.std.specs.Prelude.{◌≡◌}
use Rattle.todo_pass.specs.declared.pass.Pass.TheInside.{Inside}
use Rattle.todo_pass.specs.Rows.{lent_at, CountsOn}
use Rattle.todo_pass.specs.Table.{Pass}

abbrev pub pass_of : Inside → Pass
pass_of i = record { n = i.n; row = i.row; size = i.size; todo = i.todo.items; sorted = i.sorted; birth = i.birth }

-- the text that its row lends lies ready, and a piece more can be counted
pub record Holds (i : Inside) : Type 0 where
  pub lent : i.lent ≡ lent_at i.row i.n
  pub counts : CountsOn i.row
