-- A yard and a pass, as contracts see them.
use Rattle.std.specs.Prelude.{ℕ, List}
use Rattle.atomic_table.specs.Seated.{TableId}
use Rattle.yard_lock.specs.declared.turn.Turn.{Turn}

-- which yard it is of, its number, its parts, and the turns that it has seen
pub record Held (I O : Type 0) : Type 0 where
  pub yard : TableId
  pub number : ℕ
  pub parts : ℕ
  pub seen : List (Turn I O)

-- which yard it is, the state at the start, and the number of parts
pub record Open (Y : Type 0) : Type 0 where
  pub id : TableId
  pub start : Y
  pub parts : ℕ

abbrev pub held : {I O : Type 0} → TableId → ℕ → ℕ → List (Turn I O) → Held I O
held z k n ts = record { yard = z; number = k; parts = n; seen = ts }
