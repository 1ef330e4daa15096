-- Where a number waits: what it has in intd, and what it has in todo. One definition each, of any map from its parts: of the names of a disk, and
-- of the files that they lead to.
use Rattle.std.specs.Prelude.{◌≡◌, ◌↔◌, ℕ, List, Bool, true, false, Option, Some, None}
use Rattle.std.specs.Option.{option_or}
use Rattle.queue_paths.specs.Names.{Part, path}
use Rattle.queue_paths.specs.Names.Name.{Of}
use Rattle.queue_paths.specs.Names.Part.{Intd, Todo, SplitIntd, SplitTodo}

-- its names in intd, and in todo
abbrev pub is_intd : Part → Bool
is_intd Intd = true
is_intd SplitIntd = true
is_intd other = false

abbrev pub is_todo : Part → Bool
is_todo Todo = true
is_todo SplitTodo = true
is_todo other = false

-- its names of the split layout
abbrev pub is_split : Part → Bool
is_split SplitIntd = true
is_split SplitTodo = true
is_split other = false

-- What is there of it in intd, and in todo: under the name of the flat layout, else under that of the split one.
unfoldable pub in_intd : {V : Type 0} → (Part → Option V) → Option V
in_intd has = option_or (has Intd) (has SplitIntd)

unfoldable pub in_todo : {V : Type 0} → (Part → Option V) → Option V
in_todo has = option_or (has Todo) (has SplitTodo)

-- what the names of a disk lead to, by the parts of number n
abbrev pub parts_of : (List ℕ → Option ℕ) → ℕ → Part → Option ℕ
parts_of names n part = names (path (Of part n))

-- What is there of such names is one of them, and nothing exactly if none of them is there.
pub record IsOneOf (is : Part → Bool) (has : Part → Option ℕ) (one : Option ℕ) : Type 0 where
  pub missing : one ≡ None ↔ ((part : Part) → is part ≡ true → has part ≡ None)
  pub there : (i : ℕ) → one ≡ Some i → (part : Part) × (is part ≡ true) × (has part ≡ Some i)

-- so it is of each number, by the names of any disk
pub record WaitsAreNamed : Type 0 where
  pub intd : (names : List ℕ → Option ℕ) (n : ℕ) → IsOneOf is_intd (parts_of names n) (in_intd (parts_of names n))
  pub todo : (names : List ℕ → Option ℕ) (n : ℕ) → IsOneOf is_todo (parts_of names n) (in_todo (parts_of names n))
