-- The file users/assign (qmail-users(5)).
use Rattle.std.specs.Prelude.{◌≡◌, ◌≢◌, ◌⊎◌, ℕ, ◌+◌, List, [], ◌∷◌, ◌++◌, length, All, Some, None, flat_map}
use Rattle.local_spawn.specs.declared.assign.Assignment.{Assignment}
use Rattle.local_spawn.specs.declared.reading.AssignError.{AssignError}
use Rattle.local_spawn.specs.declared.reading.AssignError.TheVariants.{Line, NoDot, Memory}
use Rattle.local_spawn.specs.Fields.{IsAssignment, line_of, parsed}

-- a line with its newline
abbrev pub full_line : Assignment → List ℕ
full_line a = line_of a ++ 10 ∷ []

-- the text of these lines
abbrev pub lines_of : List Assignment → List ℕ
lines_of assignments = flat_map full_line assignments

abbrev pub HasNoNewline : List ℕ → Type 0
HasNoNewline text = All (λ b. b ≢ 10) text

-- A text begins with a line, after which this comes: its newline is left out, and the last line of a file may lack it.
pub data IsFirstLine (text line after : List ℕ) : Type 0 where
  IsEnded : HasNoNewline line → text ≡ line ++ 10 ∷ after → IsFirstLine text line after
  IsLast : HasNoNewline line → text ≢ [] → text ≡ line → after ≡ [] → IsFirstLine text line after

-- after the lines of these assignments comes this line
pub record Comes (bytes : List ℕ) (assignments : List Assignment) (line : List ℕ) : Type 0 where
  pub rest : List ℕ
  pub after : List ℕ
  pub text : bytes ≡ lines_of assignments ++ rest
  pub good : All IsAssignment assignments
  pub next : IsFirstLine rest line after

-- A file: lines of assignments, and then `.`. What comes after that line is passed over.
abbrev pub IsFile : List ℕ → List Assignment → Type 0
IsFile bytes assignments = Comes bytes assignments (46 ∷ [])

-- The line of this number, from 1, is neither `.` nor that of an assignment, and those before it are of assignments.
pub record IsBadLine (bytes : List ℕ) (number : ℕ) : Type 0 where
  pub assignments : List Assignment
  pub line : List ℕ
  pub comes : Comes bytes assignments line
  pub no_dot : line ≢ 46 ∷ []
  pub bad : (a : Assignment) → IsAssignment a → line ≢ line_of a
  pub place : number ≡ length assignments + 1

-- lines of assignments alone, of which the last may lack its newline
pub record HasNoDot (bytes : List ℕ) : Type 0 where
  pub assignments : List Assignment
  pub good : All IsAssignment assignments
  pub text : (bytes ≡ lines_of assignments) ⊎ (bytes ++ 10 ∷ [] ≡ lines_of assignments)

-- why a file isn't read; running out of memory has no cause in it
abbrev pub IsCause : List ℕ → AssignError → Type 0
IsCause bytes (Line number) = IsBadLine bytes number
IsCause bytes NoDot = HasNoDot bytes
IsCause bytes Memory = Unit {0}

-- One line of it

-- the assignment of a line comes to those before it
abbrev pub IsAdded : List ℕ → List Assignment → List Assignment → Type 0
IsAdded line old new = (a : Assignment) × ((parsed line ≡ Some a) × (new ≡ old ++ a ∷ []))

-- or it has none, after so many of them
abbrev pub IsRefused : List ℕ → ℕ → AssignError → Type 0
IsRefused line count (Line number) = (parsed line ≡ None) × (number ≡ count + 1)
IsRefused line count NoDot = ⊥
IsRefused line count Memory = Unit {0}
