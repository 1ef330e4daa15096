-- Which instructions are followed (dot-qmail(5)).
use Rattle.std.specs.Prelude.{ℕ, List, [], ◌∷◌, ◌++◌, Option, slice_index_or}
use Rattle.dot_qmail.specs.declared.choice.Chosen.{Chosen}
use Rattle.dot_qmail.specs.Choice.{chosen}
use Rattle.local_parts.specs.declared.arguments.LocalArgs.{LocalArgs}

-- what handles the address, among the names of the home
abbrev pub chosen_by : LocalArgs → List (List ℕ) → Option Chosen
chosen_by args names = chosen names args.dash args.ext

-- the name of the home's file that stands there among its names
abbrev pub file_name : LocalArgs → List (List ℕ) → ℕ → List ℕ
file_name args names place = args.home ++ 47 ∷ slice_index_or names place []
