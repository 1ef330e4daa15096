-- What a script's disk holds at its beginning, and which paths it may have there.
use Rattle.std.specs.Prelude.{◌≡◌, ◌⊎◌, ℕ, List, [], ◌∷◌, ◌++◌, map, All, Contains, codes, if◌then◌else◌, ◌==◌}
use Rattle.call_fs.specs.Names.{AreParts}
use Rattle.script_words.specs.Words.{joined, StandsFor, HasBody}
use Rattle.script_words.specs.declared.entry.Entry.{Entry}
use Rattle.script_words.specs.declared.entry.Entry.TheVariants.{File, Dir}

-- the directories below which a script's entries lie
abbrev pub entry_dirs : List (List ℕ)
entry_dirs = codes "control" ∷ codes "users" ∷ codes "home" ∷ codes "pid" ∷ []

-- parts of a name below one of those directories: `home/j/.qmail`
pub record IsEntryPath (path : List ℕ) : Type 0 where
  pub dir : List ℕ
  pub below : List ℕ
  pub is_dir : Contains entry_dirs dir
  pub parts : AreParts below
  pub path_is : path ≡ dir ++ 47 ∷ below

-- the directories that a path goes through, from the highest: `home` and `home/j` of `home/j/.qmail`
abbrev pub dirs_above : List ℕ → List (List ℕ)
dirs_above [] = []
dirs_above (b ∷ path) = (if b == 47 then [] ∷ [] else []) ++ map (λ dir. b ∷ dir) (dirs_above path)

-- a directory that a path goes through
abbrev pub IsAbove : List ℕ → List ℕ → Type 0
IsAbove dir path = Contains (dirs_above path) dir

-- `file PATH : BODY`
pub record IsFileLine (text path bytes : List ℕ) : Type 0 where
  pub word : List ℕ
  pub rest : List ℕ
  pub words : text ≡ joined (codes "file" ∷ word ∷ codes ":" ∷ []) ++ rest
  pub is_path : StandsFor word path
  pub is_entry_path : IsEntryPath path
  pub has_body : HasBody rest bytes

-- `dir PATH`
pub record IsDirLine (text path : List ℕ) : Type 0 where
  pub word : List ℕ
  pub words : text ≡ joined (codes "dir" ∷ word ∷ [])
  pub is_path : StandsFor word path
  pub is_entry_path : IsEntryPath path

-- which text is which entry
abbrev pub IsEntryLine : List ℕ → Entry → Type 0
IsEntryLine text (File path bytes) = IsFileLine text path bytes
IsEntryLine text (Dir path) = IsDirLine text path

-- the path of an entry
abbrev pub path_of : Entry → List ℕ
path_of (File path bytes) = path
path_of (Dir path) = path

-- which names an entry makes files, and which directories
abbrev pub IsFileOf : Entry → List ℕ → Type 0
IsFileOf (File path bytes) name = path ≡ name
IsFileOf (Dir path) name = ⊥

abbrev pub IsDirOf : Entry → List ℕ → Type 0
IsDirOf (File path bytes) name = IsAbove name path
IsDirOf (Dir path) name = (path ≡ name) ⊎ IsAbove name path

-- a file of the one is a directory of the other
abbrev pub SharesFile : Entry → Entry → Type 0
SharesFile a b = (name : List ℕ) × IsFileOf a name × IsDirOf b name

-- no name is a file of the one and a directory of the other
abbrev pub Agree : Entry → Entry → Type 0
Agree a b = (¬ (SharesFile a b)) × (¬ (SharesFile b a))

-- entries that may stand on one disk, each with those after it
abbrev pub AllAgree : List Entry → Type 0
AllAgree [] = Unit {0}
AllAgree (first ∷ later) = All (Agree first) later × AllAgree later
