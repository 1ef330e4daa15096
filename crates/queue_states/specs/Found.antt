-- Which of a number's files were found. What was found so far is a map from numbers to files.
use Rattle.std.specs.Prelude.{◌≡◌, ◌≢◌, ◌⊎◌, ◌||◌, ◌↔◌, ℕ, List, ◌∷◌, ◌++◌, Bool, true, false, Option, Some, None, IsTrue, Contains}
use Rattle.std.specs.Ordering.{nat_cmp}
use Rattle.std.specs.BTreeMap.{BTreeMap, get}
use Rattle.mail_bytes.specs.Decimal.{digits}
use Rattle.call_fs.specs.Disk.{Disk}
use Rattle.queue_paths.specs.Names.{Name, Part, path, is_number}
use Rattle.queue_paths.specs.Names.Name.{Pid, Of}
use Rattle.queue_paths.specs.Names.Part.{Mess, Intd, Todo, Info, Local, Remote, Bounce, SplitIntd, SplitTodo}
use Rattle.queue_states.specs.declared.state.State.{State}
use Rattle.queue_states.specs.declared.files.Files.{Files}
use Rattle.queue_states.specs.States.{state_by, is_there}

abbrev pub has : Files → Part → Bool
has files Mess = files.mess
has files Intd = files.intd
has files Todo = files.todo
has files Info = files.info
has files Local = files.local
has files Remote = files.remote
has files Bounce = files.bounce
has files SplitIntd = files.split_intd
has files SplitTodo = files.split_todo

-- one file more
abbrev pub with_part : Part → Files → Files
with_part Mess files = record files { mess = true }
with_part Intd files = record files { intd = true }
with_part Todo files = record files { todo = true }
with_part Info files = record files { info = true }
with_part Local files = record files { local = true }
with_part Remote files = record files { remote = true }
with_part Bounce files = record files { bounce = true }
with_part SplitIntd files = record files { split_intd = true }
with_part SplitTodo files = record files { split_todo = true }

abbrev pub with_name : Name → Files → Files
with_name (Pid pid start seq) files = files
with_name (Of part n) files = with_part part files

-- the message number of a name; a pid name has none
abbrev pub number_of : Name → Option ℕ
number_of (Pid pid start seq) = None
number_of (Of part n) = Some n

abbrev pub no_files : Files
no_files = record { mess = false; intd = false; todo = false; info = false; local = false; remote = false; bounce = false; split_intd = false; split_todo = false }

-- the state of a number that has these files
abbrev pub state_with : Files → State
state_with files = state_by files.mess (files.intd || files.split_intd) (files.todo || files.split_todo) files.info files.local files.remote files.bounce

-- what is told of a number
abbrev pub entry_of : ℕ × Files → ℕ × State
entry_of entry = (entry.0, state_with entry.1)

-- a file of a number was found
abbrev pub has_in : Option Files → Part → Bool
has_in None part = false
has_in (Some files) part = has files part

abbrev pub is_found : BTreeMap ℕ Files → Part → ℕ → Bool
is_found found part n = has_in (get nat_cmp found n) part

-- no number stands there without a file
abbrev pub EachHasFile : BTreeMap ℕ Files → Type 0
EachHasFile found = (n : ℕ) (files : Files) → get nat_cmp found n ≡ Some files → (part : Part) × IsTrue (has files part)

-- these are the files of this number from now on
pub record Puts (n : ℕ) (files : Files) (old new : BTreeMap ℕ Files) : Type 0 where
  pub here : get nat_cmp new n ≡ Some files
  pub others : (m : ℕ) → m ≢ n → get nat_cmp new m ≡ get nat_cmp old m

-- the file of this name was noted, if it is one of a message number, and no other
pub record Notes (name : Option Name) (old new : BTreeMap ℕ Files) : Type 0 where
  pub found : (part : Part) (n : ℕ) → IsTrue (is_found new part n) ↔ ((name ≡ Some (Of part n)) ⊎ IsTrue (is_found old part n))
  pub some : EachHasFile old → EachHasFile new

-- every message file in these directories was noted, and none that isn't on the disk
pub record Gathers (d : Disk) (dirs : List (List ℕ)) (old new : BTreeMap ℕ Files) : Type 0 where
  pub kept : (part : Part) (n : ℕ) → IsTrue (is_found old part n) → IsTrue (is_found new part n)
  pub only : (part : Part) (n : ℕ) → IsTrue (is_found new part n) → IsTrue (is_found old part n) ⊎ (IsTrue (is_number n) × IsTrue (is_there d part n))
  pub all : (dir : List ℕ) (part : Part) (n : ℕ) → Contains dirs dir → IsTrue (is_number n) → path (Of part n) ≡ dir ++ 47 ∷ digits n → IsTrue (is_there d part n) → IsTrue (is_found new part n)
  pub some : EachHasFile old → EachHasFile new
