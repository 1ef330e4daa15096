-- A disk in memory: the lists that it keeps, and the disk that they stand for.
use Rattle.std.specs.Prelude.{◌≡◌, ◌≢◌, ◌⊎◌, ℕ, ◌<◌, ◌≤◌, ◌^◌, ◌==◌, ◌++◌, List, [], ◌∷◌, Bool, true, false, IsTrue, Option, Some, None, count_by, Contains, ◌↔◌, if◌then◌else◌}
use Rattle.std.specs.Option.{option_map}
use Rattle.std.specs.Ordering.{nat_cmp}
use Rattle.std.specs.BTreeSet.{BTreeSet, contains}
use Rattle.call_fs.specs.declared.calls.CallData.{CallData}
use Rattle.call_fs.specs.declared.calls.Told.{Told}
use Rattle.call_fs.specs.declared.calls.Answer.{Answer}
use Rattle.call_fs.specs.declared.calls.Answer.TheVariants.{Created, Opened, Refused}
use Rattle.call_fs.specs.declared.calls.FsError.TheVariants.{NotThere, Exists, Fault, Memory}
use Rattle.mem_files.specs.declared.file.Inode.{Inode}
use Rattle.mail_bytes.specs.Told.{raised}
use Rattle.call_fs.specs.Disk.{Open, Disk}
use Rattle.call_fs.specs.Free.{IsFree, IsLeastFree, IsNextDescriptor}
use Rattle.call_fs.specs.Plan.{Plan, no_plan}
use Rattle.call_fs.specs.Went.{Went}
use Rattle.call_fs.specs.Placing.{PlacesNew, with_file}
use Rattle.mem_files.specs.MemFile.{settled_file}
use Rattle.mem_files.specs.MemFiles.{file_at, links_of, holds_of, IsIdle}
use Rattle.mem_files.specs.Tables.{at_number, AreNumbersInOrder}
use Rattle.mem_fs.specs.Tables.{at_name, AreNamesInOrder}

-- The lists of a disk in memory: its directories, the number of each name, what each number has, and each open
-- descriptor.
pub record Held : Type 0 where
  pub dirs : List (List ℕ)
  pub names : List (List ℕ × ℕ)
  pub files : List (ℕ × Inode)
  pub opens : List (ℕ × Open)

-- the descriptor is open on the file of this number
abbrev pub IsOpenOn : Disk → ℕ → ℕ → Type 0
IsOpenOn d fd n = option_map (λ (o : Open). o.number) (d.opens fd) ≡ Some n

-- The disk that the lists stand for. A file that nothing uses any more is kept until its number is taken again.
abbrev pub disk_of : Held → Disk
disk_of h = record { dirs = h.dirs; names = at_name h.names; files = file_at h.files; opens = at_number h.opens }

-- how many entries have a number, counted one by one: so many names, and so many open descriptors
abbrev pub count_of : {K V : Type 0} → (V → ℕ) → List (K × V) → ℕ → ℕ
count_of number es n = count_by (λ e. number e.1 == n) es

abbrev pub names_of : List (List ℕ × ℕ) → ℕ → ℕ
names_of names n = count_of (λ (k : ℕ). k) names n

abbrev pub opens_counted : List (ℕ × Open) → ℕ → ℕ
opens_counted opens n = count_of (λ (o : Open). o.number) opens n

-- the lists are in order, and each entry of a file counts what uses it
pub record IsSound (h : Held) : Type 0 where
  pub names : AreNamesInOrder h.names
  pub files : AreNumbersInOrder h.files
  pub opens : AreNumbersInOrder h.opens
  pub links : (n : ℕ) → links_of h.files n ≡ names_of h.names n
  pub holds : (n : ℕ) → holds_of h.files n ≡ opens_counted h.opens n

-- no u64 may be taken
abbrev pub NoneFree : Disk → Type 0
NoneFree d = (n : ℕ) → n < 2 ^ 64 → ¬ (IsFree d n)

-- The number that a new file takes, and the picks that are left then: the next pick if that is free, else the least
-- free number. A pick that isn't free is used up.
abbrev pub IsNextNumber : Disk → List ℕ → ℕ → List ℕ → Type 0
IsNextNumber d [] n left = IsLeastFree d n × (left ≡ [])
IsNextNumber d (pick ∷ picks) n left =
    ((IsFree d pick × (n ≡ pick)) ⊎ ((¬ (IsFree d pick)) × IsLeastFree d n)) × (left ≡ picks)

-- the same if a number is picked for this file alone: it comes before the picks of the disk, and none is used up
abbrev pub IsPickedNumber : Disk → Option ℕ → List ℕ → ℕ → List ℕ → Type 0
IsPickedNumber d None picks n left = IsNextNumber d picks n left
IsPickedNumber d (Some pick) picks n left =
    (IsFree d pick × (n ≡ pick) × (left ≡ picks)) ⊎ ((¬ (IsFree d pick)) × IsNextNumber d picks n left)

-- the least idle number from 1
abbrev pub IsLeastIdle : List (ℕ × Inode) → ℕ → Type 0
IsLeastIdle files n = (1 ≤ n) × IsIdle files n × ((lower : ℕ) → 1 ≤ lower → lower < n → ¬ (IsIdle files lower))

-- the least number of a set
abbrev pub IsLeastOf : BTreeSet ℕ → ℕ → Type 0
IsLeastOf free n = IsTrue (contains nat_cmp free n) × ((m : ℕ) → IsTrue (contains nat_cmp free m) → n ≤ m)

-- What is kept of the numbers that nothing uses: those are idle, and each idle number from 1 below `low` is among them.
pub record IsIndexed (files : List (ℕ × Inode)) (free : BTreeSet ℕ) (low : ℕ) : Type 0 where
  pub positive : 1 ≤ low
  pub listed : (n : ℕ) → 1 ≤ n → n < low → IsIdle files n → IsTrue (contains nat_cmp free n)
  pub idle : (n : ℕ) → IsTrue (contains nat_cmp free n) → (1 ≤ n) × IsIdle files n

-- the same of all numbers but one, which isn't among them and may be idle
pub record IsIndexedBeside (files : List (ℕ × Inode)) (free : BTreeSet ℕ) (low number : ℕ) : Type 0 where
  pub positive : (1 ≤ low) × (1 ≤ number)
  pub listed : (n : ℕ) → 1 ≤ n → n < low → n ≢ number → IsIdle files n → IsTrue (contains nat_cmp free n)
  pub idle : (n : ℕ) → IsTrue (contains nat_cmp free n) → (1 ≤ n) × (n ≢ number) × IsIdle files n

-- the same of all numbers but one, which is used and may still be among them
pub record IsIndexedWith (files : List (ℕ × Inode)) (free : BTreeSet ℕ) (low number : ℕ) : Type 0 where
  pub positive : 1 ≤ low
  pub used : ¬ (IsIdle files number)
  pub listed : (n : ℕ) → 1 ≤ n → n < low → IsIdle files n → IsTrue (contains nat_cmp free n)
  pub idle : (n : ℕ) → IsTrue (contains nat_cmp free n) → (1 ≤ n) × (n ≢ number → IsIdle files n)

-- no directory, no name, nothing open
abbrev pub held_nothing : Held
held_nothing = record { dirs = []; names = []; files = []; opens = [] }

-- the bytes of the file of a name
abbrev pub bytes_at : Disk → List ℕ → Option (List ℕ)
bytes_at d name = option_map (λ n. (d.files n).bytes) (d.names name)

-- a name has these bytes, all of them on the disk: the file that it had before, or else a new one
pub record Places (old : Disk) (name bytes : List ℕ) (new : Disk) : Type 0 where
  pub there : (n : ℕ) → old.names name ≡ Some n → new ≡ with_file old n (settled_file bytes)
  pub missing : old.names name ≡ None → PlacesNew old name (settled_file bytes) new

-- each u64 from 1 is open
abbrev pub AllOpen : Disk → Type 0
AllOpen d = (fd : ℕ) → 1 ≤ fd → fd < 2 ^ 64 → ¬ (d.opens fd ≡ None)

-- A disk in memory with its plan: the picks that are left for new numbers, the calls that are to fail, by their index
-- from 1, how many calls were made (`close` isn't counted), and how many have failed.
pub record Planned : Type 0 where
  pub held : Held
  pub picks : List ℕ
  pub plan : List ℕ
  pub made : ℕ
  pub faults : ℕ

-- a disk in memory that holds nothing and has made no call
abbrev pub fresh : List ℕ → List ℕ → Planned
fresh picks plan = record { held = held_nothing; picks = picks; plan = plan; made = 0; faults = 0 }

-- a fault was answered
abbrev pub is_fault : Answer → Bool
is_fault (Refused Fault) = true
is_fault (Refused NotThere) = false
is_fault (Refused Exists) = false
is_fault (Refused Memory) = false
is_fault other = false

-- what was made or opened has the least descriptor that is free, and a new file the next number; nothing else uses a
-- pick up
abbrev pub TakesNext : Disk → Option ℕ → List ℕ → Answer → List ℕ → Type 0
TakesNext d pick picks (Created fd n) left = IsNextDescriptor d fd.0 × IsPickedNumber d pick picks n left
TakesNext d pick picks (Opened fd) left = IsNextDescriptor d fd.0 × (left ≡ picks)
TakesNext d pick picks answer left = left ≡ picks

-- A call was counted; a number may have been picked for it alone.
pub record Counts (old new : Planned) (pick : Option ℕ) (answer : Answer) : Type 0 where
  -- one call more was made, and those that are to fail stay
  pub made : new.made ≡ raised old.made
  pub plan : new.plan ≡ old.plan
  -- it failed exactly if it was planned to, which was counted, and then left the lists as they were
  pub planned : IsTrue (is_fault answer) ↔ Contains old.plan (raised old.made)
  pub faults : new.faults ≡ (if is_fault answer then raised old.faults else old.faults)
  pub nothing_done : is_fault answer ≡ true → new.held ≡ old.held
  -- the number, the descriptor and the picks that are left
  pub takes : TakesNext (disk_of old.held) pick old.picks answer new.picks

-- only the lists changed
abbrev pub with_held : Planned → Held → Planned
with_held p h = record { held = h; picks = p.picks; plan = p.plan; made = p.made; faults = p.faults }

-- A disk without picks, and without calls that are to fail, tells its plan: nothing is chosen.
abbrev pub empty_plan : List ℕ → List ℕ → Option Plan
empty_plan [] [] = Some no_plan
empty_plan [] (fault ∷ faults) = None
empty_plan (pick ∷ picks) faults = None

-- how a call went, as a disk in memory tells it: it keeps no calls
abbrev pub MemWent : Planned → Planned → ℕ → CallData → Told → Type 0
MemWent = Went (λ m. Some (disk_of m.held)) (λ m. None) (λ m. empty_plan m.picks m.plan) (λ m. m.faults)
