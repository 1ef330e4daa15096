-- What an audit tells of a queue. On a disk with the names `pid/77.0.1` and `mess/1/1` alone it is 1 and (1, S2).
use Rattle.std.specs.Prelude.{◌≡◌, ◌↔◌, ℕ, List, length, map, Option, IsTrue, All, Contains, codes}
use Rattle.std.specs.List.Sorted.{IsStrictlyIncreasing}
use Rattle.mail_bytes.specs.Told.{OnTold}
use Rattle.call_fs.specs.Disk.{Disk}
use Rattle.queue_paths.specs.Dirs.{queue_dirs}
use Rattle.queue_paths.specs.Names.{Part, is_number}
use Rattle.queue_states.specs.declared.state.State.{State}
use Rattle.queue_states.specs.declared.outcome.Audit.{Audit}
use Rattle.queue_states.specs.States.{is_there, state_of}
use Rattle.queue_states.specs.Listing.{AreNamesIn}

-- one of the files of this number is there
abbrev pub HasFile : Disk → ℕ → Type 0
HasFile d n = (part : Part) × IsTrue (is_there d part n)

-- the numbers of a list of states ascend, so that none stands there twice
abbrev pub IsAscending : List (ℕ × State) → Type 0
IsAscending states = IsStrictlyIncreasing (map (λ entry. entry.0) states)

-- each message number, a u64 from 1, that has one of its files, with its state, and nothing else
abbrev pub AreStates : Disk → List (ℕ × State) → Type 0
AreStates d states =
    (n : ℕ) (state : State) → Contains states (n, state) ↔ (IsTrue (is_number n) × HasFile d n × (state ≡ state_of d n))

-- how many names a directory has, whatever they are
abbrev pub IsNameCount : Disk → List ℕ → ℕ → Type 0
IsNameCount d dir count = (names : List (List ℕ)) × AreNamesIn d dir names × (count ≡ length names)

-- every directory of the queue is there
abbrev pub HasQueueDirs : Disk → Type 0
HasQueueDirs d = All (Contains d.dirs) queue_dirs

-- An audit of a disk, all of whose queue directories are there. Of one that doesn't tell what it holds, only the order is known.
pub record IsAuditOf (told : Option Disk) (audit : Audit) : Type 0 where
  pub ascending : IsAscending audit.states
  pub states : OnTold told (λ d. AreStates d audit.states)
  pub dirs : OnTold told HasQueueDirs
  pub pids : OnTold told (λ d. IsNameCount d (codes "pid") audit.pids)
