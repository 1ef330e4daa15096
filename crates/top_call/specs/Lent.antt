-- What a call is lent, as far as that tells of itself.
use Rattle.std.specs.Prelude.{ℕ, List, Bool, Option, String}
use Rattle.std.specs.declared.alloc.Global.{Global}
use Rattle.call_fs.specs.Disk.{Disk}
use Rattle.call_fs.specs.declared.calls.Recorded.{Recorded}
use Rattle.outside.specs.Children.{Arrival, Posted, SpawnCall}

-- a source: what it has still to give, whether it has ended, and how often it failed
pub record SourceLent : Type 0 where
  pub left : Option (List ℕ)
  pub ended : Option Bool
  pub faults : ℕ

-- a sink: what it took, and how often it failed
pub record SinkLent : Type 0 where
  pub taken : Option (List ℕ)
  pub faults : ℕ

-- posts: what is waiting, what they were asked, and how often they failed
pub record PostsLent : Type 0 where
  pub waiting : Option (List Arrival)
  pub asked : Option (List Posted)
  pub faults : ℕ

-- a spawner: the channels of its children, its calls, and how often it failed
pub record SpawnerLent : Type 0 where
  pub children : List ℕ
  pub calls : Option (List SpawnCall)
  pub faults : ℕ

-- All of it, at a moment: the disk with its calls and failures; the message, the envelope, the output and the log; the clock, by what
-- it told, its last moment and the number of the process; the posts and the spawner.
pub record Lent : Type 0 where
  pub disk : Option Disk
  pub calls : Option (List Recorded)
  pub disk_faults : ℕ
  pub message : SourceLent
  pub envelope : SourceLent
  pub out : SinkLent
  pub log : SinkLent
  pub moments : Option (List ℕ)
  pub last : ℕ
  pub pid : ℕ
  pub posts : PostsLent
  pub spawner : SpawnerLent

-- what a call with these words does to what it is lent, and with which status
abbrev pub Deed : Type 1
Deed = List (String Global) → Lent → Lent → ℕ → Type 0

-- a call with these words was made over something, and this is its status
abbrev pub IsStatusOf : Deed → List (String Global) → ℕ → Type 0
IsStatusOf does words status = (old : Lent) × (new : Lent) × does words old new status
