-- The children of a sender's links: how they are started, and how they are ended.
use Rattle.std.specs.Prelude.{◌≡◌, ℕ, List, [], ◌∷◌, ◌++◌, map, Option, Some, None, Result, Ok, Err, codes}
use Rattle.outside.specs.declared.spawner.Started.{Started}
use Rattle.outside.specs.declared.spawner.Started.TheVariants as started
use Rattle.outside.specs.declared.spawner.Status.{Status}
use Rattle.outside.specs.Children.{SpawnCall}
use Rattle.outside.specs.Children.SpawnCall.{Start, Finish, AskStatus}
use Rattle.program_runner.specs.Serving.{SpawnerTold, Spawns}
use Rattle.queue_limits.specs.declared.statuses.TheConstants.{MEMORY, NO_START}
use Rattle.send_command.specs.declared.links.Begun.{Begun}
use Rattle.send_command.specs.declared.links.Links.{Links}

-- The words of the links' children, in order: this same program, whose name is the empty word, as the cleaner and as both spawners.
abbrev pub link_words : List ℕ → List ℕ → List (List (List ℕ))
link_words dir program =
    ([] ∷ codes "clean" ∷ dir ∷ [])
    ∷ ([] ∷ codes "lspawn" ∷ dir ∷ [])
    ∷ ([] ∷ codes "rspawn" ∷ dir ∷ program ∷ [])
    ∷ []

-- Children with these words were to be started, one after another: by these calls, with these channels. If one couldn't be, there
-- is a status, and no more were started.
pub data Begins : List (List (List ℕ)) → List SpawnCall → List ℕ → Option ℕ → Type 0 where
  AllRun : Begins [] [] [] None
  Unstarted : (words : List (List ℕ)) (more : List (List (List ℕ))) → Begins (words ∷ more) (Start words started.Failed ∷ []) [] (Some NO_START)
  NoMemory : (words : List (List ℕ)) (more : List (List (List ℕ))) → Begins (words ∷ more) (Start words started.Memory ∷ []) [] (Some MEMORY)
  Runs : (words : List (List ℕ)) (chan pid : ℕ) (more : List (List (List ℕ))) (calls : List SpawnCall) (chans : List ℕ) (status : Option ℕ)
      → Begins more calls chans status → Begins (words ∷ more) (Start words (started.Chan chan pid) ∷ calls) (chan ∷ chans) status

-- the status of each child on these channels was taken
abbrev pub AsksEach : List ℕ → List SpawnCall → Type 0
AsksEach [] calls = calls ≡ []
AsksEach (chan ∷ chans) calls = (told : Status) × (rest : List SpawnCall) × AsksEach chans rest × (calls ≡ AskStatus chan told ∷ rest)

-- The inputs of the children on these channels were ended, and then the status of each was taken.
abbrev pub Finishes : List ℕ → List SpawnCall → Type 0
Finishes chans calls = (asks : List SpawnCall) × AsksEach chans asks × (calls ≡ map Finish chans ++ asks)

-- What the code does

abbrev pub chans_with : Option ℕ → List ℕ → List ℕ
chans_with None chans = chans
chans_with (Some chan) chans = chan ∷ chans

-- the channels of those that were started
abbrev pub chans_of : Links → List ℕ
chans_of l = chans_with l.clean (chans_with l.lspawn (chans_with l.rspawn []))

-- each link has a channel
abbrev pub AreAll : Links → Type 0
AreAll l = (clean lspawn rspawn : ℕ) × (l ≡ record { clean = Some clean; lspawn = Some lspawn; rspawn = Some rspawn })

-- The links' children were started by these words, up to the first that couldn't be.
pub record AreBegun (words : List (List (List ℕ))) (b : Begun) (old new : SpawnerTold) : Type 0 where
  pub calls : List SpawnCall
  pub begins : Begins words calls (chans_of b.links) b.unstarted
  pub spawns : Spawns calls old new
  pub all : b.unstarted ≡ None → AreAll b.links

-- The inputs of those that were started were ended, and the status of each was taken.
pub record AreEnded (l : Links) (old new : SpawnerTold) : Type 0 where
  pub calls : List SpawnCall
  pub finishes : Finishes (chans_of l) calls
  pub spawns : Spawns calls old new

-- why there is no channel
abbrev pub Lacks : Started → ℕ → Type 0
Lacks (started.Chan chan pid) status = ⊥
Lacks started.Failed status = status ≡ NO_START
Lacks started.Memory status = status ≡ MEMORY

-- a child was started with these words, or couldn't be
abbrev pub IsBegun : List (List ℕ) → Result ℕ ℕ → SpawnerTold → SpawnerTold → Type 0
IsBegun words (Ok chan) old new = (pid : ℕ) × Spawns (Start words (started.Chan chan pid) ∷ []) old new
IsBegun words (Err status) old new = (told : Started) × Lacks told status × Spawns (Start words told ∷ []) old new

abbrev pub ends_of : Option ℕ → List SpawnCall
ends_of None = []
ends_of (Some chan) = Finish chan ∷ []

abbrev pub AsksOf : Option ℕ → List SpawnCall → Type 0
AsksOf None calls = calls ≡ []
AsksOf (Some chan) calls = (told : Status) × (calls ≡ AskStatus chan told ∷ [])
