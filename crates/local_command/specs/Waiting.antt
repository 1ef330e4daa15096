-- What running a command does, part by part.
use Rattle.std.specs.Prelude.{◌≡◌, ℕ, List, [], ◌∷◌, map}
use Rattle.std.specs.declared.vec.Vec.{Vec}
use Rattle.outside.specs.declared.sink.Gave.{Gave}
use Rattle.outside.specs.declared.sink.Gave.TheVariants as gave
use Rattle.outside.specs.declared.spawner.Status.{Status}
use Rattle.outside.specs.Children.{Posted, SpawnCall}
use Rattle.outside.specs.Children.SpawnCall.{AskStatus}
use Rattle.program_runner.specs.declared.served.Served.{Served}
use Rattle.program_runner.specs.Serving.{Answers, FitsPiece, PostsTold, SpawnerTold, Spawns, came_with}
use Rattle.local_command.specs.Commands.{Awaits, Breaks, Feeds, RunsCommand, fed_all}
use Rattle.local_command.specs.Done.{Children}

-- the end of this channel was waited for
pub record HasAwaited (chan : ℕ) (old new : PostsTold) : Type 0 where
  pub asked : List Posted
  pub awaits : Awaits chan asked
  pub posts : Answers asked old new

-- and then its status was asked
pub record HasAsked (chan : ℕ) (told : Status) (old new : Children) : Type 0 where
  pub asked : List Posted
  pub awaits : Awaits chan asked
  pub posts : Answers asked old.posts new.posts
  pub spawner : Spawns (AskStatus chan told ∷ []) old.spawner new.spawner

-- a child was fed this text
pub record HasFed (chan : ℕ) (text : List ℕ) (old new : SpawnerTold) : Type 0 where
  pub calls : List SpawnCall
  pub feeds : Feeds chan text calls
  pub spawner : Spawns calls old new

-- the bytes of blocks
abbrev pub parts_of : {Z : Type 0} → List (Vec ℕ Z) → List (List ℕ)
parts_of blocks = map (λ block. block.items) blocks

-- it took these parts; or a feeding failed
abbrev pub FeedsBy : ℕ → List (List ℕ) → Gave → List SpawnCall → Type 0
FeedsBy chan parts gave.Done calls = calls ≡ fed_all chan parts
FeedsBy chan parts gave.Failed calls = Breaks chan parts calls

pub record HasFedParts (chan : ℕ) (parts : List (List ℕ)) (told : Gave) (old new : SpawnerTold) : Type 0 where
  pub calls : List SpawnCall
  pub feeds : FeedsBy chan parts told calls
  pub spawner : Spawns calls old new

-- a command was run, and this was served
pub record HasRunCommand (text message : List ℕ) (told : Served) (old new : Children) : Type 0 where
  pub asked : List Posted
  pub calls : List SpawnCall
  pub runs : (into : List ℕ) → RunsCommand text message (came_with told into) asked calls
  pub fits : FitsPiece told
  pub posts : Answers asked old.posts new.posts
  pub spawner : Spawns calls old.spawner new.spawner
