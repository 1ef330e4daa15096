-- A command of a user, as a local delivery runs it (qmail-command(8)): by the shell, with the message as its input. What it prints
-- is let go, and its exit status counts once its end is known.
use Rattle.std.specs.Prelude.{◌≡◌, ◌⊎◌, ℕ, List, [], ◌∷◌, ◌++◌, length, map, All, Bool, true, false, ◌==◌, codes}
use Rattle.std.specs.List.{concat}
use Rattle.call_fs.specs.declared.past.GotData.{GotData}
use Rattle.call_fs.specs.declared.past.GotData.TheVariants as got
use Rattle.outside.specs.declared.posts.Post.{Post}
use Rattle.outside.specs.declared.posts.Post.TheVariants as post
use Rattle.outside.specs.declared.sink.Gave.TheVariants as gave
use Rattle.outside.specs.declared.spawner.Started.TheVariants as started
use Rattle.outside.specs.declared.spawner.Status.{Status}
use Rattle.outside.specs.Children.{Posted, SpawnCall}
use Rattle.outside.specs.Children.SpawnCall.{Start, Feed, Finish, AskStatus}
use Rattle.program_runner.specs.Lines.{came_of_status}
use Rattle.program_runner.specs.Runs.{most_turns}

-- the words of a command
abbrev pub shell : List ℕ → List (List ℕ)
shell text = codes "sh" ∷ codes "-c" ∷ text ∷ []

-- What a child is fed

-- a child took each of these parts
abbrev pub fed_all : ℕ → List (List ℕ) → List SpawnCall
fed_all chan parts = map (λ part. Feed chan part gave.Done) parts

-- it was fed these parts, up to the first feeding that failed
pub record Breaks (chan : ℕ) (parts : List (List ℕ)) (calls : List SpawnCall) : Type 0 where
  pub before : List (List ℕ)
  pub part : List ℕ
  pub after : List (List ℕ)
  pub parts_are : parts ≡ before ++ part ∷ after
  pub calls_are : calls ≡ fed_all chan before ++ Feed chan part gave.Failed ∷ []

-- a child was fed these parts, all of them or up to the first feeding that failed
abbrev pub FeedsUpTo : ℕ → List (List ℕ) → List SpawnCall → Type 0
FeedsUpTo chan parts calls = (calls ≡ fed_all chan parts) ⊎ Breaks chan parts calls

-- a child was fed this text, in some parts
pub record Feeds (chan : ℕ) (text : List ℕ) (calls : List SpawnCall) : Type 0 where
  pub parts : List (List ℕ)
  pub whole : concat parts ≡ text
  pub feeds : FeedsUpTo chan parts calls

-- How its end is known

-- it tells that this channel has ended, or can't be read any more
abbrev pub is_end_of : ℕ → Post → Bool
is_end_of chan (post.End from) = from == chan
is_end_of chan (post.Failed from) = from == chan
is_end_of chan (post.Bytes from len) = false
is_end_of chan post.Turn = false

-- the last of these answers is the first that told the end of this channel
pub record ToldEnd (chan : ℕ) (asked : List Posted) : Type 0 where
  pub before : List Posted
  pub last : Posted
  pub asked_are : asked ≡ before ++ last ∷ []
  pub none : All (λ p. is_end_of chan p.answer ≡ false) before
  pub end : is_end_of chan last.answer ≡ true

-- The posts were asked until they told the end of this channel; or 2^64 - 1 times, which nobody lives to see.
abbrev pub Awaits : ℕ → List Posted → Type 0
Awaits chan asked = ToldEnd chan asked ⊎ (length asked ≡ most_turns)

-- A command

-- it was started and fed, and its status was asked once the posts had told its end
pub record Ran (text message : List ℕ) (came : GotData) (asked : List Posted) (calls : List SpawnCall) : Type 0 where
  pub chan : ℕ
  pub pid : ℕ
  pub fed : List SpawnCall
  pub ended : Status
  pub feeds : Feeds chan message fed
  pub awaits : Awaits chan asked
  pub came_is : came ≡ came_of_status ended
  pub calls_are : calls ≡ Start (shell text) (started.Chan chan pid) ∷ (fed ++ (Finish chan ∷ (AskStatus chan ended ∷ [])))

-- it couldn't be started; or so it did
pub data RunsCommand (text message : List ℕ) (came : GotData) (asked : List Posted) (calls : List SpawnCall) : Type 0 where
  Unstarted : came ≡ got.Failed → asked ≡ [] → calls ≡ Start (shell text) started.Failed ∷ [] → RunsCommand text message came asked calls
  NoMemory : came ≡ got.Memory → asked ≡ [] → calls ≡ Start (shell text) started.Memory ∷ [] → RunsCommand text message came asked calls
  HasRun : Ran text message came asked calls → RunsCommand text message came asked calls
