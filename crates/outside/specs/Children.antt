-- Children, their posts, and the calls that a value may keep.
use Rattle.std.specs.Prelude.{◌≡◌, ℕ, ◌<◌, ◌≤◌, List, [], ◌∷◌, ◌++◌, map, take, Bool, true, false, Contains}
use Rattle.outside.specs.declared.posts.Post.{Post}
use Rattle.outside.specs.declared.posts.Post.TheVariants as post
use Rattle.outside.specs.declared.posts.Waiting.{Waiting}
use Rattle.outside.specs.declared.posts.Waiting.TheVariants as waiting
use Rattle.outside.specs.declared.sink.Gave.{Gave}
use Rattle.outside.specs.declared.spawner.Started.{Started}
use Rattle.outside.specs.declared.spawner.Started.TheVariants as started
use Rattle.outside.specs.declared.spawner.Status.{Status}

-- what comes from a channel: a byte, its end, or a failure
pub data Arrival : Type 0 where
  Byte : (chan byte : ℕ) → Arrival
  End : (chan : ℕ) → Arrival
  Failed : (chan : ℕ) → Arrival

abbrev pub arrivals : Waiting → List Arrival
arrivals (waiting.Bytes chan bytes) = map (Byte chan) bytes
arrivals (waiting.End chan) = End chan ∷ []
arrivals (waiting.Failed chan) = Failed chan ∷ []

-- no more bytes came than there is room for, and some
abbrev pub FillsFront : Post → ℕ → Type 0
FillsFront (post.Bytes chan len) room = (0 < len) × (len ≤ room)
FillsFront other room = Unit {0}

-- a post put its bytes at the start of `into`: what was waiting before it, and what is waiting after it
abbrev pub Receives : Post → List ℕ → List Arrival → List Arrival → Type 0
Receives (post.Bytes chan len) into before after = before ≡ map (Byte chan) (take len into) ++ after
Receives (post.End chan) into before after = before ≡ End chan ∷ after
Receives (post.Failed chan) into before after = before ≡ Failed chan ∷ after
Receives post.Turn into before after = (before ≡ []) × (after ≡ [])

-- a channel couldn't be read
abbrev pub is_failure : Post → Bool
is_failure (post.Bytes chan len) = false
is_failure (post.End chan) = false
is_failure post.Turn = false
is_failure (post.Failed chan) = true

abbrev pub IsFailedPost : Post → Type 0
IsFailedPost answer = is_failure answer ≡ true

-- a call for a post: what was answered, and the bytes that came
pub record Posted : Type 0 where
  pub answer : Post
  pub bytes : List ℕ

abbrev pub posted : Post → List ℕ → Posted
posted (post.Bytes chan len) into = record { answer = post.Bytes chan len; bytes = take len into }
posted other into = record { answer = other; bytes = [] }

-- a start: the channels of the children before it, and after it
abbrev pub Starts : Started → List ℕ → List ℕ → Type 0
Starts (started.Chan chan pid) before after =
    (0 < chan) × (¬ (Contains before chan)) × (after ≡ before ++ chan ∷ [])
Starts other before after = after ≡ before

-- a call of a spawner, with its answer
pub data SpawnCall : Type 0 where
  Start : (words : List (List ℕ)) → Started → SpawnCall
  Feed : (chan : ℕ) → (bytes : List ℕ) → Gave → SpawnCall
  Finish : (chan : ℕ) → SpawnCall
  AskStatus : (chan : ℕ) → Status → SpawnCall
