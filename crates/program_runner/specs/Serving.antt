-- What the posts answered, what a spawner was asked, and how a need was served that is no file call.
use Rattle.std.specs.Prelude.{◌≡◌, ◌⊎◌, ℕ, ◌<◌, ◌≤◌, List, [], ◌∷◌, ◌++◌, length, take, set, flat_map, position, Bool, true, false, Option, None}
use Rattle.call_fs.specs.declared.file_system.TheConstants.{PIECE}
use Rattle.call_fs.specs.declared.program.Port.TheVariants as port
use Rattle.outside.specs.declared.sink.Gave.{Gave}
use Rattle.program_runner.specs.declared.line.Line.{Line}
use Rattle.call_fs.specs.declared.past.NeedData.{NeedData}
use Rattle.call_fs.specs.declared.past.NeedData.TheVariants.{Take, Give, Start, Wait}
use Rattle.call_fs.specs.declared.past.GotData.{GotData}
use Rattle.call_fs.specs.declared.past.GotData.TheVariants as got
use Rattle.call_fs.specs.Program.{MayCome, IsWithin}
use Rattle.std.specs.Prelude.{Result, Ok, Err}
use Rattle.std.specs.declared.alloc.AllocError.{AllocError}
use Rattle.mail_bytes.specs.Told.{Meets, OnTold, Records, Rose}
use Rattle.outside.specs.Streams.{CountsFailures}
use Rattle.outside.specs.Children.{Arrival, Posted, SpawnCall, Starts, arrivals}
use Rattle.outside.specs.declared.posts.Waiting.{Waiting}
use Rattle.outside.specs.declared.posts.Waiting.TheVariants as waiting
use Rattle.outside.specs.declared.posts.Post.TheVariants as post
use Rattle.outside.specs.declared.spawner.Status.{Status}
use Rattle.outside.specs.declared.spawner.Status.TheVariants as status
use Rattle.outside.specs.declared.spawner.Started.{Started}
use Rattle.outside.specs.declared.spawner.Started.TheVariants as started
use Rattle.outside.specs.Children.SpawnCall.{AskStatus, Start as Begin}
use Rattle.program_runner.specs.declared.served.Served.{Served}
use Rattle.program_runner.specs.declared.served.Served.TheVariants as served
use Rattle.program_runner.specs.Outside.{AreKept, Gives}
use Rattle.program_runner.specs.Lines.{LineState, GivesBy, HasToWait, Fosters, IsFailedAnswer, IsFailedCall, HasOne, Gathers, IsNoTurn, TakesOf, brought, is_of, is_over, piece_of}

-- What posts tell: what is waiting, the calls that they were asked, and how often they failed.
pub record PostsTold : Type 0 where
  pub waiting : Option (List Arrival)
  pub asked : Option (List Posted)
  pub faults : ℕ

-- nothing is waiting, if they tell what is
abbrev pub NoneWait : PostsTold → Type 0
NoneWait posts = OnTold posts.waiting (λ left. left ≡ [])

-- The posts answered so, and nothing else.
pub record Answers (asked : List Posted) (old new : PostsTold) : Type 0 where
  pub told : AreKept old.asked new.asked asked
  pub waiting : Meets old.waiting new.waiting (λ before after. before ≡ flat_map arrivals (brought asked) ++ after)
  pub counts : old.faults ≤ new.faults
  pub cause : HasOne IsFailedAnswer asked → Rose old.faults new.faults

-- What a spawner tells: the channels of its children, the calls that it was asked, and how often it failed.
pub record SpawnerTold : Type 0 where
  pub children : List ℕ
  pub calls : Option (List SpawnCall)
  pub faults : ℕ

-- The spawner was asked these calls, and no others.
pub record Spawns (calls : List SpawnCall) (old new : SpawnerTold) : Type 0 where
  pub told : AreKept old.calls new.calls calls
  pub children : Fosters old.children calls new.children
  pub counts : old.faults ≤ new.faults
  pub cause : HasOne IsFailedCall calls → Rose old.faults new.faults

-- A child was to be started with these words, and this was told. Out of memory the spawner may not have been asked.
pub record IsBegun (words : List (List ℕ)) (told : Started) (old new : SpawnerTold) : Type 0 where
  pub chan : Starts told old.children new.children
  pub calls : Records old.calls new.calls (Begin words told) ⊎ ((told ≡ started.Memory) × (new.calls ≡ old.calls))
  pub cause : CountsFailures old.faults new.faults (told ≡ started.Failed)

-- what came, by the bytes in the buffer
abbrev pub came_with : Served → List ℕ → GotData
came_with served.Nothing into = got.Failed
came_with (served.Took count) into = got.Took (take count into)
came_with served.End into = got.End
came_with (served.Ended code) into = got.Ended code
came_with served.Crashed into = got.Crashed
came_with served.Gave into = got.Gave
came_with (served.Started pid) into = got.Started pid
came_with served.Failed into = got.Failed
came_with served.Memory into = got.Memory

-- the bytes fit into a piece
abbrev pub FitsPiece : Served → Type 0
FitsPiece (served.Took count) = count ≤ PIECE
FitsPiece other = Unit {0}

-- a need that is no file call and no end: a taking, a giving, a start, or to wait
abbrev pub MayServe : NeedData → Type 0
MayServe (Take port) = Unit {0}
MayServe (Give port bytes) = Unit {0}
MayServe (Start child) = Unit {0}
MayServe Wait = Unit {0}
MayServe other = ⊥

abbrev pub is_done : Served → Bool
is_done served.Nothing = false
is_done (served.Took count) = true
is_done served.End = true
is_done (served.Ended code) = true
is_done served.Crashed = true
is_done served.Gave = true
is_done (served.Started pid) = true
is_done served.Failed = true
is_done served.Memory = true

-- the first of these if nothing was done, else the second
abbrev pub ByDone : Bool → Type 0 → Type 0 → Type 0
ByDone false quiet done = quiet
ByDone true quiet done = done

abbrev pub IfDone : Served → Type 0 → Type 0 → Type 0
IfDone served quiet done = ByDone (is_done served) quiet done

-- A need was served by some calls of the spawner.
pub record Serving (serves : List SpawnCall → Type 0) (old new : SpawnerTold) : Type 0 where
  pub calls : List SpawnCall
  pub done : serves calls
  pub spawns : Spawns calls old new

-- A need was served, or there is nothing to do yet.
abbrev pub IsServed : (NeedData → GotData → List SpawnCall → LineState → LineState → Type 0) → NeedData → Served → GotData → LineState → LineState → SpawnerTold → SpawnerTold → Type 0
IsServed serves due served came l m old new =
    IfDone served (HasToWait due l × (m ≡ l) × (new ≡ old)) (Serving (λ calls. serves due came calls l m) old new)

-- a taking brought some bytes
abbrev pub HasBytes : GotData → Type 0
HasBytes (got.Took bytes) = 0 < length bytes
HasBytes other = Unit {0}

-- so it did, if there was room for any
abbrev pub BringsSome : ℕ → GotData → Type 0
BringsSome most (got.Took bytes) = 0 < most → 0 < length bytes
BringsSome most other = Unit {0}

-- what came may come of what was due, and is no more than so many bytes, and some if that is so many
abbrev pub IsPossible : NeedData → ℕ → Served → GotData → Type 0
IsPossible due most served came = IfDone served (Unit {0}) (MayCome due came × IsWithin most came × BringsSome most came)

-- bytes were given by a line
abbrev pub IsGiven : Line → List ℕ → Gave → SpawnerTold → SpawnerTold → Type 0
IsGiven line bytes told old new = Serving (GivesBy line bytes told) old new

-- What an event gave to the output, and whether that failed.
pub record PutsOut (due : NeedData) (came : GotData) (old new : Option (List ℕ)) (before now : ℕ) : Type 0 where
  pub taken : Meets old new (λ first last. (given : List ℕ) × Gives due came given × (last ≡ first ++ given))
  pub counts : before ≤ now
  pub cause : (bytes : List ℕ) → due ≡ Give port.Output bytes → came ≡ got.Failed → Rose before now

-- Posts were heard

-- one post: what it brought is kept, and it was told whether nothing was waiting
abbrev pub IsKept : Posted → LineState → LineState → Result Bool AllocError → Type 0
IsKept p old new (Ok turned) = (new ≡ record old { kept = old.kept ++ piece_of p.answer p.bytes }) × (turned ≡ true → p ≡ record { answer = post.Turn; bytes = [] })
    × (turned ≡ false → IsNoTurn p)
IsKept p old new (Err why) = Unit {0}

-- nothing is waiting after such an answer
abbrev pub NoneWaitBy : Result Bool AllocError → PostsTold → Type 0
NoneWaitBy (Ok true) posts = NoneWait posts
NoneWaitBy (Ok false) posts = Unit {0}
NoneWaitBy (Err why) posts = Unit {0}

pub record IsHeard (old new : LineState) (result : Result Bool AllocError) (before after : PostsTold) : Type 0 where
  pub post : Posted
  pub kept : IsKept post old new result
  pub none : NoneWaitBy result after
  pub answers : Answers (post ∷ []) before after

-- all that came until nothing was waiting is kept, unless memory ran out
pub record IsGathered (old new : LineState) (all : Bool) (before after : PostsTold) : Type 0 where
  pub asked : List Posted
  pub kept : all ≡ true → Gathers old asked new
  pub none : all ≡ true → NoneWait after
  pub answers : Answers asked before after

-- what a taking brings of a piece, with the bytes in the buffer, and what it leaves of it
abbrev pub IsFront : Waiting → ℕ → Served → List ℕ → List ℕ → Type 0
IsFront (waiting.Bytes chan bytes) most told rest into = (count : ℕ) × (told ≡ served.Took count) × (count ≤ PIECE) × (length (take count into) ≤ most) × (bytes ≡ take count into ++ rest)
IsFront (waiting.End chan) most told rest into = (told ≡ served.End) × (rest ≡ [])
IsFront (waiting.Failed chan) most told rest into = (told ≡ served.Failed) × (rest ≡ [])

-- It was taken of this channel, or nothing came of it.
abbrev pub IsTakenAs : ℕ → ℕ → GotData → LineState → LineState → Type 0
IsTakenAs chan most came l m = (kept : List Waiting) × TakesOf chan came l.kept kept × (m ≡ record l { kept = kept }) × IsWithin most came × BringsSome most came

abbrev pub IsTaken : ℕ → ℕ → Served → List ℕ → LineState → LineState → Type 0
IsTaken chan most served.Nothing into l m = (position (is_of chan) l.kept ≡ None) × (m ≡ l)
IsTaken chan most (served.Took count) into l m = (count ≤ PIECE) × IsTakenAs chan most (got.Took (take count into)) l m
IsTaken chan most served.End into l m = IsTakenAs chan most got.End l m
IsTaken chan most served.Failed into l m = IsTakenAs chan most got.Failed l m
IsTaken chan most other into l m = ⊥

-- what is kept of the end of a delivery's program once it was served
abbrev pub after_served : ℕ → Served → LineState → LineState
after_served slot served.End l = record l { over = set l.over slot true }
after_served slot served.Failed l = record l { over = set l.over slot true }
after_served slot other l = l

-- It was taken of the program of this delivery, which has this channel.
abbrev pub IsTakenBy : ℕ → ℕ → ℕ → Served → List ℕ → LineState → LineState → Type 0
IsTakenBy slot chan most told into l m = (mid : LineState) × IsTaken chan most told into l mid × (m ≡ after_served slot told mid)

-- how a program ended, as it is served
abbrev pub served_status : Status → Served
served_status (status.Ended code) = served.Ended code
served_status status.Crashed = served.Crashed
served_status status.Failed = served.Failed

-- The spawner told how the program of this delivery ended, which has this channel.
pub record IsAsked (slot chan : ℕ) (told : Served) (l m : LineState) (old new : SpawnerTold) : Type 0 where
  pub over : is_over l slot chan ≡ true
  pub ended : Status
  pub is : told ≡ served_status ended
  pub gone : m ≡ record l { programs = set l.programs slot None }
  pub spawns : Spawns (AskStatus chan ended ∷ []) old new

-- so it did; or it wasn't asked, since the program hasn't ended
abbrev pub IsStatusTaken : ℕ → ℕ → Served → LineState → LineState → SpawnerTold → SpawnerTold → Type 0
IsStatusTaken slot chan told l m old new =
    IfDone told ((is_over l slot chan ≡ false) × (m ≡ l) × (new ≡ old)) (IsAsked slot chan told l m old new)
