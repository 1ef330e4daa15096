-- The channels of a program: which one each of its pipes is, what came of them and wasn't taken yet, and what is done with
-- them.
use Rattle.std.specs.Prelude.{◌≡◌, ◌≢◌, ◌⊎◌, ℕ, ◌<◌, List, [], ◌∷◌, ◌++◌, length, set, slice_get, slice_index_or, position, flat_map, Bool, true, false, ◌==◌, ◌||◌, Option, Some, None, is_some}
use Rattle.std.specs.List.{All, remove}
use Rattle.call_fs.specs.declared.program.Port.{Port}
use Rattle.call_fs.specs.declared.program.Port.TheVariants as port
use Rattle.call_fs.specs.declared.program.Ready.{Ready}
use Rattle.call_fs.specs.declared.past.ChildData.{ChildData}
use Rattle.call_fs.specs.declared.past.ChildData.TheVariants.{Bounce, Forward, Local, Remote}
use Rattle.call_fs.specs.declared.past.NeedData.{NeedData}
use Rattle.call_fs.specs.declared.past.NeedData.TheVariants as needs
use Rattle.call_fs.specs.declared.past.GotData.{GotData}
use Rattle.call_fs.specs.declared.past.GotData.TheVariants as got
use Rattle.outside.specs.declared.posts.Post.{Post}
use Rattle.outside.specs.declared.posts.Post.TheVariants as post
use Rattle.outside.specs.declared.posts.Waiting.{Waiting}
use Rattle.outside.specs.declared.posts.Waiting.TheVariants as waiting
use Rattle.outside.specs.declared.sink.Gave.{Gave}
use Rattle.outside.specs.declared.sink.Gave.TheVariants as gave
use Rattle.outside.specs.declared.spawner.Started.{Started}
use Rattle.outside.specs.declared.spawner.Started.TheVariants as started
use Rattle.outside.specs.declared.spawner.Status.{Status}
use Rattle.outside.specs.declared.spawner.Status.TheVariants as status
use Rattle.outside.specs.Children.{Posted, SpawnCall, Starts, is_failure}
use Rattle.outside.specs.Children.SpawnCall.{Start, Feed, Finish, AskStatus}
use Rattle.program_runner.specs.declared.line.Line.{Line}
use Rattle.program_runner.specs.declared.line.Line.TheVariants as line

-- The channels of the links, in the order of `Ready`, and of the program of each delivery; of which deliveries the program's
-- end was taken; and what came and wasn't taken yet, the first one first.
pub record LineState : Type 0 where
  pub links : List (Option ℕ)
  pub programs : List (Option ℕ)
  pub over : List Bool
  pub kept : List Waiting

-- a piece of bytes has some
abbrev pub HasSome : Waiting → Type 0
HasSome (waiting.Bytes chan bytes) = 0 < length bytes
HasSome (waiting.End chan) = Unit {0}
HasSome (waiting.Failed chan) = Unit {0}

-- Which channel is which

abbrev pub link_of : LineState → ℕ → Option ℕ
link_of l i = slice_index_or l.links i None

abbrev pub program_of : LineState → ℕ → Option ℕ
program_of l slot = slice_index_or l.programs slot None

abbrev pub link_line : Option ℕ → Line
link_line None = line.Missing
link_line (Some chan) = line.Link chan

abbrev pub program_line : ℕ → Option ℕ → Line
program_line slot None = line.Missing
program_line slot (Some chan) = line.Program slot chan

abbrev pub status_line : ℕ → Option ℕ → Line
status_line slot None = line.Missing
status_line slot (Some chan) = line.Status slot chan

-- the line of a port: the output's is no channel
abbrev pub line_of : LineState → Port → Line
line_of l port.Input = link_line (link_of l 0)
line_of l port.Output = line.Output
line_of l port.Clean = link_line (link_of l 0)
line_of l port.Lspawn = link_line (link_of l 1)
line_of l port.Rspawn = link_line (link_of l 2)
line_of l port.Todo = link_line (link_of l 3)
line_of l (port.Program slot) = program_line slot (program_of l slot)
line_of l (port.Status slot) = status_line slot (program_of l slot)

-- the delivery whose program it is, 0 for an only child
abbrev pub slot_of : ChildData → ℕ
slot_of (Bounce room) = 0
slot_of (Forward uid room) = 0
slot_of (Local slot words uid) = slot
slot_of (Remote slot domain sender recipient) = slot

-- What came

-- what an answer of the posts brought
abbrev pub piece_of : Post → List ℕ → List Waiting
piece_of (post.Bytes chan len) bytes = waiting.Bytes chan bytes ∷ []
piece_of (post.End chan) bytes = waiting.End chan ∷ []
piece_of (post.Failed chan) bytes = waiting.Failed chan ∷ []
piece_of post.Turn bytes = []

abbrev pub as_list : Option Waiting → List Waiting
as_list None = []
as_list (Some piece) = piece ∷ []

abbrev pub brought : List Posted → List Waiting
brought asked = flat_map (λ p. piece_of p.answer p.bytes) asked

-- the channel that a piece came of
abbrev pub channel_of : Waiting → ℕ
channel_of (waiting.Bytes chan bytes) = chan
channel_of (waiting.End chan) = chan
channel_of (waiting.Failed chan) = chan

abbrev pub is_of : ℕ → Waiting → Bool
is_of chan piece = channel_of piece == chan

-- it tells that a channel has ended, or can't be read any more
abbrev pub is_last_of : ℕ → Waiting → Bool
is_last_of chan (waiting.Bytes from bytes) = false
is_last_of chan (waiting.End from) = from == chan
is_last_of chan (waiting.Failed from) = from == chan

-- something came of this channel
abbrev pub has_come : List Waiting → Option ℕ → Bool
has_come kept None = false
has_come kept (Some chan) = is_some (position (is_of chan) kept)

-- its end came, or a failure
abbrev pub has_ended : List Waiting → Option ℕ → Bool
has_ended kept None = false
has_ended kept (Some chan) = is_some (position (is_last_of chan) kept)

-- the program of a delivery, with this channel, has ended: its end came, or was taken already
abbrev pub is_over : LineState → ℕ → ℕ → Bool
is_over l slot chan = slice_index_or l.over slot false || has_ended l.kept (Some chan)

-- What is ready: each link of which something came, and the lowest delivery whose program has ended.
abbrev pub ready_of : LineState → Ready
ready_of l = record {
  links = has_come l.kept (link_of l 0) ∷ has_come l.kept (link_of l 1) ∷ has_come l.kept (link_of l 2) ∷ has_come l.kept (link_of l 3) ∷ [];
  child = position (has_ended l.kept) l.programs;
}

-- something was waiting
abbrev pub IsNoTurn : Posted → Type 0
IsNoTurn p = p.answer ≢ post.Turn

-- Nothing more is waiting: the last answer was a turn, and none before it. All that came by these answers is kept.
pub record Gathers (old : LineState) (asked : List Posted) (new : LineState) : Type 0 where
  pub before : List Posted
  pub first : All IsNoTurn before
  pub turned : asked ≡ before ++ record { answer = post.Turn; bytes = [] } ∷ []
  pub keeps : new ≡ record old { kept = old.kept ++ brought asked }

-- What is done with it

-- the rest of a piece stays in its place
abbrev pub left_at : List Waiting → ℕ → ℕ → List ℕ → List Waiting
left_at kept place chan [] = remove kept place
left_at kept place chan (b ∷ rest) = set kept place (waiting.Bytes chan (b ∷ rest))

-- A taking of a channel: of the first piece that came of it.
abbrev pub TakesOf : ℕ → GotData → List Waiting → List Waiting → Type 0
TakesOf chan (got.Took bytes) old new = (place from : ℕ) × (rest : List ℕ) × (position (is_of chan) old ≡ Some place)
    × (slice_get old place ≡ Some (waiting.Bytes from (bytes ++ rest))) × (new ≡ left_at old place chan rest)
TakesOf chan got.End old new = (place from : ℕ) × (position (is_of chan) old ≡ Some place)
    × (slice_get old place ≡ Some (waiting.End from)) × (new ≡ remove old place)
TakesOf chan got.Failed old new = (place from : ℕ) × (position (is_of chan) old ≡ Some place)
    × (slice_get old place ≡ Some (waiting.Failed from)) × (new ≡ remove old place)
TakesOf chan other old new = ⊥

-- that a program's end was taken, or that its output can't be read any more, is kept until its delivery has another one
abbrev pub after_taking : ℕ → GotData → LineState → LineState
after_taking slot got.End l = record l { over = set l.over slot true }
after_taking slot got.Failed l = record l { over = set l.over slot true }
after_taking slot other l = l

abbrev pub came_of_status : Status → GotData
came_of_status (status.Ended code) = got.Ended code
came_of_status status.Crashed = got.Crashed
came_of_status status.Failed = got.Failed

-- Of a line that is missing every taking fails. A status is told once the program has ended, and then that is gone.
abbrev pub TakesBy : Line → GotData → List SpawnCall → LineState → LineState → Type 0
TakesBy line.Missing came calls old new = (came ≡ got.Failed) × (calls ≡ []) × (new ≡ old)
TakesBy line.Output came calls old new = (came ≡ got.Failed) × (calls ≡ []) × (new ≡ old)
TakesBy (line.Link chan) came calls old new = (kept : List Waiting) × TakesOf chan came old.kept kept × (calls ≡ []) × (new ≡ record old { kept = kept })
TakesBy (line.Program slot chan) came calls old new = (kept : List Waiting) × TakesOf chan came old.kept kept × (calls ≡ [])
    × (new ≡ after_taking slot came (record old { kept = kept }))
TakesBy (line.Status slot chan) came calls old new = (is_over old slot chan ≡ true) × (told : Status) × (came ≡ came_of_status told) × (calls ≡ AskStatus chan told ∷ [])
    × (new ≡ record old { programs = set old.programs slot None })

-- a taking, as an event does it
abbrev pub TakesAs : NeedData → GotData → List SpawnCall → LineState → LineState → Type 0
TakesAs (needs.Take port) came calls old new = TakesBy (line_of old port) came calls old new
TakesAs other came calls old new = ⊥

abbrev pub came_of_giving : Gave → GotData
came_of_giving gave.Done = got.Gave
came_of_giving gave.Failed = got.Failed

-- Bytes go to a link, and to a program as its whole input; to the output they don't go by the spawner.
abbrev pub GivesBy : Line → List ℕ → Gave → List SpawnCall → Type 0
GivesBy line.Missing bytes told calls = (told ≡ gave.Failed) × (calls ≡ [])
GivesBy line.Output bytes told calls = calls ≡ []
GivesBy (line.Link chan) bytes told calls = calls ≡ Feed chan bytes told ∷ []
GivesBy (line.Program slot chan) bytes told calls = calls ≡ Feed chan bytes told ∷ Finish chan ∷ []
GivesBy (line.Status slot chan) bytes told calls = (told ≡ gave.Failed) × (calls ≡ [])

abbrev pub came_of_start : Started → GotData
came_of_start (started.Chan chan pid) = got.Started pid
came_of_start started.Failed = got.Failed
came_of_start started.Memory = got.Memory

-- The spawner was asked once to start a child with these words; or, out of memory, the words could not be put together, and it
-- wasn't asked.
abbrev pub StartsBy : List (List ℕ) → Started → List SpawnCall → Type 0
StartsBy words told calls = (calls ≡ Start words told ∷ []) ⊎ ((told ≡ started.Memory) × (calls ≡ []))

-- a child that was started is the program of its delivery
abbrev pub after_start : ℕ → Started → LineState → LineState
after_start slot (started.Chan chan pid) l = record l { programs = set l.programs slot (Some chan); over = set l.over slot false }
after_start slot started.Failed l = l
after_start slot started.Memory l = l

-- What an event does with the channels, and which calls of the spawner it makes. A child is started by these words.
abbrev pub Serves : (ChildData → List (List ℕ)) → NeedData → GotData → List SpawnCall → LineState → LineState → Type 0
Serves words (needs.Take port) came calls old new = TakesBy (line_of old port) came calls old new
Serves words (needs.Give port bytes) came calls old new = (told : Gave) × (came ≡ came_of_giving told) × GivesBy (line_of old port) bytes told calls × (new ≡ old)
Serves words (needs.Start child) came calls old new = (told : Started) × (came ≡ came_of_start told)
    × StartsBy (words child) told calls × (new ≡ after_start (slot_of child) told old)
Serves words (needs.File call) came calls old new = (calls ≡ []) × (new ≡ old)
Serves words other came calls old new = ⊥

-- nothing came of a line of which bytes come, or the program whose status it is hasn't ended
abbrev pub IsQuiet : Line → LineState → Type 0
IsQuiet (line.Link chan) l = position (is_of chan) l.kept ≡ None
IsQuiet (line.Program slot chan) l = position (is_of chan) l.kept ≡ None
IsQuiet (line.Status slot chan) l = is_over l slot chan ≡ false
IsQuiet other l = ⊥

-- a program that has to wait: it asks for that, takes of a line of which nothing came, or asks for the status of a program
-- that hasn't ended
abbrev pub HasToWait : NeedData → LineState → Type 0
HasToWait needs.Wait l = Unit {0}
HasToWait (needs.Take port) l = IsQuiet (line_of l port) l
HasToWait other l = ⊥

-- Calls of a spawner

-- the channels of its children before these calls and after them
abbrev pub Fosters : List ℕ → List SpawnCall → List ℕ → Type 0
Fosters before [] after = after ≡ before
Fosters before (Start words told ∷ more) after = (mid : List ℕ) × Starts told before mid × Fosters mid more after
Fosters before (Feed chan bytes told ∷ more) after = Fosters before more after
Fosters before (Finish chan ∷ more) after = Fosters before more after
Fosters before (AskStatus chan told ∷ more) after = Fosters before more after

abbrev pub IsFailedCall : SpawnCall → Type 0
IsFailedCall (Start words told) = told ≡ started.Failed
IsFailedCall (Feed chan bytes told) = told ≡ gave.Failed
IsFailedCall (Finish chan) = ⊥
IsFailedCall (AskStatus chan told) = told ≡ status.Failed

-- one of these is such
abbrev pub HasOne : {X : Type 0} → (X → Type 0) → List X → Type 0
HasOne P [] = ⊥
HasOne P (x ∷ more) = P x ⊎ HasOne P more

abbrev pub IsFailedAnswer : Posted → Type 0
IsFailedAnswer p = is_failure p.answer ≡ true
