-- A whole idle turn of a sender by its past, that it is at rest in one, and what that says of a free channel.
use Rattle.std.specs.Prelude.{◌≡◌, ◌≢◌, ◌<◌, ℕ, List, [], ◌∷◌, ◌++◌, Bool, true, All, None, length}
use Rattle.call_fs.specs.declared.past.Own.{Own}
use Rattle.call_fs.specs.declared.program.Ready.{Ready}
use Rattle.retry_schedule.specs.Due.{IsInOrder}
use Rattle.send_core.specs.declared.desk.Desk.{Desk}
use Rattle.send_core.specs.Stands.{ends_idle, is_search}
use Rattle.send_core.specs.Table.{row_now}
use Rattle.send_known.specs.declared.channel.Channel.{Channel}
use Rattle.send_jobs.specs.Lanes.{next}
use Rattle.send_jobs.specs.Sending.{lane}
use Rattle.send_jobs.specs.Slots.{attempt_in}
use Rattle.send_jobs.specs.Tries.{due_on}
use Rattle.send_parts.specs.declared.reply.Way.TheVariants.{Fine}
use Rattle.send_parts.specs.Replies.{said}
use Rattle.scenario.specs.Chains.{EachFollows}
use Rattle.settle_law.specs.Rests.{BeginsTurn, IsAtRest}
use Rattle.settle_law.specs.Suffices.{desk_of}

-- after that past and these events an event is a search of `todo`, at this moment
abbrev pub SearchesOn : List Own → ℕ → List Own → Own → Type 0
SearchesOn past now older event = let d = desk_of (older ++ past) in (is_search (row_now d event.read event.ready) ≡ true) × (event.read ≡ now)

-- The newest of a first event and of later ones, the newest first; and whether an idle turn ended there.
abbrev pub newest_of : Own → List Own → Own
newest_of first [] = first
newest_of first (newest ∷ older) = newest

abbrev pub ends_turn : List Own → Own → List Own → Bool
ends_turn past first [] = ends_idle (desk_of past) first
ends_turn past first (newest ∷ older) = ends_idle (desk_of (older ++ first ∷ past)) newest

-- A whole idle turn: after that past a turn begins, this is its first search, the later ones follow at the same moment, and the newest ends it.
pub record IsWholeTurn (past : List Own) (first : Own) (later : List Own) : Type 0 where
  pub begins : BeginsTurn (desk_of past).row
  pub searches : is_search (row_now (desk_of past) first.read first.ready) ≡ true
  pub goes_on : EachFollows (SearchesOn (first ∷ past) first.read) later
  pub ends : ends_turn past first later ≡ true

-- the sender is at rest before its first search, and the newest search gave no name
pub record RestsAt (past : List Own) (first : Own) (later : List Own) : Type 0 where
  pub rests : IsAtRest (desk_of past) first.read first.ready
  pub no_name : (said (newest_of first later).came).way ≢ Fine

-- So it is in each whole idle turn.
abbrev pub IdleTurnsRest : Type 0
IdleTurnsRest = (past : List Own) (first : Own) (later : List Own) → IsWholeTurn past first later → RestsAt past first later

-- At rest no pass is open on a channel that has a slot and has nothing in flight, and all that is due there is due later.
abbrev pub FreeChannelsRest : Type 0
FreeChannelsRest = (d : Desk) (now : ℕ) (ready : Ready) (c : Channel) → IsAtRest d now ready → 0 < length (lane c d.slots).slots
    → ((slot : ℕ) → attempt_in (lane c d.slots).slots slot ≡ None)
    → (next (lane c d.slots) ≡ None) × (IsInOrder (due_on c d.book.messages) → All (λ entry. now < entry.0) (due_on c d.book.messages))

-- And it is at rest still with what it keeps after the turn, at the same moment and with the same ready.
abbrev pub RestsStay : Type 0
RestsStay = (past : List Own) (first : Own) (later : List Own) → IsWholeTurn past first later → IsAtRest (desk_of (later ++ first ∷ past)) first.read first.ready
