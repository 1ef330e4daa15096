-- How `settle` ends, and what a whole idle turn is, of any actor that searches.
use Rattle.std.specs.Prelude.{◌≡◌, ◌≢◌, ℕ, List, [], ◌∷◌, ◌++◌, length, Bool, true, false, Option, Some, None, All, Contains, codes}
use Rattle.call_fs.specs.Disk.{Disk}
use Rattle.call_fs.specs.declared.past.Own.{Own}
use Rattle.send_core.specs.Stands.{is_search}
use Rattle.send_core.specs.Table.{row_now}
use Rattle.world_events.specs.declared.event.Program.{Program}
use Rattle.world_events.specs.declared.event.Program.TheVariants.{Sender}
use Rattle.world_events.specs.Searches.{searches}
use Rattle.mail_world.specs.Generations.{idled_by}
use Rattle.mail_world.specs.History.{Actor, State}
use Rattle.mail_world.specs.Readiness.{found_in}
use Rattle.script_words.specs.declared.letter.Letter.{Letter}
use Rattle.scenario.specs.Chains.{EachFollows}
use Rattle.scenario.specs.Deeds.{Deed, after, event_in}
use Rattle.scenario.specs.Deeds.Deed.{Came}
use Rattle.scenario.specs.Steps.{idles, refusal_line}
use Rattle.scenario.specs.Steps.Refusal.{Rounds, Steps}
use Rattle.scenario.specs.Turns.{Round, events_in, is_idle, is_search_call, most_rounds, round_events}
use Rattle.mail_world.specs.History.Event.{Act}
use Rattle.settle_law.specs.Rests.{BeginsTurn}
use Rattle.settle_law.specs.Suffices.{desk_of}

-- Who searches takes idle turns (`searches`); each other actor waits or does something.

-- This actor read the present moment at its event, and found all that was ready for it.
pub record FindsAll (s : State) (a : List ℕ) (own : Own) : Type 0 where
  pub now : own.read ≡ s.now
  pub found : own.ready ≡ found_in s a

-- The deed, after these, is a search of this actor that ended an idle turn of it, and at which it found all.
pub record EndsIdle (d : Disk) (a : List ℕ) (deed : Deed) (before : List Deed) : Type 0 where
  pub own : Own
  pub wrote : ℕ
  pub is : deed ≡ Came (Act a own wrote)
  pub search : is_search_call own.due ≡ true
  pub idle : idled_by ((after d before).actors a) own ≡ true
  pub finds : FindsAll (after d before) a own

-- these deeds are events of other actors alone
abbrev pub IsOfOthers : List ℕ → Deed → Type 0
IsOfOthers a (Came (Act b own wrote)) = b ≢ a
IsOfOthers a deed = ⊥

-- The newest event of this actor, among these deeds after those, ended an idle turn of it so.
pub record HasEndedIdle (d : Disk) (a : List ℕ) (deeds before : List Deed) : Type 0 where
  pub newer : List Deed
  pub deed : Deed
  pub older : List Deed
  pub are : deeds ≡ newer ++ deed ∷ older
  pub others : All (IsOfOthers a) newer
  pub ends : EndsIdle d a deed (older ++ before)

-- A whole idle turn

-- this event of an actor with this program, after that past, is a search by its table; and a turn of it begins after that past
abbrev pub searches_in : Program → List Own → Own → Bool
searches_in (Sender start) past own = is_search (row_now (desk_of past) own.read own.ready)
searches_in other past own = false

abbrev pub BeginsIn : Program → List Own → Type 0
BeginsIn (Sender start) past = BeginsTurn (desk_of past).row
BeginsIn other past = ⊥

abbrev pub searches_by : Option Actor → Own → Bool
searches_by None own = false
searches_by (Some x) own = searches_in x.program x.past own

-- This deed, after those, is such a search of that actor, at which it found all.
pub record Searches (d : Disk) (a : List ℕ) (before : List Deed) (deed : Deed) : Type 0 where
  pub own : Own
  pub wrote : ℕ
  pub is : deed ≡ Came (Act a own wrote)
  pub search : is_search_call own.due ≡ true
  pub by : searches_by ((after d before).actors a) own ≡ true
  pub finds : FindsAll (after d before) a own

-- A turn that may be a whole idle one: whose it is, its first deed, and the later ones, the newest first.
pub record Turn : Type 0 where
  pub name : List ℕ
  pub first : Deed
  pub later : List Deed

-- the deeds of some, and whose they are, the newest first
abbrev pub deeds_of : List Turn → List Deed
deeds_of [] = []
deeds_of (turn ∷ before) = turn.later ++ turn.first ∷ deeds_of before

abbrev pub names_of : List Turn → List (List ℕ)
names_of [] = []
names_of (turn ∷ before) = turn.name ∷ names_of before

-- the newest of these ended an idle turn
abbrev pub is_over : Disk → List Deed → Deed → List Deed → Bool
is_over d [] first before = idles (after d before) (event_in first)
is_over d (newest ∷ older) first before = idles (after d (older ++ first ∷ before)) (event_in newest)

-- It is a whole idle turn after these deeds, of an actor that searches: it begins a turn before them, each is a search of it, and the newest ended the
-- turn.
pub record IsIdleTurn (d : Disk) (before : List Deed) (turn : Turn) : Type 0 where
  pub who : searches turn.name ≡ true
  pub actor : Actor
  pub is : (after d before).actors turn.name ≡ Some actor
  pub begins : BeginsIn actor.program actor.past
  pub searches : Searches d turn.name before turn.first
  pub goes_on : EachFollows (λ older deed. Searches d turn.name (older ++ turn.first ∷ before) deed) turn.later
  pub ends : is_over d turn.later turn.first before ≡ true

-- These are whole idle turns, the newest first, with nothing between, and each actor that searches has one.
pub record AreIdleTurns (d : Disk) (before : List Deed) (turns : List Turn) : Type 0 where
  pub are : EachFollows (λ older turn. IsIdleTurn d (deeds_of older ++ before) turn) turns
  pub each : (a : List ℕ) → searches a ≡ true → Contains (names_of turns) a

-- How it stops

-- It made the most steps of an actor in one run; or just the most rounds, none of which was idle; or it printed nothing, and its newest round was idle,
-- and an idle turn ended in it of each actor that searches.
pub data StopsSo (d : Disk) (h : List Deed) (letter : Letter) (rounds : List Round) (text : List ℕ) : Type 0 where
  TooLong : (a : List ℕ) → text ≡ refusal_line Steps a → StopsSo d h letter rounds text
  TooMany : length rounds ≡ most_rounds d h → text ≡ refusal_line Rounds (codes "settle") → StopsSo d h letter rounds text
  Rests : text ≡ [] → (round : Round) (before : List Round) → rounds ≡ round ∷ before → is_idle d (events_in letter before ++ h) letter round ≡ true
      → ((a : List ℕ) → searches a ≡ true → HasEndedIdle d a (round_events letter round) (events_in letter before ++ h)) → StopsSo d h letter rounds text
