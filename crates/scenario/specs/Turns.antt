-- Generations, and what runs more than one actor: a turn, and the rounds of `settle`.
use Rattle.std.specs.Prelude.{◌≡◌, ◌≢◌, ◌⊎◌, ℕ, zero, suc, ◌+◌, ◌*◌, ◌<◌, ◌≤◌, List, [], ◌∷◌, ◌++◌, length, map, Bool, true, false, not, ◌&&◌, ◌||◌, ◌==◌, Option, Some, None, if◌then◌else◌, bytes_eq, codes, nat_lt}
use Rattle.std.specs.List.{count_by, sum_by, list_any, list_all}
use Rattle.call_fs.specs.Disk.{Disk}
use Rattle.call_fs.specs.Plan.{Plan}
use Rattle.actor_names.specs.MailNames.{members}
use Rattle.world_events.specs.declared.books.Entry.{Entry}
use Rattle.world_events.specs.Programs.{crew_at}
use Rattle.mail_world.specs.Books.{books_in}
use Rattle.mail_world.specs.Generations.{lives_in, is_unreported, lowest_unreported}
use Rattle.mail_world.specs.History.{Event, State, report_text}
use Rattle.mail_world.specs.History.Event.{Start, Act, Child, Generation, Report, End, Stop, Moment, Halt}
use Rattle.script_words.specs.declared.letter.Letter.{Letter}
use Rattle.script_words.specs.Words.{letter_byte}
use Rattle.scenario.specs.Chains.{EachFollows}
use Rattle.scenario.specs.Deeds.{Deed, event_in, history_of, after}
use Rattle.scenario.specs.Deeds.Deed.{Came, Fed}
use Rattle.scenario.specs.Steps.{Outcome, refusal_line, plan_through, has_idled, IsRunOf}
use Rattle.scenario.specs.Steps.Outcome.{Happens, Is}
use Rattle.scenario.specs.Steps.Refusal.{Alive, NotWaiting, Rounds}
-- what a search is
pub use Rattle.world_events.specs.Searches.{searches, is_search_call, is_first_call}

-- Generations and reports

-- the first of these that lives
abbrev pub first_alive : State → List (List ℕ) → Option (List ℕ)
first_alive s [] = None
first_alive s (a ∷ later) = if lives_in (s.actors a) then Some a else first_alive s later

-- a generation that starts at this moment
abbrev pub generation_at : ℕ → Event
generation_at now = Generation (crew_at now)

-- what the start of a generation adds, and what it prints, by the first member of the one before that lives
abbrev pub generation_events : ℕ → Option (List ℕ) → List Deed
generation_events now None = Came (generation_at now) ∷ []
generation_events now (Some a) = []

abbrev pub generation_text : Option (List ℕ) → List ℕ
generation_text None = []
generation_text (Some a) = refusal_line Alive a

-- the living remote spawner has a program in that slot, of which no report came
abbrev pub awaits_report : State → ℕ → Bool
awaits_report s slot = lives_in (s.actors (codes "rspawn")) && is_unreported (s.pipework.programs (codes "rspawn") slot)

-- what a report comes to
abbrev pub report_comes : State → ℕ → Letter → List ℕ → Outcome
report_comes s slot letter text = if awaits_report s slot then Happens (Came (Report slot (report_text (letter_byte letter) text))) else Is NotWaiting

-- Turns

-- the actors that an event starts, in order: a generation each member, since it has a program for each
abbrev pub started_in : Event → List (List ℕ)
started_in (Start a program) = a ∷ []
started_in (Act a own wrote) = []
started_in (Child parent own a program) = a ∷ []
started_in (Generation crew) = members
started_in (Report slot output) = []
started_in (End a read ready status) = []
started_in (Stop a) = []
started_in (Moment m) = []
started_in (Halt how contents) = []

-- the starts of these deeds, the oldest first: a member starts again with each generation
abbrev pub starts_of : List Deed → List (List ℕ)
starts_of [] = []
starts_of (deed ∷ before) = starts_of before ++ started_in (event_in deed)

-- a start at this place, before those later ones, is the newest of an actor that lives, and isn't before the place `from`
abbrev pub is_next : State → ℕ → ℕ → List ℕ → List (List ℕ) → Bool
is_next s from at a later = not (nat_lt at from) && (not (list_any (bytes_eq a) later) && lives_in (s.actors a))

-- the first such one of these starts, of which the first has the place `at`; and its place
abbrev pub next_in : State → ℕ → ℕ → List (List ℕ) → Option (List ℕ × ℕ)
next_in s from at [] = None
next_in s from at (a ∷ later) = if is_next s from at a later then Some (a, at) else next_in s from (at + 1) later

-- the next living actor in order of start, from that place on
abbrev pub next_living : Disk → List Deed → ℕ → Option (List ℕ × ℕ)
next_living d h from = next_in (after d h) from 0 (starts_of h)

-- one of these starts has this place, and isn't the newest of an actor that lives
abbrev pub IsDeadAt : State → ℕ → List (List ℕ) → Type 0
IsDeadAt s n [] = ⊥
IsDeadAt s zero (a ∷ later) = (not (list_any (bytes_eq a) later) && lives_in (s.actors a)) ≡ false
IsDeadAt s (suc n) (a ∷ later) = IsDeadAt s n later

-- no actor that lives started at a place from `low` on before `high`
abbrev pub NoneBetween : Disk → List Deed → ℕ → ℕ → Type 0
NoneBetween d h low high = (n : ℕ) → low ≤ n → n < high → IsDeadAt (after d h) n (starts_of h)

-- a part of a turn: the run of that actor, which has that place in the order of starts; its deeds, newest first, and what it prints
pub record Part : Type 0 where
  pub actor : List ℕ
  pub place : ℕ
  pub events : List Deed
  pub text : List ℕ

-- The deeds of some parts, the newest first; what was printed last; and the place after the newest one's. Only a run that made the most
-- steps prints something, and with it the turn is over.
abbrev pub events_of : List Part → List Deed
events_of [] = []
events_of (part ∷ before) = part.events ++ events_of before

abbrev pub text_of : List Part → List ℕ
text_of [] = []
text_of (part ∷ before) = part.text

abbrev pub place_after : List Part → ℕ
place_after [] = 0
place_after (part ∷ before) = part.place + 1

-- A turn goes on with this part after these, newest first: the run of the next living actor, if nothing was printed.
pub record TurnsOn (d : Disk) (h : List Deed) (plan : Plan) (before : List Part) (part : Part) : Type 0 where
  pub quiet : text_of before ≡ []
  pub next : next_living d (events_of before ++ h) (place_after before) ≡ Some (part.actor, part.place)
  pub run : IsRunOf d (events_of before ++ h) (plan_through plan (events_of before)) part.actor part.events part.text

abbrev pub AreParts : Disk → List Deed → Plan → List Part → Type 0
AreParts d h plan parts = EachFollows (TurnsOn d h plan) parts

-- these are all parts of a turn: something was printed, or no living actor is left
pub record IsTurnOf (d : Disk) (h : List Deed) (plan : Plan) (parts : List Part) : Type 0 where
  pub are : AreParts d h plan parts
  pub over : (text_of parts ≢ []) ⊎ (next_living d (events_of parts ++ h) (place_after parts) ≡ None)

-- Rounds

-- a round: its turn, and the slots of which reports came then, newest first
pub record Round : Type 0 where
  pub parts : List Part
  pub slots : List ℕ

abbrev pub settled_by : Letter → ℕ → Deed
settled_by letter slot = Came (Report slot (report_text (letter_byte letter) (codes "settled")))

abbrev pub reports_of : Letter → List ℕ → List Deed
reports_of letter slots = map (settled_by letter) slots

abbrev pub slot_after : List ℕ → ℕ
slot_after [] = 0
slot_after (slot ∷ before) = slot + 1

-- reports go on with this slot after these, newest first: the next one, ascending, whose program has no report
abbrev pub ReportsOn : Disk → List Deed → Letter → List ℕ → ℕ → Type 0
ReportsOn d h letter before slot = lowest_unreported (slot_after before) (after d (reports_of letter before ++ h)) ≡ Some slot

-- these are all of them
pub record AreReported (d : Disk) (h : List Deed) (letter : Letter) (slots : List ℕ) : Type 0 where
  pub are : EachFollows (ReportsOn d h letter) slots
  pub none : lowest_unreported (slot_after slots) (after d (reports_of letter slots ++ h)) ≡ None

-- the reports come after the turn, if it printed nothing
abbrev pub AreReportsAfter : Disk → List Deed → Letter → List ℕ → List ℕ → Type 0
AreReportsAfter d h letter [] slots = AreReported d h letter slots
AreReportsAfter d h letter (b ∷ text) slots = slots ≡ []

abbrev pub round_events : Letter → Round → List Deed
round_events letter round = reports_of letter round.slots ++ events_of round.parts

pub record IsRound (d : Disk) (h : List Deed) (plan : Plan) (letter : Letter) (round : Round) : Type 0 where
  pub turn : IsTurnOf d h plan round.parts
  pub reports : AreReportsAfter d (events_of round.parts ++ h) letter (text_of round.parts) round.slots

-- a search for a message to preprocess, which is all that a sender does in an idle turn
abbrev pub is_search : Event → Bool
is_search (Act a own wrote) = searches a && is_search_call own.due
is_search other = false

abbrev pub is_search_deed : Deed → Bool
is_search_deed (Came event) = is_search event
is_search_deed (Fed a own c message envelope) = false

-- one that begins at the start of its directory, as one search of each turn does
abbrev pub is_first : Event → Bool
is_first (Act a own wrote) = is_first_call own.due
is_first other = false

abbrev pub is_first_deed : Deed → Bool
is_first_deed (Came event) = is_first event
is_first_deed (Fed a own c message envelope) = false

-- These are nothing but searches, and just one of them is from the start: all of `todo/` was searched in them, and by one turn. Two turns, or what is left
-- of one and the next, have two from the start. What is left of a turn that made its search from the start before has none, and isn't idle: a message
-- may have come meanwhile whose name it has passed.
abbrev pub are_searches : List Deed → Bool
are_searches deeds = list_all is_search_deed deeds && (count_by is_first_deed deeds == 1)

-- Nothing happened in a round but an idle turn of the sender, which searched all of `todo/` in it.
abbrev pub is_idle : Disk → List Deed → Letter → Round → Bool
is_idle d h letter round = are_searches (round_events letter round) && has_idled d h (round_events letter round)

-- the deeds of some rounds, newest first
abbrev pub events_in : Letter → List Round → List Deed
events_in letter [] = []
events_in letter (round ∷ before) = round_events letter round ++ events_in letter before

abbrev pub has_bytes : List ℕ → Bool
has_bytes [] = false
has_bytes (b ∷ text) = true

-- `settle` is over with the newest round: it printed something, or it was idle
abbrev pub is_last : Disk → List Deed → Letter → List Round → Bool
is_last d h letter [] = false
is_last d h letter (round ∷ before) = has_bytes (text_of round.parts) || is_idle d (events_in letter before ++ h) letter round

abbrev pub text_in : List Round → List ℕ
text_in [] = []
text_in (round ∷ before) = text_of round.parts

-- the most rounds: 100, and 40 for each mail that was accepted and for each of its recipients
abbrev pub counted : Entry → ℕ
counted entry = if entry.accepted then 1 + entry.recipients else 0

abbrev pub most_rounds : Disk → List Deed → ℕ
most_rounds d h = 100 + 40 * sum_by counted (books_in d (history_of h))

-- `settle` goes on with this round after these, newest first: they are fewer than the most, and it isn't over.
pub record SettlesOn (d : Disk) (h : List Deed) (plan : Plan) (letter : Letter) (before : List Round) (round : Round) : Type 0 where
  pub few : length before < most_rounds d h
  pub more : is_last d h letter before ≡ false
  pub is : IsRound d (events_in letter before ++ h) (plan_through plan (events_in letter before)) letter round

-- it stops with an idle round or one that printed something, or with the most rounds
pub data Settles (d : Disk) (h : List Deed) (letter : Letter) (rounds : List Round) (text : List ℕ) : Type 0 where
  Rests : is_last d h letter rounds ≡ true → text ≡ text_in rounds → Settles d h letter rounds text
  Full : is_last d h letter rounds ≡ false → length rounds ≡ most_rounds d h → text ≡ refusal_line Rounds (codes "settle") → Settles d h letter rounds text

-- these are the rounds of `settle`, and this is what it prints
pub record IsSettled (d : Disk) (h : List Deed) (plan : Plan) (letter : Letter) (rounds : List Round) (text : List ℕ) : Type 0 where
  pub are : EachFollows (SettlesOn d h plan letter) rounds
  pub stops : Settles d h letter rounds text
