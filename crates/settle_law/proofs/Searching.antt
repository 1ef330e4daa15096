-- What the searches of a sender leave as it was.
use Rattle.std.proofs.Common.{◌≡◌, ℕ, ◌-◌, List, [], ◌∷◌, ◌++◌, Bool, true, false, ◌||◌, if◌then◌else◌, Option, Some, None, refl, ◌∙◌}
use Rattle.std.specs.Prelude.{is_some, nat_lt}
use Rattle.call_fs.specs.declared.past.GotData.{GotData}
use Rattle.call_fs.specs.declared.past.Own.{Own}
use Rattle.send_core.specs.declared.desk.Desk.{Desk}
use Rattle.send_parts.specs.declared.row.Point.TheVariants as point
use Rattle.send_parts.specs.declared.row.Row.{Row}
use Rattle.send_parts.specs.declared.row.Row.TheVariants as at
use Rattle.send_core.specs.Desk.{next_idle, past_todo, stands_at, sweep_due, turn_counted, turn_over}
use Rattle.send_core.specs.Stands.{is_search}
use Rattle.send_core.specs.Table.{act, moved, row_now}
use Rattle.send_core.specs.Turn.{todo_found, todo_named, todo_none}
use Rattle.send_parts.specs.declared.reply.Way.{Way}
use Rattle.send_parts.specs.declared.reply.Way.TheVariants as way
use Rattle.send_parts.specs.declared.rows.Search.{Search}
use Rattle.send_parts.specs.Files.{message_number}
use Rattle.send_parts.specs.Replies.{said}
use Rattle.send_parts.specs.Rows.{is_again}
use Rattle.scenario.specs.Chains.{EachFollows}
use Rattle.settle_law.specs.inside.Rests.{IsWholeTurn, SearchesOn}
use Rattle.settle_law.specs.Suffices.{desk_of}

pub record Keeps (d e : Desk) : Type 0 where
  pub slots : e.slots ≡ d.slots
  pub messages : e.book.messages ≡ d.book.messages
  pub swept : e.swept ≡ d.swept

keeps_then : (d e f : Desk) → Keeps d e → Keeps e f → Keeps d f
keeps_then d e f one more = record { slots = more.slots ∙ one.slots; messages = more.messages ∙ one.messages; swept = more.swept ∙ one.swept }

-- One search, whatever comes of it

counted_keeps : (d : Desk) (turns : Option ℕ) → Keeps d (turn_counted turns (record d { busy = false }))
counted_keeps d None = record { slots = refl; messages = refl; swept = refl }
counted_keeps d (Some k) = by (nat_lt 1 k)
  where
    by : (b : Bool) → Keeps d (if b then record d { busy = false; turns = Some (k - 1); row = at.Turn point.TakeLocal } else record d { busy = false; turns = Some 0; row = at.Ended 0 })
    by true = record { slots = refl; messages = refl; swept = refl }
    by false = record { slots = refl; messages = refl; swept = refl }

past_keeps : (d : Desk) (now : ℕ) → Keeps d (past_todo now d)
past_keeps d now = by (is_some (next_idle now d) || sweep_due now d.swept)
  where
    by : (b : Bool) → Keeps d (if b then stands_at d point.Finish else turn_over d)
    by true = record { slots = refl; messages = refl; swept = refl }
    by false = counted_keeps d d.turns

none_keeps : (again : Bool) (left : List ℕ) (d : Desk) (now : ℕ) → Keeps d (todo_none again left now d)
none_keeps true left d now = past_keeps d now
none_keeps false [] d now = past_keeps d now
none_keeps false (b ∷ bs) d now = record { slots = refl; messages = refl; swept = refl }

found_keeps : (o : Option ℕ) (text : List ℕ) (s : Search) (d : Desk) → Keeps d (todo_found o text s d)
found_keeps None text s d = record { slots = refl; messages = refl; swept = refl }
found_keeps (Some n) text s d = record { slots = refl; messages = refl; swept = refl }

way_keeps : (w : Way) (text : List ℕ) (s : Search) (now : ℕ) (d : Desk) → Keeps d (todo_named w text s now d)
way_keeps way.Fine text s now d = found_keeps (message_number text) text s d
way_keeps way.Over text s now d = none_keeps (is_again s) d.last_left d now
way_keeps way.Absent text s now d = none_keeps (is_again s) d.last_left d now
way_keeps way.Broken text s now d = none_keeps (is_again s) d.last_left d now
way_keeps way.NoMemory text s now d = none_keeps (is_again s) d.last_left d now

row_keeps : (row : Row) (d : Desk) (now : ℕ) (came : GotData) → is_search row ≡ true → Keeps d (act row now came d)
row_keeps (at.FindTodo s) d now came search = way_keeps (said came).way (said came).bytes s now d
row_keeps row d now came search = absurd (cc)

pub search_keeps : (d : Desk) (event : Own) → is_search (row_now d event.read event.ready) ≡ true → Keeps d (moved d event)
search_keeps d event search =
    let keeps = row_keeps (row_now d event.read event.ready) d event.read event.came search in
    record { slots = keeps.slots; messages = keeps.messages; swept = keeps.swept }

-- All searches of a turn

pub all_keep : (past : List Own) (now : ℕ) (later : List Own) → EachFollows (SearchesOn past now) later → Keeps (desk_of past) (desk_of (later ++ past))
all_keep past now [] all = record { slots = refl; messages = refl; swept = refl }
all_keep past now (event ∷ older) all =
    keeps_then (desk_of past) (desk_of (older ++ past)) (desk_of (event ∷ (older ++ past))) (all_keep past now older all.0)
    (search_keeps (desk_of (older ++ past)) event all.1.0)

pub turn_keeps : (past : List Own) (first : Own) (later : List Own) → IsWholeTurn past first later → Keeps (desk_of past) (desk_of (later ++ first ∷ past))
turn_keeps past first later turn =
    keeps_then (desk_of past) (desk_of (first ∷ past)) (desk_of (later ++ first ∷ past)) (search_keeps (desk_of past) first turn.searches)
    (all_keep (first ∷ past) first.read later turn.goes_on)
