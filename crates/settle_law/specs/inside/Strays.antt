-- The names in `todo`, and that a search that ends an idle turn is all of it.
use Rattle.std.specs.Prelude.{◌≡◌, ℕ, List, [], ◌∷◌, true, Some}
use Rattle.call_fs.specs.Disk.{Disk}
use Rattle.queue_law.specs.Cleaners.{IsOnePart}
use Rattle.send_parts.specs.Files.{message_number}
use Rattle.mail_world.specs.History.{Event, after as after_events}
use Rattle.world_events.specs.Searches.{searches}
use Rattle.scenario.specs.Deeds.{Deed, history_of}
use Rattle.settle_law.specs.Ends.{EndsIdle, IsIdleTurn}
use Rattle.settle_law.specs.Well.{GoesWell, TodoIsEmpty, todo_name}

-- Where nothing fails each name that comes there is the number of a message.
abbrev pub TodoHasNumbers : Type 0
TodoHasNumbers = (d : Disk) (h : List Event) → GoesWell d h → TodoIsEmpty d → (part : List ℕ) (file : ℕ) → IsOnePart part
    → (after_events d h).disk.names (todo_name part) ≡ Some file → (n : ℕ) × (message_number part ≡ Some n)

-- So a search that ended an idle turn was the whole turn.
abbrev pub RestsBegin : Type 0
RestsBegin = (d : Disk) (a : List ℕ) (deed : Deed) (before : List Deed) → GoesWell d (history_of (deed ∷ before)) → TodoIsEmpty d → searches a ≡ true
    → EndsIdle d a deed before → IsIdleTurn d before (record { name = a; first = deed; later = [] })
