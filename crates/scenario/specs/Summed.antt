-- What `sum` prints: how many mails were accepted, how many recipients these have, and how many of them fare as `show` tells it of each.
use Rattle.std.specs.Prelude.{ℕ, List, flat_map, if◌then◌else◌}
use Rattle.std.specs.List.{count_by}
use Rattle.call_fs.specs.Disk.{Disk}
use Rattle.queue_inject.specs.declared.injection.Arguments.{Arguments}
use Rattle.mail_world.specs.History.{Event, after}
use Rattle.mail_world.specs.Books.{books_in, entry_in, mails_of}
use Rattle.world_events.specs.declared.books.Entry.{Entry}
use Rattle.script_traces.specs.declared.fates.RecipientFate.{RecipientFate}
use Rattle.script_traces.specs.Fates.{sum_line, was_accepted}
use Rattle.scenario.specs.Shown.{fates_of, view_of}

-- what became of each recipient of a mail
abbrev pub mail_fates : Disk → List Event → List ℕ × Arguments → List RecipientFate
mail_fates d h mail = fates_of (view_of d h) (entry_in (after d h) h mail) mail.1.envelope

-- of each recipient of all mails, in the order in which `show` prints them
abbrev pub all_fates : Disk → List Event → List RecipientFate
all_fates d h = flat_map (mail_fates d h) (mails_of h)

-- the recipients of a mail, if it was accepted
abbrev pub counted_recipients : Entry → ℕ
counted_recipients e = if e.accepted then e.recipients else 0

-- what `sum` prints after this history, which began with this disk
abbrev pub sum_text : Disk → List Event → List ℕ
sum_text d h = sum_line (count_by was_accepted (books_in d h)) (all_fates d h)
