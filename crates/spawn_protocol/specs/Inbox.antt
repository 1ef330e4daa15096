-- What a spawner holds of its requests: what it took and hasn't dealt with, and whether it takes more.
use Rattle.std.specs.Prelude.{ℕ, List, [], ◌++◌, Some, None}
use Rattle.spawn_protocol.specs.declared.inbox.Inbox.{Inbox}
use Rattle.spawn_protocol.specs.declared.inbox.Intake.TheVariants as intake
use Rattle.spawn_protocol.specs.declared.inbox.Pulled.{Pulled}
use Rattle.spawn_protocol.specs.Cut.{Cut, cut}
use Rattle.spawn_protocol.specs.Cut.Cut.{More, Whole, TooLong}

-- nothing was taken yet
abbrev pub empty : Inbox
empty = record { ahead = []; intake = intake.Open }

-- more was taken
abbrev pub with_more : List ℕ → Inbox → Inbox
with_more bytes i = record i { ahead = i.ahead ++ bytes }

-- the requests have ended: a request that has only begun is dropped
abbrev pub ended : Inbox
ended = record { ahead = []; intake = intake.Ended }

-- The next request, if a whole one is there, and what is held then. After a field's 4097th byte no more is taken, and what
-- was taken after it is dropped.
abbrev pub pulled : Cut → Inbox → Pulled
pulled More i = record { request = None; inbox = i }
pulled (Whole request rest) i = record { request = Some request; inbox = record i { ahead = rest } }
pulled TooLong i = record { request = None; inbox = record { ahead = []; intake = intake.TooLong } }

abbrev pub pull : Inbox → Pulled
pull i = pulled (cut i.ahead) i
