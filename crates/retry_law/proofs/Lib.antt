-- what an event leaves of a message
pub mod Events
-- births and begins are moments
pub mod Told
-- what a pass has that begins
pub mod Beginning
-- passes are jobs
pub mod Jobs
-- when messages are due that were tried, by the past
pub mod Retried
-- and by what the sender keeps
pub mod Due
-- which messages are known
pub mod KnownNow
-- which channel files are gone
pub mod Gone
-- when known messages may be finished
pub mod Finishes
-- which number was left last, and where a search goes on
pub mod Left
-- which message becomes known next
pub mod Comings
-- what a sender knows after an event it didn't let go of before
pub mod LetGo
-- births are the moments of info files
pub mod Infos
-- when nothing fails, by the rows
pub mod Served
-- when no finish is put off
pub mod PutOff
-- which rows show channel files
pub mod Shown
