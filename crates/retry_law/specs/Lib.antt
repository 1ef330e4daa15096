-- when messages were tried
pub mod Tried
-- passes and the jobs of the sender
pub mod Passes
-- when messages are due that were tried
pub mod Retries
-- moments that a clock may tell
pub mod Moments
-- which channel files are gone
pub mod Gone
-- when known messages may be finished
pub mod Finishes
-- which number of `todo` was left last, and from which name a search goes on
pub mod Left
-- when births are the moments of info files
pub mod Infos
-- when nothing fails, by the rows of the sender
pub mod Served
