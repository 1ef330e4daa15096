-- the names of a directory, one after the other
pub mod Listed
-- the names of message files in the queue's directories
pub mod MessageFiles
-- what was found of a queue
pub mod Gathered
-- searches of a disk that may tell what it holds
pub mod Searches
-- a state by the very names
pub mod States
-- a whole audit
pub mod Audits
