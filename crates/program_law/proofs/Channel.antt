-- counts of lists
pub mod Counts
-- what each event keeps
pub mod Ties
-- a mark that is written
pub mod Marks
-- a pass that begins, and a job that is over
pub mod Passes
-- the text of a file after a mark
pub mod Texts
-- what a channel file may read
pub mod Versions
-- the records of a version
pub mod Records
