-- notes, and which addresses a bounce file names
pub mod Notes
-- the message that returns a bounce file
pub mod Bounces
-- how a note is written
pub mod Writing
-- how a message is returned
pub mod Returning
-- the lines of the log that speak of bounces
pub mod Lines
-- what the code of these tables reads of rows
pub mod Rows
-- what the fields of the two machines keep
pub mod Inside
-- runs of the two machines, and what a written note leaves on a disk
pub mod Runs
-- whole lines that notes rest on
pub mod Resting
