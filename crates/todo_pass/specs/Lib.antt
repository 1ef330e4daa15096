-- the files that a pass touches
pub mod Parts
-- what a todo text says, and how bytes are read as one
pub mod Todo
-- what it says sorted by channel
pub mod Sorting
-- records that are read byte by byte
pub mod Feeding
-- where the record of each recipient stands
pub mod Places
-- the texts of the channels are channel files
pub mod Channels
-- what a pass does next, as a function of its own past
pub mod Table
-- what the code of the table reads of rows
pub mod Rows
-- what the fields of a pass keep
pub mod Inside
-- which pass stands for which past
pub mod Stands
-- a run of a pass, as its past
pub mod Run
-- what a run does to a disk
pub mod Disks
-- the lines of the log that speak of a pass
pub mod Lines
-- what a sender knows of a message that was preprocessed
pub mod Known
-- why a pass ended as it did
pub mod Causes
-- the laws of passes
pub mod Laws
