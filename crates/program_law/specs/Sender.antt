-- the channel files of a queue as their records
pub mod Views
-- what holds of what a sender knows
pub mod Knows
-- a todo pass inside a sender
pub mod InTodo
-- what a sender rests on at each row
pub mod Rows
-- what a living sender relies on
pub mod Stands
-- what is entered in the ledgers
pub mod Takings
-- requests, and channel files that go
pub mod Passing
-- the steps of a mark, and of its note
pub mod Marking
-- readings of files
pub mod Readings
-- passes that open
pub mod Passes
-- the scan of the info files
pub mod Scan
-- the control files as a disk holds them
pub mod Control
-- the text of each request
pub mod Asking
-- the laws
pub mod Laws
-- the commands that a sender gives its cleaner, over the queue
pub mod Commands
-- what a sender waits for, by its table
pub mod Waits
-- a todo pass inside a sender
pub mod Searches
-- the finish of a message, with its return, and the sweep
pub mod Points
-- each event of a sender
pub mod Whole
-- the control files, which nobody changes, and what a sender has read of them
pub mod ControlFiles
-- what others leave a sender
pub mod LeftAlone
-- what steps of others spare
pub mod Spares
