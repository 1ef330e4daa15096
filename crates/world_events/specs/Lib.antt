-- the history that a world keeps
pub mod Kept
-- the programs that actors run
pub mod Programs
-- what became of each injection
pub mod Books
-- what a read brings, as an event keeps it
pub mod Reads
-- what the plan of a disk says of an event
pub mod Planned
-- what comes of asking a machine
pub mod Asking
-- how many programs an event starts
pub mod Starting
-- mails of a world
pub mod Mails
-- where each actor stands that is no member
pub mod Places
-- who started, in order
pub mod Starts
-- what that order is
pub mod Order
-- searches for a message to preprocess
pub mod Searches
-- the input of children, which is given after their starts
pub mod Inputs
-- the children that actors start, and how many there are
pub mod Children
-- what an actor has open
pub mod Opened
