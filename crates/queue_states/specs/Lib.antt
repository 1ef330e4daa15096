-- the states of a message number
pub mod States
-- the names of a directory
pub mod Listing
-- the lines that tell states
pub mod Lines
-- which of a number's files were found
pub mod Found
-- what a search of a queue does to its disk, and why it ends early
pub mod Searches
-- what an audit tells of a queue
pub mod Audit
