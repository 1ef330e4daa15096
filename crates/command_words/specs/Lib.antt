-- the simple clap commands, by which words are read
pub mod Lines
-- a number of the command line
pub mod Numbers
-- what `local` is told
pub mod Delivery
-- which command words are
pub mod Reads
-- the places that words name, and the channels of a command
pub mod Places
