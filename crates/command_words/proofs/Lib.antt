-- the command that the first word names
pub mod Commands
-- what a parse by clap says of the words
pub mod Parses
-- a parse by clap, word by word
pub mod Steps
-- words of `queue` that aren't written out
pub mod Walks
-- words of the members of a generation that aren't written out
pub mod Members
-- words of `make` that aren't written out
pub mod Makes
-- numbers that words tell are in range
pub mod Ranges
-- words of `local` that aren't written out
pub mod Delivered
