-- pipes, and who runs in whose slot
pub mod Pipework
-- a pipe that is kept
pub mod Pipes
-- the pipes that one actor takes from
pub mod Mouths
-- the pipes that are kept, and where, against those of the model
pub mod Wired
-- what an actor does with them
pub mod Exchanges
-- what an actor finds ready, and what of a child is due to it
pub mod Seating
-- with what the command of a user exits
pub mod Commands
