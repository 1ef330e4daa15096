-- what words start
pub mod Starts
-- how processes end, and what is told of it
pub mod Ends
-- what a channel's reader reads
pub mod Flows
-- what became of a reading of the program's own input
pub mod Own
-- what posts tell of the pieces that were taken
pub mod Posted
-- children that run
pub mod Running
