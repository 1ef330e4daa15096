-- what turns tell stays told
pub mod Turns
-- what one step of an actor adds
pub mod Steps
-- what a list of turns makes of a world
pub mod Runs
