-- turns of a world
pub mod Turns
-- what steps of actors made of a world
pub mod Runs
