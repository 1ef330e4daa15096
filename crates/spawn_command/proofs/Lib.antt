-- what a spawner's place tells of what it is about to take
pub mod Places
-- which programs its past has
pub mod Programs
-- what is known of a spawner's table
pub mod Laws
-- why a run of a spawner ended so, by its past
pub mod Causes
-- runs of spawners
pub mod Ran
