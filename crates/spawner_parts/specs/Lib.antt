-- what a request has to be for its program to be started
pub mod Asked
-- what a spawner does next
pub mod Table
-- why a spawner has ended, by its past
pub mod Causes
-- how many requests there were, and what became of them
pub mod Counts
-- what a spawner's place tells of its past
pub mod Known
