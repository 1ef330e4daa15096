-- what the lines of a file tell to do
pub mod Lines
-- which file handles an address
pub mod Choice
-- how names rank
pub mod Ranks
-- where a path leads
pub mod Paths
