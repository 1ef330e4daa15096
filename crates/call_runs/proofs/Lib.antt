-- calls that are made one after the other
pub mod RunCalls
-- lists of pairs in any order
pub mod Lookups
-- the files of the lists
pub mod Files
-- the least name of a directory
pub mod Least
-- what a planned fault leaves
pub mod Planned
-- two disks in memory that hold the same answer alike
pub mod Alike
