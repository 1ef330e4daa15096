-- lists of pairs of a name and a value, in order of the names, read as maps
pub mod Tables
-- a disk in memory
pub mod MemDisk
