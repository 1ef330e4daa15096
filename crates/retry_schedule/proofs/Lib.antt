-- roots
pub mod Roots
-- entries in order
pub mod Entries
-- the map by number and the index
pub mod Kept
-- a walk over the map
pub mod Walks
