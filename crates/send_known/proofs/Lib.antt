-- a schedule in which something was put, and taken out again
pub mod Undone
-- the list of known messages, and the map by number
pub mod ByNumber
