-- the list of known messages
pub mod Known
-- the same as a map by number
pub mod ByNumber
-- what is known, and when it is due
pub mod Messages
