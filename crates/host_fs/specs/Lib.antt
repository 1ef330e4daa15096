-- the paths that are handed to the system for names
pub mod Names
-- what is open
pub mod Held
-- what refusals and moments of the system mean
pub mod Refusals
-- the next name of a listing
pub mod Listing
-- the names that a listing gives
pub mod Entries
-- when the names of a directory may be kept
pub mod Kept
-- what an open file may be used for
pub mod Modes
-- what a caller knows of a real directory
pub mod HostFs
