-- when a message is tried again
pub mod Retry
-- which entry is due first
pub mod Due
-- how the entries are kept
pub mod Index
