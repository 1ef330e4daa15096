-- the head of an input
pub mod Heads
-- how a header is searched
pub mod Scanning
