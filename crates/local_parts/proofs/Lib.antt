-- the bytes of blocks
pub mod Joined
-- parts of bytes that come one after the other
pub mod Windows
-- the head of an input
pub mod Heads
-- inputs that are netstrings
pub mod Netstrings
-- searching a header
pub mod Searching
-- instructions, line by line
pub mod Courses
-- forwards among lines
pub mod Forwards
-- the name of the host
pub mod Hosts
