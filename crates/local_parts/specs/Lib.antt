-- what a delivery is started with
pub mod Arguments
-- the names of a home
pub mod Names
-- what the fields of blocks keep
pub mod BlocksInside
-- which input is a message
pub mod Inputs
-- the lines before a message
pub mod Texts
-- which message is looping
pub mod Looping
-- the name of the host
pub mod Host
-- which instructions are followed
pub mod Choosing
-- instructions, line by line
pub mod Course
-- what the fields of instructions keep
pub mod CourseInside
-- what is injected for forwards
pub mod Forwarding
-- how commands and injections end
pub mod Endings
-- what a delivery that went well prints
pub mod Tally
-- definitions that only proofs and private code need
pub mod inside
