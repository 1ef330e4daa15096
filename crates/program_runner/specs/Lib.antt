-- what stands around a program, and what one event does to it
pub mod Outside
-- whole runs
pub mod Runs
-- the channels of a program
pub mod Lines
-- how a need is served
pub mod Serving
-- a program with channels
pub mod Members
-- by which words the programs of a queue start their children
pub mod ChildWords
-- which programs a past has
pub mod Programs
