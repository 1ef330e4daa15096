-- the head of a netstring
pub mod Heads
-- an injector that is fed
pub mod Feeding
-- an injector that is fed from a source
pub mod Sources
-- what an injector keeps of what was heard
pub mod Keeping
-- what was read of both inputs
pub mod Portions
-- some arguments are possible
pub mod Possible
-- an injector that takes its turns
pub mod Going
-- one that is fed from its sources, and runs to its end
pub mod Runs
-- pid names
pub mod PidNames
-- which injections are queued
pub mod Complete
-- a whole injection
pub mod Whole
