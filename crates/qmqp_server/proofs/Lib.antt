-- netstrings, and packages
pub mod Netstrings
-- envelopes that are given as they are read
pub mod Envelopes
-- bytes that are taken of a source
pub mod Taken
-- the first byte of a buffer
pub mod Buffers
-- the head of a netstring
pub mod NetHeads
-- what was read of a package, and some bytes more
pub mod Values
-- one step of its reading
pub mod Steps
-- its first two heads
pub mod Beginnings
-- an injector that is fed a package
pub mod Feeding
-- the rest of a package
pub mod Passing
-- a whole package
pub mod Received
-- what an injector gets is within its limits
pub mod Fitting
-- which bytes begin no package
pub mod Exclusion
