-- what is taken of a source
pub mod Taken
-- where the reading of a package stands
pub mod Places
-- an injector that is fed a package
pub mod Feeding
-- a package that was received after its first two heads
pub mod Whole
