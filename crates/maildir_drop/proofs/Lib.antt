-- the form of a name
pub mod Forms
-- blocks, and their bytes
pub mod Joining
-- a message in pieces
pub mod Cutting
-- what a drop holds open
pub mod Holds
-- why a drop ended as it did
pub mod Reasons
-- what stands on a disk at each row
pub mod Drops
-- what a drop stands for after a step
pub mod Standing
