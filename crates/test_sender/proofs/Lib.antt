-- a sender that runs over a disk
pub mod Running
-- an unlink closes nothing
pub mod Unlinked
