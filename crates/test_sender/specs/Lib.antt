-- a sender that runs over a disk
pub mod Runs
