-- a pass that runs over a disk
pub mod Passes
