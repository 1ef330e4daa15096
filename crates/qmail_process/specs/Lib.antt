-- what a command over the real things does
pub mod Runs
