-- a disk in memory whose machine can be stopped
pub mod Crash
-- a disk that fails from some call on
pub mod Stopped
-- what a disk answers that fails at the chosen call alone
pub mod Answers
