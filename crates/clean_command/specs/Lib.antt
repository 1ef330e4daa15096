-- what the command did, and why it ended so
pub mod Cleaned
