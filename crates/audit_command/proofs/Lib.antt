-- what is printed, and why a command ended so
pub mod Audits
