-- what a spawner that was run did, and why it ended so
pub mod Spawned
