pub mod Feeds
pub mod Writings
