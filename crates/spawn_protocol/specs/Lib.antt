-- requests, and how their bytes are read
pub mod Request
-- the first request of some bytes
pub mod Cut
-- what a spawner holds of its requests
pub mod Inbox
-- reports, and how their bytes are read
pub mod Report
