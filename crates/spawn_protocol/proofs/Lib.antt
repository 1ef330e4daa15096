-- a reader fed byte by byte, whatever it reads
pub mod Runs
-- reading requests is their grammar
pub mod Requests
-- the first request of some bytes
pub mod Cuts
-- reading reports is their grammar
pub mod Reports
