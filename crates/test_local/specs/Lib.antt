-- a drop that runs over a disk
pub mod Drops
-- a delivery that runs over a disk
pub mod Deliveries
