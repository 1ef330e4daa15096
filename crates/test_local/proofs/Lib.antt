-- a drop that runs over a disk
pub mod RunningDrops
-- a delivery that runs over a disk
pub mod RunningDeliveries
