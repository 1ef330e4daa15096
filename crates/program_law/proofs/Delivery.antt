-- names of drops are apart from others
pub mod Apart
-- the names of a delivery's drops are such names
pub mod Placed
-- drops stay by what the queue's programs do
pub mod Stay
-- what a call does to the queue that is none of its own programs'
pub mod Deeds
-- a step of a drop
pub mod Dropping
-- what a delivery holds open
pub mod Holding
-- an event of a delivery
pub mod Events
-- what others leave a delivery
pub mod Alone
