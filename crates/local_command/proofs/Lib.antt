-- waiting for the end of a child
pub mod Waits
-- feeding a child
pub mod Feeding
-- a need that is served
pub mod Serves
-- one event
pub mod Steps
-- runs that begin, go on and end
pub mod Runs
-- a whole delivery
pub mod Whole
-- what hinders a delivery
pub mod Hindering
-- deliveries that nothing hinders
pub mod Complete
