-- the clock of the system
pub mod Clock
-- readings of the system's clock, at the pace of the monotonic one
pub mod Pace
-- what a writer holds after bytes were given to it
pub mod Written
