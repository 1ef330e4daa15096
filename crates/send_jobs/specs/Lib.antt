-- the schedule of a channel
pub mod Channels
-- what is in flight
pub mod Slots
-- what an open pass has still to give
pub mod Passes
-- passes whose places aren't all settled
pub mod Jobs
-- one channel of the sender, and what each call does to it
pub mod Lanes
-- both channels
pub mod Sending
-- runs of calls, and what holds after each
pub mod Runs
-- which reports are final, and what is noted then
pub mod Failures
-- when messages are tried again on a channel
pub mod Tries
-- the lines of the log that speak of deliveries
pub mod Lines
-- what a sender did of which its books tell
pub mod Bookings
