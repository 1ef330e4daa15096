-- texts of requests, and which one comes first
pub mod Texts
-- bytes that a reader of reports takes, one part after the other
pub mod Readings
-- requests have no NUL in their fields
pub mod Plains
-- what a change of one part leaves
pub mod Frames
-- the requests of a sender, what it hears first, and what is lost
pub mod Asks
-- how many programs run
pub mod Sums
-- the next request of a spawner
pub mod TakesUp
-- a taking of requests
pub mod TakesIn
-- texts of reports
pub mod Told
-- what a step of a spawner leaves as it was
pub mod Rows
-- what comes of each row
pub mod Steps
-- the work of a spawner
pub mod Works
-- its reports
pub mod Reports
-- the reports that a sender takes
pub mod Hears
-- the sender's slots by its desk
pub mod Desks
-- what each step of a sender leaves
pub mod Leaves
-- which steps of a sender are of no spawner
pub mod Aways
-- an event of the sender
pub mod Senders
-- an event of a spawner
pub mod Spawners
