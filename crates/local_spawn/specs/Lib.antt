-- the letter of a local delivery's report
pub mod Letters
-- a line of users/assign
pub mod Fields
-- the file users/assign
pub mod Assign
-- the line that a local part belongs to
pub mod Finding
-- the users of a file, and the line of a local part, as functions
pub mod Users
-- the delivery of a request, and its report
pub mod Deliveries
-- what a local spawner does next, as a function of its own past
pub mod Table
-- which local spawner stands for which past
pub mod Stands
-- why a local spawner has ended
pub mod Causes
-- which deliveries it starts
pub mod Starts
-- worked runs
pub mod Worked
