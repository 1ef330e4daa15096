-- what a channel file says
pub mod Records
-- requests as they lie ready, and the link to a spawner
pub mod Requests
-- how much room the lines of reports take
pub mod Rooms
