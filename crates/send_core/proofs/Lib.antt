-- what each row of a sender holds open
pub mod HoldsRows
-- what a sender holds open
pub mod Holds
-- what is in flight once a request was given
pub mod Sent
-- the log goes on by the lines of each event
pub mod Logged
-- lists, slots and reports
pub mod Lists
-- when known messages were born
pub mod Born
-- what is known of messages
pub mod Known
-- requests, and what rows say of what was read
pub mod Asked
-- slots, what is to be given, and the room for marks
pub mod Lanes
-- what a channel keeps fits its account
pub mod Fits
-- how takings and requests change both
pub mod Changes
-- where a sender stands, and what fits there
pub mod Standing
-- what may come of a need
pub mod Coming
-- each step of the start keeps it so
pub mod Early
-- each step of a turn keeps it so
pub mod Turns
-- each step of a note keeps it so
pub mod Noted
-- where each step leads, what it knows and asks
pub mod Leads
-- what the start has read
pub mod StartSays
-- what a todo pass has read
pub mod PassSays
-- which events tell no birth
pub mod Still
-- what else is known at a row
pub mod RowFits
-- each step keeps what was said of senders
pub mod Says
-- what follows for each run
pub mod Runs
-- while a note is written nothing else is done
pub mod Followed
-- what it keeps of a channel agrees with its account
pub mod Agreed
