-- the calendar, and the first line of a message file
pub mod Received
