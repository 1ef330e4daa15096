-- slots of a table
pub mod Slots
-- names of a listing
pub mod Ordered
-- a call that is counted, from what it does uncounted
pub mod Serving
