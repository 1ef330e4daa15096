-- slots
pub mod SlotLemmas
-- jobs
pub mod JobLemmas
-- room for marks
pub mod Rooms
-- runs of calls
pub mod RunLaws
