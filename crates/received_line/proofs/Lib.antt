-- the parts of a date, one after the other
pub mod DateTexts
-- the calendar
pub mod Dates
