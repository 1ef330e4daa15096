-- texts of commands
pub mod Texts
-- the events of a sender, and what is lost
pub mod Links
-- the events of a cleaner
pub mod Cleans
-- the names of `pid` that it takes away
pub mod OldNames
