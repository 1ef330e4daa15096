-- the line of what an actor did
pub mod Acts
-- the line of an event
pub mod Events
-- the lines of a mail
pub mod Mails
-- what became of recipients
pub mod Fates
