-- names of actors
pub mod ActorNames
-- the words that lines begin with
pub mod Keywords
-- lines that start a mail
pub mod MailLines
-- the first word of a line, and what follows it
pub mod LineHeads
-- lists cut in two, and what stands beside them
pub mod Divisions
-- texts that are the entries and lines of a script
pub mod ContentTexts
-- the texts of a script
pub mod Scripts
-- a text is one line, and bytes are one list of texts
pub mod OneLine
-- what bytes say as a script
pub mod SaidContents
