-- texts cut at a byte
pub mod Cuts
-- words, and the recipients of a mail's line
pub mod WordLists
-- what an envelope is made of, and the body after it
pub mod Envelopes
-- parts of a path
pub mod PathParts
-- directories that a path goes through
pub mod DirsAbove
-- whether an entry agrees with each of some
pub mod Agreeing
-- the texts of entries
pub mod EntryTexts
-- what a remote program reports
pub mod Reports
