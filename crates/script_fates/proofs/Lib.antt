-- controls and lists are the same where each of their parts is
pub mod Same
-- control files that are kept
pub mod Kept
-- the lives of messages after a link, and after a report
pub mod Lives
-- by which controls a mail is routed
pub mod Latest
-- what a sender enters that is no taking
pub mod Quiet
-- what a sender's taking adds to its marks
pub mod Takings
