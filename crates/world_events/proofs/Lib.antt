-- the recipients of an envelope, counted
pub mod Recipients
-- a map whose keys are texts
pub mod Index
-- lists of open descriptors
pub mod Descriptors
-- what a call brings, and what came of asking a machine
pub mod Calls
-- the actor at a place
pub mod Noted
-- the names of the injectors of bounces
pub mod Bounces
-- lists of events with one event more
pub mod Lasts
-- where a mail stands among all, and where a member does
pub mod AmongAll
-- where each stands, by who started
pub mod Placing
-- the order of starts
pub mod Starting
pub mod Crewing
