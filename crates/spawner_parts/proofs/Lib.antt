-- options one after the other, and a place past the end of a list
pub mod Hosts
-- what may come of what a spawner needs
pub mod Coming
-- what a spawner holds open
pub mod Holds
-- what it holds of its requests is what isn't dealt with
pub mod Hears
-- why it has ended
pub mod Reasons
-- a failed give or taking ends it
pub mod Failures
-- how often slots are asked for and run
pub mod Tallies
-- each request has its report, a program, or is at work
pub mod Balance
-- what became of the requests of a past
pub mod Settled
-- which rows come next
pub mod Rows
-- what a program is given is the message as it was read
pub mod Carried
-- a place agrees with its past
pub mod Agree
