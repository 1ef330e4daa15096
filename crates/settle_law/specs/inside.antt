-- spawners that wait
pub mod Waiting
-- a search of `todo` that gives no name
pub mod Queued
-- the numbers of messages where nothing fails
pub mod Numbers
-- where a sender stands before the search that ends an idle turn
pub mod Begins
-- how many slots a sender has
pub mod Slots
-- when known messages are due at the end of an idle turn
pub mod Dues
-- channel files that serve a sender
pub mod Served
-- when no finish was put off
pub mod Finishes
-- which channel files are gone
pub mod Gone
-- where what a sender has in flight is
pub mod InHand
-- when nothing is in flight at the end of an idle turn
pub mod Free
-- that who serves a sender lives as long as it
pub mod Living
-- which moments a sender is told
pub mod Moments
-- the names in `todo`
pub mod Strays
-- which births it keeps
pub mod Births
-- that no pass is begun while one is open
pub mod Alone
-- what a cleaner answers
pub mod Cleaned
-- what leaves a todo pass
pub mod Passed
-- messages that were tried and have their file
pub mod TriedStay
-- where each report is of a success
pub mod Succeeded
-- jobs that left a place `T`
pub mod Lefts
-- which messages still have something to do
pub mod Undone
-- that todo files are todo texts
pub mod Texts
-- that each preprocessed message is known
pub mod Met
-- numbers whose message file is there, but neither todo nor info
pub mod HalfWay
-- when a sender that ends an idle turn is at rest
pub mod Rests
-- steps whose words are those of the promise
pub mod Steps
