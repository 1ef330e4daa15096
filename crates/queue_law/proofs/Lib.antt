-- tests of texts, numbers and names
pub mod Tests
-- pieces of a text, and statuses
pub mod Texts
-- names and their files
pub mod Looks
-- what a number has in intd and in todo
pub mod Waits
-- what a step leaves of the others
pub mod Frame
-- what one call does to the queue
pub mod Deeds
-- the rows at which a file is made or written
pub mod Rows
-- the rows at which a name comes or goes
pub mod Links
-- one call of one injector
pub mod Step
-- ledgers that grow
pub mod Growth
-- what a line leaves that is entered in one
pub mod Lines
-- channel files
pub mod Marks
-- where records stand
pub mod Places
-- a machine stop
pub mod Halts
-- a step of a program that is none of the queue's
pub mod Foreigners
-- numbers and names that no injector touches any more
pub mod Rests
-- what a program does that works at a closed number
pub mod Closed
-- one call of a cleaner
pub mod Cleaners
-- when a number rests
pub mod Begins
-- a number at work rests on
pub mod RestIsKept
-- one call of a todo pass
pub mod Passes
-- what a todo pass has made
pub mod PassesMake
-- how an injector fares
pub mod Injectors
-- what a sender does
pub mod Sends
-- what a sender does to a bounce file
pub mod Bouncing
-- what a mark and an unlink change
pub mod Changes
-- what an actor holds open
pub mod Opens
-- how each recipient is accounted for
pub mod Accounted
-- what a channel file is read as
pub mod Readings
-- a worked message
pub mod Worked
-- a sound queue is safe
pub mod Claims
-- the notes that a bounce file has stay
pub mod Notes
