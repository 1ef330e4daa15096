-- what senders did with a message
pub mod Ledgers
-- the books: injections
pub mod Books
-- what senders enter in ledgers
pub mod Entered
-- what preprocessing makes of a message
pub mod Routes
-- what a channel file may hold
pub mod Marks
-- what holds of each name and of each number
pub mod Numbers
-- what an injector relies on, and how it fares
pub mod Injectors
-- numbers and names that no injector touches any more
pub mod Rests
-- what a step leaves, and the laws
pub mod Steps
-- what a sound queue is safe by
pub mod Claims
-- how each recipient of an accepted message is accounted for
pub mod Accounts
-- what a sender does to the queue
pub mod Senders
-- what a sender does to the bounce file of a message
pub mod Bouncing
-- what of a number is there before its last names go
pub mod Ready
-- when a number rests
pub mod Begins
-- what a cleaner relies on, and what its call leaves
pub mod Cleaners
-- what a todo pass relies on, leaves and makes
pub mod Passes
-- a worked message
pub mod Worked
-- the notes that a bounce file has
pub mod Notes
