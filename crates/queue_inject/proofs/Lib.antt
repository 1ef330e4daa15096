-- which exit status comes when, and why
pub mod Causes
-- which calls fail, and with which status
pub mod Failures
-- an envelope that is fed byte by byte
pub mod Feeding
-- what an injector is fed keeps what it stands for
pub mod Kept
-- the next piece of a text, and the row that writes it
pub mod Pieces
-- what a run has come to, by the row after it
pub mod Runs
-- what an injector needs, and where an answer leads it
pub mod Needs
-- what is true of an injector at any time
pub mod InStep
-- what an injector asks for, and what comes of it
pub mod Asks
-- its calls use what it holds open
pub mod Holds
-- how the end comes nearer
pub mod Nearer
-- what an injector does next, once its input is ready
pub mod Acts
-- a text in the pieces in which it is appended
pub mod Cuts
-- how far a run is in the written-out list, and what stops it
pub mod Along
-- its calls are a prefix of that list
pub mod Written
-- how the calls of a run end
pub mod Ends
-- what a run leaves in the queue
pub mod Left
