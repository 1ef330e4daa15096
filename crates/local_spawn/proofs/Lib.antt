-- a line and its pieces
pub mod FieldLemmas
-- eight pieces of a line
pub mod PieceLemmas
-- what stands before a place
pub mod NulLemmas
-- a file line by line
pub mod FileLemmas
-- a file has one reading
pub mod FileLaws
-- the best line so far
pub mod FindingLemmas
-- the users of a file as a function
pub mod UserLemmas
-- the line of a local part as a function
pub mod FoundLemmas
-- what its place tells of its past
pub mod Tells
-- the delivery of a request, in its parts
pub mod DeliveryLemmas
-- why it has ended, and what became of its requests
pub mod Ends
-- its calls use what it holds open
pub mod Holds
