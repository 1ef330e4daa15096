-- what an injector makes of its input
pub mod Texts
-- what an injector does next, as a function of its own past
pub mod Table
-- an injector as contracts see it
pub mod Machine
-- which injector stands for which past
pub mod Stands
-- what the code of the table reads of rows and texts
pub mod Rows
-- a run of an injector, as its past
pub mod Run
-- which exit status comes when, and why
pub mod Causes
-- the calls of a run as one written-out list
pub mod Written
-- what a run leaves in the queue
pub mod Left
-- definitions that only proofs and private code need
pub mod inside
