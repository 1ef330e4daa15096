-- a drop into a maildir within a delivery
pub mod Drops
-- what the fields of a drop keep
pub mod DropInside
-- the texts of failures, and their exit statuses
pub mod Failures
-- what a delivery does next, after its past
pub mod Table
-- which delivery stands for which past
pub mod Stands
-- what a delivery met and did
pub mod Deeds
-- when instructions were carried out
pub mod Carried
-- what a delivery rests on while a drop is at work
pub mod Writes
-- why a delivery has ended as it did
pub mod Causes
-- how the injector of forwards gets its input
pub mod Forwards
-- what a delivery asks for at all
pub mod Asked
-- worked runs
pub mod Worked
-- definitions that only proofs and private code need
pub mod inside
