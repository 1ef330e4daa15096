-- a call that was refused before any disk was asked
pub mod Refused
-- lists in order, each item once
pub mod InOrder
-- what holds or doesn't
pub mod Decided
-- calls by a plan
pub mod CountedCalls
-- a call has one answer
pub mod OneAnswer
-- disks with finitely many names and open descriptors
pub mod FiniteDisks
-- the least free number and descriptor
pub mod LeastFree
-- the names of a directory after another name
pub mod NextNames
-- each call that may be made has an answer
pub mod GivenAnswers
-- a disk whose machine can be stopped answers by its plan
pub mod PlannedAnswers
