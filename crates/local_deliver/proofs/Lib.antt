-- what a delivery holds open
pub mod Holds
-- going on to the next line
pub mod LineSteps
-- a step of the drop at work
pub mod DropSteps
-- deliveries that stand for a past
pub mod Standing
-- all that a past tells
pub mod Deeds
-- lines that are reached
pub mod Reaching
-- names of files: each is its own, and none of instructions is control/me
pub mod MeNames
-- what a delivery has done and knows at each of its rows
pub mod Underway
-- what a delivery has done
pub mod Carrying
-- what holds of the drop at work
pub mod Dropped
-- links are of files that are whole
pub mod Whole
-- how the injector of forwards gets its input
pub mod Forwards
-- why a delivery has ended as it did
pub mod Causing
-- what a delivery asks for
pub mod Asked
