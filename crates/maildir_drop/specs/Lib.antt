-- the names of a drop
pub mod Names
-- what the fields of pieces keep
pub mod PiecesInside
-- what a drop does next, after its past
pub mod Table
-- which drop stands for which past
pub mod Stands
-- how a drop ended
pub mod Ends
-- a run
pub mod Run
-- why a drop ended
pub mod Causes
-- the laws
pub mod Laws
-- what a drop rests on
pub mod Rests
