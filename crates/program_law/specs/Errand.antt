-- a sender, its cleaner, and what is under way between them
pub mod Errands
-- the laws
pub mod Laws
-- an errand as it goes
pub mod Worked
-- which names of `pid` it takes away
pub mod OldNames
