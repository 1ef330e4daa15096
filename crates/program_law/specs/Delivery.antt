-- the names of drops, and that they are apart from what other programs name
pub mod Names
-- the files of drops, and what a step leaves of them
pub mod Leaves
-- what a delivery rests on
pub mod Rests
-- the laws
pub mod Laws
