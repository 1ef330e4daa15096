-- the input of an injector, and what one stands for that is fed it
pub mod Inputs
-- the two netstrings that one is given by its parent
pub mod Texts
