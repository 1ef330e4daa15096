-- what an injector stands for that is fed its input as it goes
pub mod Pieces
-- the netstrings with which bytes begin
pub mod Cutting
-- what an injector stands for with its input
pub mod Standing
