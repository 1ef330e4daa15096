-- the pieces of channels, and their order
pub mod Pieces
-- what passes show, and the rule of the queue
pub mod Rule
-- what a reader reads and pushes
pub mod Readings
