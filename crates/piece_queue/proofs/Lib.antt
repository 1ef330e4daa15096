-- lemmas on the pieces of channels
pub mod Chans
-- each move keeps the rule
pub mod Moves
-- two passes in one hand
pub mod Hands
-- what a reader has pushed
pub mod Pushed
