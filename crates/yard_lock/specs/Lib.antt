-- lists of turns, and what they do to a state
pub mod Turns
-- a yard and a pass, as contracts see them
pub mod Model
-- what passes know, and the rule of the lock's table
pub mod Rule
-- definitions that only proofs and private code need
pub mod inside
