-- the words that lines begin with
pub mod Keywords
-- what a script says: the entries of its disk, and its lines
pub mod Contents
-- which bytes are a script
pub mod Lines
-- definitions that only proofs and private code need
pub mod inside
