-- a text that is put together piece by piece
pub mod Pieces
-- newlines that become `/`
pub mod Softening
-- first lines, and which addresses they name
pub mod Naming
-- which addresses a file names, line by line
pub mod Counting
-- the calls of a note's writing use what it holds open
pub mod HoldsNote
-- the calls of a return use what it holds open
pub mod HoldsReturn
-- what stands on a disk at each row of a note's writing
pub mod Written
-- what a return has read and given at each of its rows
pub mod Injected
-- notes rest on whole lines
pub mod Resting
