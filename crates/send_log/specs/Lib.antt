-- the lines of the log
pub mod Lines
-- the text of a line piece by piece
pub mod Pieces
-- a log that is kept
pub mod Log
