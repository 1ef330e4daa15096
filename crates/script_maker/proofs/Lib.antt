-- numbers that are drawn, and the mails of a script
pub mod Drawn
-- texts that are given in pieces
pub mod Pieces
-- a script that is made
pub mod Makes
