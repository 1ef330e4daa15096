-- texts that are given in pieces
pub mod Pieces
