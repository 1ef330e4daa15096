pub mod OpenInTurn
pub mod Opened
pub mod TwoNames
