pub mod Held
pub mod Rests
