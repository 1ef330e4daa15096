-- what a child is fed, and what is written of it
pub mod Feedings
