-- the table of an errand
pub mod Errands
