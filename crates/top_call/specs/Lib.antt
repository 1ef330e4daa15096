-- what a call is lent, and that it was made
pub mod Lent
