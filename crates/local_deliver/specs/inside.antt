-- what becomes of a delivery at a step of its drop
pub mod DropAfter
