pub mod Channel
pub mod Errand
pub mod Sender
pub mod Delivery
pub mod Post
