-- what lies between the sender and the local spawner
pub mod Posts
