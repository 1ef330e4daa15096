-- a sender, a spawner, and what is under way between them
pub mod Posts
-- the laws
pub mod Laws
-- the sender's half by its desk
pub mod Senders
-- a post as it goes
pub mod Worked
