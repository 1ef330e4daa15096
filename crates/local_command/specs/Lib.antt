-- a command of a user, over a spawner and posts
pub mod Commands
-- what each event of a delivery asks of posts and spawner
pub mod Done
-- running a command, part by part
pub mod Waiting
-- how a need is served, and one event
pub mod Serving
-- runs that go on
pub mod Running
-- when nothing hinders a delivery
pub mod Unhindered
-- what the command did, and why it ended so
pub mod Delivered
