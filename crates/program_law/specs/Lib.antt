-- the files of a channel, and what a sender keeps of them
pub mod Channel
-- the commands of a cleaner
pub mod Errand
-- the sender over the queue
pub mod Sender
-- local deliveries over the queue
pub mod Delivery
-- the spawners, and the requests that they take
pub mod Post
