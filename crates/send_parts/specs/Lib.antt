-- what the sender does at a step
pub mod Steps
-- what came of it
pub mod Replies
-- how a file is read to its end
pub mod Readings
-- what the files that it reads say
pub mod Files
-- the link and the files of a channel
pub mod Channels
-- what is done at a row of the table
pub mod Rows
-- where a step comes from and leads by what is ready and the channel alone
pub mod Points
-- the start
pub mod Start
-- the finish of a message
pub mod Finish
-- the sweep
pub mod Sweep
-- lines of the log
pub mod Lines
