-- records that are read byte by byte
pub mod Records
-- the files of a message on a disk
pub mod Files
-- what stands on a disk at each row
pub mod Stages
-- what each step makes of it
pub mod Made
-- the last step of a pass
pub mod LastStep
-- how a pass ends
pub mod Ends
-- what a pass holds open
pub mod Holds
-- why a pass ended as it did
pub mod Causes
-- where the record of each recipient stands
pub mod Places
-- the texts of the channels are channel files
pub mod Channels
-- a pass that nobody disturbs
pub mod Alone
-- the numbers of a todo text
pub mod Numbers
-- what bytes are read as is what they say
pub mod Todos
