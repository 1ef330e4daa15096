-- runs of the sender
pub mod Going
-- where each row of its table leads
pub mod Rows
-- its start, step by step
pub mod Steps
-- the steps of a turn, and how whole runs end
pub mod Turns
-- what was told of a link that was lost
pub mod Lost
-- how the links' children are started and ended
pub mod Linked
-- that 85 comes of a bad control file
pub mod BadFiles
-- that 0 comes after all turns
pub mod Made
-- why a run ended so
pub mod Why
-- that it asks for no command of a user
pub mod Carried
-- the command as a whole
pub mod Whole
-- prefixes of a text that is given in pieces
pub mod Prefixes
