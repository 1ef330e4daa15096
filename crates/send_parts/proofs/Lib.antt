-- the first bytes of a text
pub mod Prefixes
-- the control files that were read so far
pub mod FilesRead
