-- the directories of each script's disk
pub mod Dirs
-- directories that are made if they are missing, and entries
pub mod MadeDirs
-- the names of a directory, one after the other
pub mod NamesAfter
-- the message numbers of the files in directories
pub mod Gathered
-- the message numbers that aren't in S1
pub mod NumbersInUse
-- where each record stands, as one recipient more comes
pub mod Recorded
-- the names of which a file has notes
pub mod Naming
-- what holds of the recipients of an envelope, as its bytes are read
pub mod Envelopes
