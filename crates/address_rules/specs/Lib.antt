-- texts cut at a byte
pub mod Cuts
-- keys, which differ at most in case, and lists of them
pub mod Keys
-- the lines of a control file, and its faults
pub mod Lines
-- the twelve control files, and what they say
pub mod Files
-- where an address goes
pub mod Routes
-- prefixes taken off, and senders with a recipient's address
pub mod Names
-- texts without NUL
pub mod Nuls
