-- lists of pairs of a number and a value, in order of the numbers, read as maps
pub mod Tables
-- one file in memory
pub mod MemFile
-- files by number
pub mod MemFiles
-- files after a machine stop
pub mod MemHalt
