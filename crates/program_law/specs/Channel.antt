-- channel files by their records, and marks
pub mod Files
-- what ties a channel of the sender to its files
pub mod Tied
-- what a channel file may read
pub mod Versions
-- the laws
pub mod Laws
