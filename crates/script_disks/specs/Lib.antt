-- the disk that a script begins with
pub mod FirstDisk
-- the numbers that have a file
pub mod Numbers
-- where the record of each recipient stands
pub mod Routes
-- what the files of a message tell of a recipient
pub mod Records
