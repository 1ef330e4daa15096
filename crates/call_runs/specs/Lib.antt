-- calls that are made one after the other
pub mod Running
-- disks in memory that answer alike, whatever each keeps beside what it holds
pub mod Forms
-- what the lists of a disk in memory hold that keeps nothing else
pub mod Lists
