-- what is printed of recipients
pub mod Printed
-- recipients that are counted by what became of them
pub mod Counts
