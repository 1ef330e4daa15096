-- words, and what each stands for
pub mod Words
-- what a script's disk holds at its beginning
pub mod Entries
-- the parts of a text, as they are read
pub mod Reading
