-- the parts of a line, as they are read
pub mod Reading
-- what is read so far
pub mod Contents
-- all words that lines begin with
pub mod Keywords
