-- the parts of a netstring
pub mod Reading
