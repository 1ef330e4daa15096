-- what programs may ask for that are run so
pub mod Asked
