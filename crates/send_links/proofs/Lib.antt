-- the records of a channel file: the function reads what the relation says
pub mod WholeRecords
