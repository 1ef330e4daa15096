-- the parts of an output
pub mod PartLemmas
-- parts as a relation
pub mod PartLaws
-- reports as a relation
pub mod ReportLaws
-- what its place tells of its past
pub mod Tells
-- its calls use what it holds open
pub mod Holds
