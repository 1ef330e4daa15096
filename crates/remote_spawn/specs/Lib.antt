-- the parts of an output
pub mod Parts
-- the report of a program's end
pub mod Reports
-- what a remote spawner does next, as a function of its own past
pub mod Table
-- which remote spawner stands for which past
pub mod Stands
-- worked runs
pub mod Worked
-- which programs a remote spawner starts
pub mod Starts
