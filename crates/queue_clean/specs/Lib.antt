-- what a command is, and how a text is cut into commands
pub mod Commands
-- what a cleaner does next, as a function of its own past
pub mod Table
-- a cleaner as contracts see it
pub mod Machine
-- which cleaner stands for which past
pub mod Stands
-- what the parts of a cleaner are, and what their fields keep
pub mod Inside
-- what a cleaner can ask for
pub mod Asked
-- which answer and which exit status come when, and why
pub mod Causes
-- a worked run
pub mod Worked
