-- parts of lists
pub mod Parts
-- texts cut into commands
pub mod Cuts
-- each command and its text
pub mod Texts
-- where the table goes, the cleaner goes
pub mod Follows
-- what a cleaner can ask for
pub mod Demands
-- why a cleaner answers and ends as it does
pub mod Reasons
