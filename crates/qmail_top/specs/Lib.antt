-- the words of the top call, and the causes of its exit statuses
pub mod Command
-- what a script prints, and that it is safe
pub mod SafePlays
-- the commands that have children
pub mod Families
-- the command that makes a script
pub mod Making
-- the command `work`
pub mod Works
-- what the call does to what it is lent, as one relation
pub mod Called
