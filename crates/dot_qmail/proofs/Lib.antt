-- blanks, and the loop over lines
pub mod LineLemmas
-- the stems of the default names
pub mod Stems
-- the first name that is there
pub mod Places
-- what a rank says of a name
pub mod Ranking
-- the name that ranks best is the first that is there
pub mod Choosing
-- paths of maildirs end in `/`
pub mod Directories
