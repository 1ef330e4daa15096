-- how lives are read off the events of a world
pub mod Fates
-- what one turn, round or line of a play leaves
pub mod Playing
-- the lines of one message
pub mod Viewed
