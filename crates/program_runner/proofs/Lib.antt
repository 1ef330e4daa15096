-- what the posts answered
pub mod Heard
-- what a past did outside, one event after another
pub mod Deeds
-- a turn of a program with channels
pub mod MemberTurns
-- runs of programs with channels
pub mod Members
-- runs that begin, go on and end
pub mod Runs
-- calls of a spawner
pub mod Serves
-- what the lines keep agrees with the past
pub mod Told
-- one turn
pub mod Turns
