-- what `show` prints
pub mod Shown
-- what `sum` prints
pub mod Summed
-- the names of those who start in a world
pub mod Fates
-- what is read of a world for `show` and `sum`
pub mod Viewed
-- what happens in a play, deed by deed
pub mod Deeds
-- the lines of events
pub mod Traced
-- lists whose elements follow one after the other
pub mod Chains
-- what a step and a run come to
pub mod Steps
-- generations, turns and rounds
pub mod Turns
-- the history that a script plays, and what each line prints
pub mod Played
-- what a script prints
pub mod Text
-- a world in which a script is played
pub mod Playing
-- what `work` does with a script, and prints
pub mod Working
-- definitions that only proofs and private code need
pub mod inside
