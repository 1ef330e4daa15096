-- lists of turns, and sums
pub mod Turns
-- each step on the table keeps its rule
pub mod Steps
-- passes that are split and joined, and the table at its start
pub mod Shares
-- what all passes have seen belongs to one list
pub mod OneList
-- a pass with all parts has seen all turns, and the list only grows
pub mod Whole
