-- the lowest number of which something holds
pub mod Lowest
-- the slot in which an actor runs
pub mod Slots
-- the members' names, and whose programs run in slots
pub mod Members
-- the seats of the members
pub mod Seats
-- lists
pub mod Lists
-- what an event changes of the pipes that are kept
pub mod Wires
-- and of the slots
pub mod Keeps
-- what an actor does with them
pub mod Feeds
-- what is shut when it is over
pub mod Shuts
-- with what commands exit
pub mod Exits
-- a delivery starts, with pipes of its own
pub mod Grows
-- a generation starts, with new pipes
pub mod Renews
