-- the links' children: how they are started and ended
pub mod Links
-- what a sender that was run did
pub mod Sent
-- why it ended so, by its past
pub mod Ends
