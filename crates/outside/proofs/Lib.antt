-- texts one after another
pub mod Pieces
-- posts one after another
pub mod Sent
-- children that were started
pub mod Fed
-- channels of children
pub mod Channels
