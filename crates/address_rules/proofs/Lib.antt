-- texts cut at a byte
pub mod ByteCuts
-- look-ups by a key
pub mod KeyLemmas
-- lines, and the blanks at their ends
pub mod LineLemmas
-- prefixes and senders
pub mod NameLemmas
-- the route of an address
pub mod RouteLemmas
-- the twelve files
pub mod FileLemmas
-- which line of virtualdomains decides
pub mod LookupLaws
-- routes as relations
pub mod RouteLaws
-- prefixes and senders as relations
pub mod NameLaws
-- faults as relations
pub mod FaultLaws
-- texts without NUL
pub mod Nuls
