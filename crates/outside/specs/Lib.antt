-- bytes that come in and go out
pub mod Streams
-- children and their posts
pub mod Children
-- forms in memory of what lies outside
pub mod Forms
-- what lies outside, with its calls kept
pub mod Recording
