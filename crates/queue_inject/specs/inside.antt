-- what an injector holds open
pub mod Held
-- what the parts of an injector are, and what their fields keep
pub mod Fields
