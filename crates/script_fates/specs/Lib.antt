-- whose message a number is, and who was delivered to, by the books
pub mod Lasting
-- what events of injectors and senders enter in the books
pub mod Entering
-- the control files that are kept
pub mod Routers
-- the lives of messages stand for the books
pub mod Fates
