-- a mail more of those that a world has
pub mod Mails
