-- the lines of a mail
pub mod Mails
-- a whole script
pub mod Script
-- what only proofs need
pub mod inside
