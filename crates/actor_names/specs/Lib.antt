-- the names of mails, and those of the queue's own programs
pub mod MailNames
-- the names of children: bounces, deliveries and forwards
pub mod ChildNames
-- the members of a generation, by name and by seat
pub mod Members
