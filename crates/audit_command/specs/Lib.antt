-- what the command prints, and the causes of its exit statuses
pub mod Audited
