-- what a command does with its input
pub mod Commands
-- which status an injection never ends with
pub mod Injections
-- a command that has children, by what it was told
pub mod Families
-- which status a spawner never ends with
pub mod Spawners
-- which status a sender never ends with
pub mod Senders
-- what `make` comes to
pub mod Made
-- what `qmqpd` comes to
pub mod Packages
-- what turns of threads made of a script's world
pub mod Working
-- what the command `work` did
pub mod Works
-- what stays as it is tells what it told
pub mod Lending
