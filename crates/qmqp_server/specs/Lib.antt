-- what a package is
pub mod Package
-- what is taken of a source
pub mod Sources
-- why bytes are no package
pub mod Faults
-- the answer to a package
pub mod Answers
-- a package that was received
pub mod Received
-- definitions that only proofs and private code need
pub mod inside
