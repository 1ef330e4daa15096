-- an input, as far as it was read from its source
pub mod Inputs
-- how an injector is fed a portion of its input
pub mod Feeding
-- what an injection did to the disk and asked of the clock
pub mod Runs
-- a whole injection
pub mod Injected
-- definitions that only proofs and private code need
pub mod inside
