-- which states are settled
pub mod Settled
-- which histories go well
pub mod Well
-- what is left to do at the end of an idle turn of the sender
pub mod Rests
-- facts of which a settled state comes
pub mod Suffices
-- how `settle` ends
pub mod Ends
-- what `settle` promises, and of which facts that comes
pub mod Promised
-- what each `settle` line of a script leads to
pub mod Lines
-- the steps of the proof
pub mod inside
