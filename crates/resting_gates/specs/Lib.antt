-- how long a child may run after its input ended
pub mod Drain
-- how long a sender rests after an idle turn
pub mod Idle
