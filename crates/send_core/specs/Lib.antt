-- what the sender keeps, and what its steps do to that
pub mod Desk
-- its start
pub mod Start
-- the table of takings, reports, passes and preprocessing
pub mod Turn
-- the table of finish and sweep
pub mod Finish
-- its table
pub mod Table
-- what it does of which its books tell
pub mod Booked
-- its log
pub mod Log
-- which sender stands for which past
pub mod Stands
-- what the fields of a sender keep
pub mod Inside
-- what the control files say by its past
pub mod Papers
-- when messages were born by its past
pub mod Births
-- what a sender's past says of a channel
pub mod Past
-- which senders were said of a message
pub mod Senders
-- what its requests, its notes and its marks are
pub mod Laws
-- what it keeps of a channel is what its past says
pub mod Agrees
