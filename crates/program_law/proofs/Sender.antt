-- at a row that is next
pub mod Arrive
-- what others leave
pub mod Others
-- what a channel file is read as
pub mod Texts
-- what each event of a channel keeps
pub mod Lanes
-- messages with a job are due apart
pub mod Apart
-- what holds of a desk
pub mod Desks
-- takings
pub mod Entries
-- requests
pub mod Requests
-- channel files that go
pub mod Gone
-- the first of a list
pub mod Heads
-- marks
pub mod Marking
-- notes
pub mod Noting
-- what is due at a step of a note
pub mod NoteDue
-- the write of a mark
pub mod Writes
-- passes that open
pub mod Passes
-- a message that is known from now on
pub mod Learned
-- the sender of a message
pub mod Senders
-- the scan of the info files
pub mod Scan
-- a sender that begins
pub mod Begins
-- readings of files
pub mod Readings
-- numbers that no injector touches any more
pub mod Closes
-- a taking and a giving of a cleaner
pub mod Goes
-- what a sender knows after a pass
pub mod Known
-- the rows of a finish and of the sweep
pub mod Points
-- a todo pass inside a sender
pub mod Passing
-- what a sender gives its cleaner and takes from it
pub mod Awaits
-- what programs it starts
pub mod Programs
-- when a sender waits for nothing
pub mod Frees
-- the giving to a child
pub mod Given
-- what others leave of a finish and of the sweep
pub mod Alone
-- steps that concern one number
pub mod Far
-- where a turn goes on
pub mod Turning
-- returns
pub mod Returns
-- the events of a finish
pub mod Finishing
-- the events of a sweep
pub mod Sweeping
-- the events of a todo pass
pub mod Todos
-- the bytes of the spawners
pub mod Starting
-- controls of a disk
pub mod Exist
-- the reading of the control files
pub mod Controls
-- nobody changes a control file
pub mod ControlsStay
-- what a sender has read of the control files
pub mod ControlsRead
-- what rows do to the requests that lie ready
pub mod AskingRows
-- the requests that lie ready
pub mod Asking
-- each event of a sender
pub mod Whole
-- what others leave a sender
pub mod LeftAlone
-- what steps of others spare
pub mod Spares
